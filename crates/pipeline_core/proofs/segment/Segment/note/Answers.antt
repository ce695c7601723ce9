use Rattle.std.proofs.Common.{◌∙◌, ap, sym, true, List, Bool}
use Rattle.pipeline_core.specs.SegmentAt.{SegmentAt}
use Rattle.pipeline_core.specs.Pipeline.{with_outcome}
use Rattle.pipeline_core.specs.declared.state.Outcome.{Outcome}
use Rattle.pipeline_core.specs.declared.state.Outcome.TheVariants.{NotHere}
use Rattle.pipeline_core.proofs.Exclusive.{edit-const}
use Rattle.pipeline_core.proofs.segment.Segment.note.Goals as goal

pub returns-in-NotHere : goal.returns-in-NotHere
returns-in-NotHere c =
    ap (λ (t : List Bool). record { arrived = c.self.inside.arrived; answered = t }) (edit-const c.self.inside.answered c.args.server true)
    ∙ ap (λ (s : SegmentAt). with_outcome c.args.server NotHere s) c.self.view_is
    ∙ ap (λ (o : Outcome). with_outcome c.args.server o c.args.self.now) (sym c.in-NotHere.is)
