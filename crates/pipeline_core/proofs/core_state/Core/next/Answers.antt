-- What was found is one of the segments.
use Rattle.std.proofs.Common.{◌≡◌, ◌<◌, length, ap, sym, ◌∙◌, subst, ℕ}
use Rattle.pipeline_core.specs.PipelineAt.{Pipeline}
use Rattle.pipeline_core.proofs.Free.{next_below}
use Rattle.pipeline_core.proofs.core_state.Core.next.Goals as goal

pub returns-in-Some-clause-within : goal.returns-in-Some-clause-within
returns-in-Some-clause-within c =
    let below = next_below c.args.self.now c.args.link c.in-Some.segment (sym c.in-Some.ensures) in
    subst (λ (n : ℕ). c.in-Some.segment < n) (ap (λ (p : Pipeline). length p.segments) (sym c.give.ensures)) below
