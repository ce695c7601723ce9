use Rattle.std.proofs.Common.{◌∙◌, length, ap}
use Rattle.pipeline_core.specs.PipelineAt.{Pipeline}
use Rattle.pipeline_core.proofs.Placed.{finished-by}
use Rattle.pipeline_core.proofs.core_state.Core.finished.Goals as goal

pub returns-clause-value : goal.returns-clause-value
returns-clause-value c =
    finished-by c.args.self.now c.first_undecided.result c.len.result (c.len.ensures ∙ c.self.inside.segments.ok.0 ∙ ap (λ (q : Pipeline). length q.segments) c.self.view_is)
    c.first_undecided.ensures.within c.first_undecided.ensures.decided c.first_undecided.ensures.undecided
