use Rattle.std.proofs.Common.{◌∙◌, sym, subst}
use Rattle.pipeline_core.specs.PipelineAt.{Pipeline}
use Rattle.machine_rows.proofs.Known.{Known, known-settling, unheld}
use Rattle.machine_rows.proofs.trial.Trial.settle.Goals as goal

pub settle-requires-clause-unheld : goal.settle-requires-clause-unheld
settle-requires-clause-unheld c =
    unheld c.args.self.now.core c.args.segment (sym c.state.ensures.state ∙ c.in-Open.is)

pub invariant_of-self : goal.invariant_of-self
invariant_of-self c =
    let t = c.args.self.now in
    let before : Known t.core t.over t.links t.segments = record { few = t.few; as_many = t.as_many; parts = t.parts; ends = t.ends } in
    let known = subst (λ (q : Pipeline). Known q t.over t.links t.segments) (sym c.settle.ensures) (known-settling t.core t.over t.links t.segments c.args.segment before) in
    record { few = known.few; as_many = known.as_many; parts = known.parts; ends = known.ends }
