use Rattle.std.proofs.Common.{sym, subst}
use Rattle.pipeline_core.specs.PipelineAt.{Pipeline}
use Rattle.machine_rows.proofs.Known.{Known, known-greeted}
use Rattle.machine_rows.proofs.trial.Trial.greet.Goals as goal

pub invariant_of-self : goal.invariant_of-self
invariant_of-self c =
    let t = c.args.self.now in
    let before : Known t.core t.over t.links t.segments = record { few = t.few; as_many = t.as_many; parts = t.parts; ends = t.ends } in
    let known = subst (λ (q : Pipeline). Known q t.over t.links t.segments) (sym c.greeted.ensures) (known-greeted t.core t.over t.links t.segments c.args.link before) in
    record { few = known.few; as_many = known.as_many; parts = known.parts; ends = known.ends }
