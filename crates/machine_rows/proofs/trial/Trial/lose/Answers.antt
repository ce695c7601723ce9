use Rattle.std.proofs.Common.{sym, subst, true, arith, set}
use Rattle.pipeline_core.specs.PipelineAt.{Pipeline}
use Rattle.machine_rows.proofs.Known.{Known, known-over}
use Rattle.machine_rows.proofs.trial.Trial.lose.Goals as goal

pub invariant_of-self : goal.invariant_of-self
invariant_of-self c =
    let t = c.args.self.now in
    let before : Known t.core t.over t.links t.segments = record { few = t.few; as_many = t.as_many; parts = t.parts; ends = t.ends } in
    let known = subst (λ (q : Pipeline). Known q (set t.over c.args.link true) t.links t.segments) (sym c.over.ensures) (known-over t.core t.over t.links t.segments c.args.link (omega (arith, c.if-link-self.true)) (omega arith) before) in
    record { few = known.few; as_many = known.as_many; parts = known.parts; ends = known.ends }
