use Rattle.std.proofs.Common.{length, sym, subst, false, arith, replicate}
use Rattle.pipeline_core.specs.PipelineAt.{Pipeline}
use Rattle.machine_rows.proofs.Known.{Known, known-start}
use Rattle.machine_rows.proofs.trial.Trial.new.Goals as goal

pub invariant_of-result : goal.invariant_of-result
invariant_of-result c =
    let known = subst (λ (q : Pipeline). Known q (replicate 64 false) (length c.args.server_of_link.now) c.args.segments) (sym c.in-Ok.ensures)
    (known-start c.args.server_of_link.now c.args.level_of_server.now c.args.segments c.args.depth (omega (arith, c.if-links-gt64.false))) in
    record { few = known.few; as_many = known.as_many; parts = known.parts; ends = known.ends }
