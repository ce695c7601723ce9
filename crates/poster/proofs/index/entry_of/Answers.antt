use Rattle.std.proofs.Common.{ap, arith, length}
use Rattle.poster.proofs.PlanLaws.{count_of_parts}
use Rattle.poster.proofs.index.entry_of.Goals as goal

pub overflow_cast-total : goal.overflow_cast-total
overflow_cast-total c = omega (arith, c.len-total.ensures, count_of_parts c.args.settings.now c.args.plan.now c.requires.plan, c.requires.plan.few_parts)

pub segments_of-requires-clause-few : goal.segments_of-requires-clause-few
segments_of-requires-clause-few c =
    omega (arith, ap length c.as_slice-5.ensures, count_of_parts c.args.settings.now c.args.plan.now c.requires.plan, c.requires.plan.few_parts)
