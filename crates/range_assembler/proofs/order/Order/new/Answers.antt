use Rattle.range_assembler.proofs.SidesLaws.{all_have}
use Rattle.range_assembler.proofs.order.Order.new.Goals as goal

pub invariant_of-result : goal.invariant_of-result
invariant_of-result c = all_have c.loop-done.sides.items c.new-2.result c.loop-done.invariant.1
