use Rattle.std.proofs.Common.{◌≡◌, length}
use Rattle.range_assembler.specs.Sides.{AllSome}
use Rattle.range_assembler.proofs.order.Order.new.Given as goal

abbrev pub invariant-loop-done : goal.invariant-loop-done
invariant-loop-done l = (length l.sides.items ≡ l.done) × AllSome l.sides.items
