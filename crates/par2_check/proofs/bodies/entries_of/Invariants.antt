use Rattle.std.proofs.Common.{◌≡◌}
use Rattle.par2_check.specs.Bodies.{entries_to}
use Rattle.par2_check.proofs.bodies.entries_of.Given as goal

abbrev pub invariant-loop-i : goal.invariant-loop-i
invariant-loop-i l = l.entries ≡ entries_to l.packet l.i
