use Rattle.std.proofs.Common.{◌≡◌, None, take}
use Rattle.std.specs.List.{find}
use Rattle.par2_check.specs.Bodies.{is_main}
use Rattle.par2_check.proofs.set.first_main.Given as goal

abbrev pub invariant-loop-i : goal.invariant-loop-i
invariant-loop-i l = find is_main (take l.i l.packets) ≡ None
