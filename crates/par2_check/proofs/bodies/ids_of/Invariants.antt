use Rattle.std.proofs.Common.{◌≡◌, [], drop}
use Rattle.std.specs.List.{fold}
use Rattle.par2_check.specs.Bodies.{pieces, with_id}
use Rattle.par2_check.proofs.bodies.ids_of.Given as goal

abbrev pub invariant-loop-i : goal.invariant-loop-i
invariant-loop-i l = l.ids.keys ≡ fold with_id [] (pieces 16 (drop 76 l.packet) l.i)
