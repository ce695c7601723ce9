use Rattle.std.proofs.Common.{take}
use Rattle.par2_check.specs.Bodies.{is_desc}
use Rattle.par2_check.specs.Firsts.{AreFirsts}
use Rattle.par2_check.proofs.set.descs_of.Given as goal

abbrev pub invariant-loop-i : goal.invariant-loop-i
invariant-loop-i l = AreFirsts (is_desc l.set) l.packets (take l.i l.packets) l.descs
