use Rattle.std.proofs.Common.{take}
use Rattle.par2_check.specs.Firsts.{AreFirsts}
use Rattle.par2_check.specs.Set.{counts_in}
use Rattle.par2_check.proofs.set.slices_of.Given as goal

abbrev pub invariant-loop-i : goal.invariant-loop-i
invariant-loop-i l = AreFirsts (counts_in l.slice l.set l.packets) l.packets (take l.i l.packets) l.entries
