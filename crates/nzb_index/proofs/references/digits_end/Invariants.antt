use Rattle.std.proofs.Common.{length, ◌-◌}
use Rattle.nzb_index.proofs.ReferenceEnds.{StillDigits}
use Rattle.nzb_index.proofs.references.digits_end.Given as goal

abbrev pub invariant-loop-end : goal.invariant-loop-end
invariant-loop-end l = StillDigits l.text l.at l.end l.radix l.value

abbrev pub decreases-loop-end : goal.decreases-loop-end
decreases-loop-end l = length l.text - l.end
