use Rattle.std.proofs.Common.{length, ◌-◌}
use Rattle.nzb_index.specs.MarkupReading.{value_at}
use Rattle.nzb_index.proofs.PieceSteps.{StillReading}
use Rattle.nzb_index.proofs.pieces.value_end.Given as goal

abbrev pub invariant-loop-end : goal.invariant-loop-end
invariant-loop-end l = StillReading (value_at l.quote) l.text l.at l.end l.out

abbrev pub decreases-loop-end : goal.decreases-loop-end
decreases-loop-end l = length l.text - l.end
