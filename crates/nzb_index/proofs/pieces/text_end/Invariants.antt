use Rattle.std.proofs.Common.{length, ◌-◌}
use Rattle.nzb_index.specs.MarkupReading.{text_at}
use Rattle.nzb_index.proofs.PieceSteps.{StillReading}
use Rattle.nzb_index.proofs.pieces.text_end.Given as goal

abbrev pub invariant-loop-end : goal.invariant-loop-end
invariant-loop-end l = StillReading text_at l.text l.at l.end l.out

abbrev pub decreases-loop-end : goal.decreases-loop-end
decreases-loop-end l = length l.text - l.end
