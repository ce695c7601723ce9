use Rattle.std.proofs.Common.{length, ◌-◌}
use Rattle.nzb_index.proofs.Betweens.{StillBetween}
use Rattle.nzb_index.proofs.scan.pieces_end.Given as goal

abbrev pub invariant-pieces : goal.invariant-pieces
invariant-pieces l = StillBetween l.text l.at l.end

abbrev pub decreases-pieces : goal.decreases-pieces
decreases-pieces l = length l.text - l.end
