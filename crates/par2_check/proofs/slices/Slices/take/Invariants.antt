use Rattle.std.proofs.Common.{◌≡◌, ◌≤◌, ◌+◌, ◌-◌, List, ℕ, length}
use Rattle.par2_check.specs.Checking.{IsCounted, IsNextPiece, StandsFor}
use Rattle.par2_check.proofs.slices.Slices.take.Given as goal

abbrev pub invariant-loop-at : goal.invariant-loop-at
invariant-loop-at l = record {
  most : l.at ≤ length l.piece;
  counted : IsCounted l.slice l.self;
  taken : l.self.taken ≡ l.initial.self.taken + l.at;
  stands : (content : List ℕ) → IsNextPiece content l.initial.self.taken l.piece → StandsFor l.slice l.file content l.initial.self → StandsFor l.slice l.file content l.self;
}

abbrev pub decreases-loop-at : goal.decreases-loop-at
decreases-loop-at l = length l.piece - l.at
