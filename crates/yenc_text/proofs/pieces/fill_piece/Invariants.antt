use Rattle.std.proofs.Common.{◌≤◌, ◌-◌, length, take}
use Rattle.yenc_text.specs.Text.{IsPiece}
use Rattle.yenc_text.proofs.pieces.fill_piece.Given as goal

abbrev pub invariant-loop-used : goal.invariant-loop-used
invariant-loop-used l = record {
  piece : IsPiece l.line l.rest l.used (take l.len l.piece);
  inside : l.used ≤ length l.rest;
  room : l.len ≤ 65536;
  started : 1 ≤ l.len → 1 ≤ l.used;
}

abbrev pub decreases-loop-used : goal.decreases-loop-used
decreases-loop-used l = length l.rest - l.used
