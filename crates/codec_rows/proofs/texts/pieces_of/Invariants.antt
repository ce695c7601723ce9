use Rattle.std.proofs.Common.{◌≤◌, ◌-◌, length}
use Rattle.codec_rows.proofs.texts.pieces_of.Given as goal

abbrev pub invariant-loop-at : goal.invariant-loop-at
invariant-loop-at l = record {
  inside : l.at ≤ length l.content;
  counted : l.count ≤ l.at;
}

abbrev pub decreases-loop-at : goal.decreases-loop-at
decreases-loop-at l = length l.content - l.at
