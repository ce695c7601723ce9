use Rattle.std.proofs.Common.{ℕ, List, ◌++◌, ◌≤◌, ◌-◌, length, take}
use Rattle.link_dialog.specs.Block.{IsInBlock}
use Rattle.link_dialog.proofs.block.find_end.Given as goal

abbrev pub invariant-loop-at : goal.invariant-loop-at
invariant-loop-at l = record {
  inside : l.at ≤ length l.piece;
  goes_on : (heard : List ℕ) → IsInBlock l.fn.framer heard → IsInBlock l.framer (heard ++ take l.at l.piece);
}

abbrev pub decreases-loop-at : goal.decreases-loop-at
decreases-loop-at l = length l.piece - l.at
