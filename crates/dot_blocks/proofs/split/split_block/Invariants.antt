use Rattle.std.proofs.Common.{◌≤◌, ◌-◌, length, take}
use Rattle.dot_blocks.specs.Blocks.{AreWireLines}
use Rattle.dot_blocks.proofs.split.split_block.Given as goal

abbrev pub invariant-loop-len : goal.invariant-loop-len
invariant-loop-len l = record {
  inside : l.at ≤ length l.block;
  are_lines : AreWireLines l.lines (take l.at l.block);
}

abbrev pub decreases-loop-len : goal.decreases-loop-len
decreases-loop-len l = length l.block - l.at
