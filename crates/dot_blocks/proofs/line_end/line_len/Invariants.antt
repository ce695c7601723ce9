use Rattle.std.proofs.Common.{◌≤◌, ◌-◌, length}
use Rattle.dot_blocks.proofs.LineSearch.{NoEndBelow}
use Rattle.dot_blocks.proofs.line_end.line_len.Given as goal

abbrev pub invariant-loop-feed : goal.invariant-loop-feed
invariant-loop-feed l = record {
  inside : l.from ≤ length l.bytes;
  before : NoEndBelow l.bytes l.from;
}

abbrev pub decreases-loop-feed : goal.decreases-loop-feed
decreases-loop-feed l = length l.bytes - l.from
