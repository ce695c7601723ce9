use Rattle.std.proofs.Common.{◌≡◌, ◌≤◌, ◌+◌, ◌-◌, drop, reverse, length}
use Rattle.std.specs.List.{prefix_len}
use Rattle.yenc_lines.specs.Keywords.{is_space}
use Rattle.yenc_lines.proofs.trim.spaces_behind.Given as goal

abbrev pub invariant-loop-count : goal.invariant-loop-count
invariant-loop-count l = record {
  inside : l.count ≤ length l.text;
  behind : prefix_len is_space (reverse l.text) ≡ l.count + prefix_len is_space (drop l.count (reverse l.text));
}

abbrev pub decreases-loop-count : goal.decreases-loop-count
decreases-loop-count l = length l.text - l.count
