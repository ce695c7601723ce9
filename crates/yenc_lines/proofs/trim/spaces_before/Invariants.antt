use Rattle.std.proofs.Common.{◌≡◌, ◌+◌, drop}
use Rattle.std.specs.List.{prefix_len}
use Rattle.yenc_lines.specs.Keywords.{is_space}
use Rattle.yenc_lines.proofs.trim.spaces_before.Given as goal

abbrev pub invariant-loop-at : goal.invariant-loop-at
invariant-loop-at l = prefix_len is_space l.text ≡ l.at + prefix_len is_space (drop l.at l.text)
