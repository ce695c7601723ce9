use Rattle.std.proofs.Common.{◌≡◌, ◌≤◌, ◌-◌, ◌++◌, length, drop}
use Rattle.lists.specs.Text.{text_lines}
use Rattle.lists.proofs.text.split_text.Given as goal

abbrev pub invariant-loop-len : goal.invariant-loop-len
invariant-loop-len l = record {
  inside : l.at ≤ length l.text;
  lines : l.lines ++ text_lines (drop l.at l.text) ≡ text_lines l.text;
}

abbrev pub decreases-loop-len : goal.decreases-loop-len
decreases-loop-len l = length l.text - l.at
