use Rattle.std.proofs.Common.{◌≡◌, ◌≤◌, ◌+◌, ◌-◌, length}
use Rattle.std.specs.List.{slice_split}
use Rattle.yenc_lines.specs.Keywords.{is_space, items_in, ybegin}
use Rattle.yenc_lines.specs.Gathered.{gathered, named_of, nothing, plain_of}
use Rattle.yenc_lines.proofs.HeaderLaws.{items_from}
use Rattle.yenc_lines.proofs.header.read_header.Given as goal

abbrev pub invariant-loop-at : goal.invariant-loop-at
invariant-loop-at l = record {
  inside : l.at ≤ length l.text + 1;
  long : length l.numbers ≡ 9;
  numbers : gathered l.numbers (plain_of (items_from l.text l.at)) ≡ gathered nothing (plain_of (items_in ybegin.known (slice_split is_space l.text)));
  named : named_of (items_from l.text l.at) ≡ named_of (items_in ybegin.known (slice_split is_space l.text));
}

abbrev pub decreases-loop-at : goal.decreases-loop-at
decreases-loop-at l = length l.text + 1 - l.at
