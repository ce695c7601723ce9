use Rattle.std.proofs.Common.{◌≡◌, ◌≤◌, ◌+◌, ◌-◌, length}
use Rattle.std.specs.List.{slice_split}
use Rattle.yenc_lines.specs.Keywords.{is_space, items_in}
use Rattle.yenc_lines.specs.Gathered.{gathered, nothing}
use Rattle.yenc_lines.proofs.ItemLaws.{pieces_from}
use Rattle.yenc_lines.proofs.items.read_numbers.Given as goal

abbrev pub invariant-loop-at : goal.invariant-loop-at
invariant-loop-at l = record {
  inside : l.at ≤ length l.text + 1;
  long : length l.numbers ≡ 9;
  rest : gathered l.numbers (items_in l.known (pieces_from l.text l.at)) ≡ gathered nothing (items_in l.known (slice_split is_space l.text));
}

abbrev pub decreases-loop-at : goal.decreases-loop-at
decreases-loop-at l = length l.text + 1 - l.at
