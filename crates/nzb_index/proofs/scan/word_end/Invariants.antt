use Rattle.std.proofs.Common.{length, ◌≡◌, ◌≤◌, drop}
use Rattle.nzb_index.specs.MarkupReading.{word}
use Rattle.nzb_index.proofs.scan.word_end.Given as goal

abbrev pub invariant-loop-byte : goal.invariant-loop-byte
invariant-loop-byte l = (l.at ≤ l.end) × (l.end ≤ length l.text) × (word l.expected (drop l.at l.text) ≡ word (drop l.byte-index l.expected) (drop l.end l.text))
