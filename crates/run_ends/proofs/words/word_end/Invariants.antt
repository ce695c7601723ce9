use Rattle.std.proofs.Common.{◌≡◌, ◌+◌, drop}
use Rattle.std.specs.List.{position_or_len}
use Rattle.run_ends.specs.Reading.{is_word_end}
use Rattle.run_ends.proofs.words.word_end.Given as goal

abbrev pub invariant-loop-at : goal.invariant-loop-at
invariant-loop-at l = position_or_len is_word_end l.text ≡ l.at + position_or_len is_word_end (drop l.at l.text)
