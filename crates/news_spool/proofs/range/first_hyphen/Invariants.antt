use Rattle.std.proofs.Common.{◌≡◌, ◌+◌, ◌==◌, drop}
use Rattle.std.specs.List.{position_or_len}
use Rattle.news_spool.proofs.range.first_hyphen.Given as goal

abbrev pub invariant-loop-at : goal.invariant-loop-at
invariant-loop-at l = position_or_len (λ byte. byte == 45) l.text ≡ l.at + position_or_len (λ byte. byte == 45) (drop l.at l.text)
