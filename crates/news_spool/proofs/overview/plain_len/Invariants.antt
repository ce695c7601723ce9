use Rattle.std.proofs.Common.{◌≡◌, ◌+◌, drop}
use Rattle.std.specs.List.{position_or_len}
use Rattle.news_spool.specs.Overview.{is_control}
use Rattle.news_spool.proofs.overview.plain_len.Given as goal

abbrev pub invariant-loop-at : goal.invariant-loop-at
invariant-loop-at l = position_or_len is_control l.text ≡ l.at + position_or_len is_control (drop l.at l.text)
