use Rattle.std.proofs.Common.{◌≡◌, ◌+◌, drop, None}
use Rattle.std.specs.Prelude.{IfSome}
use Rattle.std.specs.List.{fold}
use Rattle.news_spool.specs.Groups.{CountsBelow}
use Rattle.news_spool.proofs.GroupCounts.{numbers_from, with_more}
use Rattle.news_spool.proofs.group.count_group.Given as goal

abbrev pub invariant-loop-i : goal.invariant-loop-i
invariant-loop-i l = record {
  left : fold with_more l.found (numbers_from (l.i + 1) l.name (drop l.i l.articles)) ≡ fold with_more None (numbers_from 1 l.name l.articles);
  below : IfSome l.found (CountsBelow (l.i + 1));
}
