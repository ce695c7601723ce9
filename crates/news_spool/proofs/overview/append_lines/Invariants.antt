use Rattle.std.proofs.Common.{◌≡◌, ◌+◌, ◌++◌, drop}
use Rattle.dot_blocks.specs.Blocks.{stuffed}
use Rattle.news_spool.specs.Overview.{overviews_from}
use Rattle.news_spool.proofs.overview.append_lines.Given as goal

abbrev pub invariant-loop-i : goal.invariant-loop-i
invariant-loop-i l =
    l.out ++ stuffed (overviews_from (l.number + l.i) l.name l.date (drop l.i l.articles))
    ≡ l.initial.out ++ stuffed (overviews_from l.number l.name l.date l.articles)
