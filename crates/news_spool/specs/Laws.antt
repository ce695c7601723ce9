-- Laws of what a server in memory says.
use Rattle.std.specs.Prelude.{ℕ, ◌≤◌, ◌<◌, ◌^◌, List, length, All}
use Rattle.dot_blocks.specs.Blocks.{HoldsNoLineEnd}
use Rattle.nntp_lines.specs.GroupReply.{IsGroupLine}
use Rattle.nntp_lines.specs.MessageId.{IsMessageId}
use Rattle.nntp_lines.specs.declared.group.GroupReply.{GroupReply}
use Rattle.held_articles.specs.declared.article.Article.{Article}
use Rattle.news_spool.specs.Groups.{group_line}
use Rattle.held_articles.specs.Octets.{octets_of}
use Rattle.news_spool.specs.Overview.{overview_of}
use Rattle.limits.specs.declared.TheConstants.{MOST_ARTICLE}

-- the line by which a newsgroup is chosen says these numbers to a client (RFC 3977, 6.1.1), as far as they have at most 16 digits
abbrev pub GroupLineSaysCounts : Type 0
GroupLineSaysCounts = (name : List ℕ) (told : GroupReply) → told.count ≤ MOST_ARTICLE → told.low ≤ MOST_ARTICLE → told.high ≤ MOST_ARTICLE →
    IsGroupLine (group_line name told) told

-- the line of an article in an overview is one line, where the date holds no control byte
abbrev pub OverviewIsOneLine : Type 0
OverviewIsOneLine = (number : ℕ) (article : Article) (date : List ℕ) → number < 2 ^ 64 → octets_of article < 2 ^ 64 → length article.body < 2 ^ 64 →
    IsMessageId article.id → All (λ byte. 32 ≤ byte) date → HoldsNoLineEnd (overview_of number article date)
