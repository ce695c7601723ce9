-- What a server in memory says of an article that is asked for by its message-id (RFC 3977, 6.2.3 and 6.2.4).
use Rattle.std.specs.Prelude.{ℕ, List, ◌++◌, codes, Option, Some, None}
use Rattle.dot_blocks.specs.Blocks.{stuffed}
use Rattle.nntp_lines.specs.Command.{crlf}
use Rattle.held_articles.specs.declared.article.Article.{Article}
use Rattle.news_spool.specs.declared.reply.Reply.TheVariants.{NoneWithId}
use Rattle.news_spool.specs.Answers.{reply_text}

-- A status line with the article's message-id in angle brackets. Its number is 0, as no newsgroup's numbers are asked for.
abbrev pub found_text : List ℕ → List ℕ → List ℕ
found_text code id = code ++ codes " 0 <" ++ id ++ codes ">" ++ crlf

-- to the command for its body: the body's lines as a block follow
abbrev pub body_reply : Option Article → List ℕ
body_reply None = reply_text NoneWithId
body_reply (Some article) = found_text (codes "222") article.id ++ stuffed article.body

-- to the command that asks whether it is there
abbrev pub stat_reply : Option Article → List ℕ
stat_reply None = reply_text NoneWithId
stat_reply (Some article) = found_text (codes "223") article.id
