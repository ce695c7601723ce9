-- What a server in memory says of a newsgroup (RFC 3977, 6.1.1). Its articles have the numbers from 1 on.
use Rattle.std.specs.Prelude.{ℕ, ◌+◌, ◌<◌, min, max, List, [], ◌∷◌, ◌++◌, length, map, filter, fold, codes, decimal, Option, Some, None}
use Rattle.std.specs.List.{enumerate_from}
use Rattle.nntp_lines.specs.Command.{crlf}
use Rattle.nntp_lines.specs.declared.group.GroupReply.{GroupReply}
use Rattle.held_articles.specs.declared.article.Article.{Article}
use Rattle.held_articles.specs.Articles.{in_group}
use Rattle.news_spool.specs.declared.reply.Reply.TheVariants.{NotInGroup}
use Rattle.news_spool.specs.Answers.{reply_text}

-- the articles that are in it, each with its number
abbrev pub articles_in : List ℕ → List Article → List (ℕ × Article)
articles_in name articles = filter (λ entry. in_group name entry.1) (enumerate_from 1 articles)

-- how many numbers there are, the least and the greatest
abbrev pub count_of : List ℕ → Option GroupReply
count_of [] = None
count_of (number ∷ more) = Some (record { count = length (number ∷ more); low = fold min number more; high = fold max number more })

-- those of a newsgroup, if an article is in it
abbrev pub group_count : List ℕ → List Article → Option GroupReply
group_count name articles = count_of (map (λ entry. entry.0) (articles_in name articles))

-- ---- the reply

-- the line by which a newsgroup is chosen
unfoldable pub group_line : List ℕ → GroupReply → List ℕ
group_line name told = codes "211 " ++ decimal told.count ++ codes " " ++ decimal told.low ++ codes " " ++ decimal told.high ++ codes " " ++ name

abbrev pub count_reply : List ℕ → Option GroupReply → List ℕ
count_reply name None = reply_text NotInGroup
count_reply name (Some told) = group_line name told ++ crlf

-- to the command that names it
abbrev pub group_reply : List ℕ → List Article → List ℕ
group_reply name articles = count_reply name (group_count name articles)

-- the newsgroup that is chosen then: a refusal leaves it as it was
abbrev pub chosen_after : List ℕ → Option GroupReply → Option (List ℕ) → Option (List ℕ)
chosen_after name None before = before
chosen_after name (Some told) before = Some name

-- ---- as the articles are counted, from one number to the next

-- one number more
abbrev pub with_number : Option GroupReply → ℕ → GroupReply
with_number None number = record { count = 1; low = number; high = number }
with_number (Some told) number = record { count = told.count + 1; low = min told.low number; high = max told.high number }

-- what was counted is below a number
pub record CountsBelow (number : ℕ) (told : GroupReply) : Type 0 where
  pub count : told.count < number
  pub low : told.low < number
  pub high : told.high < number
