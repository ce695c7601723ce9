-- The overview of articles that a server in memory gives (RFC 3977, 8.3).
use Rattle.std.specs.Prelude.{ℕ, Bool, nat_lt, if◌then◌else◌, List, [], ◌∷◌, ◌++◌, length, map, filter, sum_by, codes, decimal, unwrap_or, Option, Some, None}
use Rattle.std.specs.List.{enumerate_from, join_with_byte}
use Rattle.dot_blocks.specs.Blocks.{stuffed}
use Rattle.held_articles.specs.declared.article.Article.{Article}
use Rattle.news_spool.specs.declared.range.NumberRange.{NumberRange}
use Rattle.news_spool.specs.declared.reply.Reply.TheVariants.{Follows, NoneChosen, NoneInRange}
use Rattle.news_spool.specs.Answers.{reply_text}
use Rattle.held_articles.specs.Fields.{field_of}
use Rattle.held_articles.specs.Articles.{in_group}
use Rattle.news_spool.specs.Groups.{articles_in}
use Rattle.held_articles.specs.Octets.{octets_of_line}
use Rattle.news_spool.specs.Ranges.{is_within}

-- ---- one article

abbrev pub is_control : ℕ → Bool
is_control byte = nat_lt byte 32

-- a control byte stands as a space
abbrev pub spaced_byte : ℕ → ℕ
spaced_byte byte = if is_control byte then 32 else byte

abbrev pub spaced : List ℕ → List ℕ
spaced text = map spaced_byte text

-- what a field says, so, or nothing where the head lacks it
abbrev pub field_text : List ℕ → List (List ℕ) → List ℕ
field_text name head = spaced (unwrap_or (field_of name head) [])

-- the lines of an article as it is sent: its head, an empty line, and its body
abbrev pub lines_of : Article → List (List ℕ)
lines_of article = article.head ++ [] ∷ article.body

-- how many octets it has before dots are added
abbrev pub octets_of : Article → ℕ
octets_of article = sum_by octets_of_line (lines_of article)

-- the message-id in angle brackets
abbrev pub bracketed : List ℕ → List ℕ
bracketed id = codes "<" ++ id ++ codes ">"

-- its line: number, subject, who posted it, date, message-id, no references, octets, and lines of the body (RFC 3977, 8.3.2)
unfoldable pub overview_of : ℕ → Article → List ℕ → List ℕ
overview_of number article date = join_with_byte 9 (
    decimal number ∷ field_text (codes "Subject: ") article.head ∷ field_text (codes "From: ") article.head ∷ date
    ∷ bracketed article.id ∷ [] ∷ decimal (octets_of article) ∷ decimal (length article.body) ∷ [])

-- ---- the reply

-- a line for each article of a newsgroup that is in a range
abbrev pub overviews : List ℕ → NumberRange → List ℕ → List Article → List (List ℕ)
overviews name range date articles =
    map (λ entry. overview_of entry.0 entry.1 date) (filter (λ entry. is_within range entry.0) (articles_in name articles))

abbrev pub lines_reply : List (List ℕ) → List ℕ
lines_reply [] = reply_text NoneInRange
lines_reply (line ∷ lines) = reply_text Follows ++ stuffed (line ∷ lines)

-- to the command that asks for the overview of a range, by the newsgroup that was chosen
abbrev pub over_reply : Option (List ℕ) → NumberRange → List ℕ → List Article → List ℕ
over_reply None range date articles = reply_text NoneChosen
over_reply (Some name) range date articles = lines_reply (overviews name range date articles)

-- ---- as the lines are written, from one article to the next

-- those of the articles of a newsgroup, of which the first one has this number
abbrev pub overviews_from : ℕ → List ℕ → List ℕ → List Article → List (List ℕ)
overviews_from number name date articles =
    map (λ entry. overview_of entry.0 entry.1 date) (filter (λ entry. in_group name entry.1) (enumerate_from number articles))
