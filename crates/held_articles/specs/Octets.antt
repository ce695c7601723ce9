-- How many octets lines have (RFC 3977, 8.1.1, ":bytes").
use Rattle.std.specs.Prelude.{ℕ, ◌+◌, List, [], ◌∷◌, ◌++◌, length, sum_by}
use Rattle.held_articles.specs.declared.article.Article.{Article}

-- a line with CRLF behind it
abbrev pub octets_of_line : List ℕ → ℕ
octets_of_line line = length line + 2

-- so many octets, and those of one more line
abbrev pub with_octets : ℕ → List ℕ → ℕ
with_octets octets line = octets + octets_of_line line

-- the lines of an article as it is sent: its head, an empty line, and its body
abbrev pub lines_of : Article → List (List ℕ)
lines_of article = article.head ++ [] ∷ article.body

-- how many octets it has before dots are added
abbrev pub octets_of : Article → ℕ
octets_of article = sum_by octets_of_line (lines_of article)
