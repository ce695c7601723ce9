-- The articles that a file is posted as (RFC 5536, 2.2 and 3.1; yEnc draft 1.3): for each part a head and a body.
use Rattle.std.specs.Prelude.{◌≡◌, ℕ, ◌+◌, ◌≤◌, List, [], ◌∷◌, ◌++◌, length, sum_by, All, IsTrue}
use Rattle.article_head.specs.Head.{head_lines}
use Rattle.dot_blocks.specs.Blocks.{IsBlock, stuffed}
use Rattle.yenc_body.specs.Canonical.{IsCanonicalBody}
use Rattle.yenc_body.specs.Parts.{body_spec, most_bytes, most_parts, part_bytes, part_length, parts_of}
use Rattle.yenc_body.specs.declared.spec.BodySpec.{BodySpec}
use Rattle.yenc_lines.specs.Name.{has_no_line_end}
use Rattle.poster.specs.Plan.{IsPartNumber, id_of}
use Rattle.poster.specs.Settings.{AreSettings}
use Rattle.poster.specs.declared.settings.Settings.{Settings}
use Rattle.limits.specs.declared.TheConstants.{MOST_OCTETS}

-- an article: its message-id, the lines of its head with the empty one, and those of its body
pub record Article : Type 0 where
  pub id : List ℕ
  pub head : List (List ℕ)
  pub body : List (List ℕ)

abbrev pub lines_of : Article → List (List ℕ)
lines_of a = a.head ++ a.body

-- the head of the article of a part, counted from 1
abbrev pub head_of : Settings → (part total : ℕ) → List ℕ → List (List ℕ)
head_of s part total id = head_lines s.from s.newsgroups s.comment s.name part total id

-- what its body is made for
abbrev pub spec_for : Settings → (size part : ℕ) → BodySpec
spec_for s size part = body_spec s.name s.line size s.part_size part

-- the article of a part of a file of this many bytes, counted from 1, with the part's bytes
pub record IsArticle (s : Settings) (size part : ℕ) (bytes : List ℕ) (a : Article) : Type 0 where
  pub id_is : a.id ≡ id_of s size part
  pub head_is : a.head ≡ head_of s part (parts_of size s.part_size) a.id
  pub body_is : IsCanonicalBody (spec_for s size part) bytes a.body

-- the articles of a file's parts, from a part on
abbrev pub AreArticlesFrom : ℕ → Settings → List ℕ → List Article → Type 0
AreArticlesFrom part s file [] = Unit {0}
AreArticlesFrom part s file (a ∷ articles) =
    IsArticle s (length file) part (part_bytes file s.part_size part) a × AreArticlesFrom (part + 1) s file articles

-- the articles of a file: one for each part, in order
pub record AreArticles (s : Settings) (file : List ℕ) (articles : List Article) : Type 0 where
  pub count : length articles ≡ parts_of (length file) s.part_size
  pub each : AreArticlesFrom 1 s file articles

-- ---- as they are sent

-- how many octets a line has with CRLF behind it
abbrev pub octets_of_line : List ℕ → ℕ
octets_of_line line = length line + 2

-- how many octets an article has before it is stuffed
abbrev pub octets_of : Article → ℕ
octets_of a = sum_by octets_of_line (lines_of a)

-- the block of the article of a part, and how many octets the article has
pub record IsWritten (s : Settings) (size part : ℕ) (bytes block : List ℕ) (octets : ℕ) : Type 0 where
  pub article : Article
  pub is_article : IsArticle s size part bytes article
  pub block_is : block ≡ stuffed (lines_of article)
  pub is_block : IsBlock (lines_of article) block
  pub octets_are : octets ≡ octets_of article
  pub octets_most : octets ≤ MOST_OCTETS

-- ---- laws

-- no line of an article holds NUL, CR or LF (RFC 3977, 3.1.1)
abbrev pub ArticlesHoldNoLineEnd : Type 0
ArticlesHoldNoLineEnd = (s : Settings) (size part : ℕ) (bytes : List ℕ) (a : Article) → AreSettings s → size ≤ most_bytes →
    parts_of size s.part_size ≤ most_parts → IsPartNumber size s.part_size part → length bytes ≡ part_length size s.part_size part →
    IsArticle s size part bytes a → All (λ line. IsTrue (has_no_line_end line)) (lines_of a)

-- a file has one list of articles
abbrev pub OneListOfArticles : Type 0
OneListOfArticles = (s : Settings) (file : List ℕ) → AreSettings s →
    (articles : List Article) × AreArticles s file articles × ((others : List Article) → AreArticles s file others → others ≡ articles)
