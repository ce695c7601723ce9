-- Articles by their message-ids (RFC 5536, 3.1.3: no two articles have the same one).
use Rattle.std.specs.Prelude.{◌≡◌, ℕ, ◌+◌, Bool, false, ◌==◌, if◌then◌else◌, List, map, slice_get, position, Option, Some, None, Vec}
use Rattle.std.specs.Option.{option_and_then}
use Rattle.std.specs.List.{list_any}
use Rattle.std.specs.Str.{bytes_eq}
use Rattle.held_articles.specs.declared.article.Article.{Article}

-- an article has this message-id
abbrev pub has_id : List ℕ → Article → Bool
has_id id article = bytes_eq article.id id

-- the place of the article with a message-id, counted from 0
abbrev pub place_of : List ℕ → List Article → Option ℕ
place_of id articles = position (has_id id) articles

-- a number is one of these
abbrev pub is_absent : ℕ → List ℕ → Bool
is_absent number absent = list_any (λ lacked. lacked == number) absent

-- the article at a place, on a server that lacks those with these numbers, which are counted from 1
abbrev pub present_at : List ℕ → List Article → ℕ → Option Article
present_at absent articles place = if is_absent (place + 1) absent then None else slice_get articles place

-- the article with a message-id, on such a server
abbrev pub present_article : List ℕ → List ℕ → List Article → Option Article
present_article id absent articles = option_and_then (present_at absent articles) (place_of id articles)

-- ---- in relations

-- no two of the articles have the same message-id
abbrev pub AreOnce : List Article → Type 0
AreOnce articles = (i k : ℕ) (first second : Article) → slice_get articles i ≡ Some first → slice_get articles k ≡ Some second → first.id ≡ second.id → i ≡ k

-- an article that has this message-id stands among them, and its number isn't one of those that are lacking
pub record IsPresent (id absent : List ℕ) (articles : List Article) (article : Article) : Type 0 where
  pub place : ℕ
  pub there : slice_get articles place ≡ Some article
  pub own : article.id ≡ id
  pub given : is_absent (place + 1) absent ≡ false

-- what is found is such an article, and where nothing is found there is none
abbrev pub IsFoundWhere : List ℕ → List ℕ → List Article → Option Article → Type 0
IsFoundWhere id absent articles None = (article : Article) → ¬ (IsPresent id absent articles article)
IsFoundWhere id absent articles (Some article) = IsPresent id absent articles article

-- ---- as they are kept

-- the message-ids of the articles, each at its article's place
abbrev pub AreIdsOf : {Z : Type 0} → List Article → List (Vec ℕ Z) → Type 0
AreIdsOf articles keys = map (λ key. key.items) keys ≡ map (λ article. article.id) articles

-- the articles and the keys by which they are found
pub record AreKept {Z : Type 0} (articles : List Article) (keys : List (Vec ℕ Z)) : Type 0 where
  pub ids : AreIdsOf articles keys
  pub once : AreOnce articles
