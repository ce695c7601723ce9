-- What an article is that a server in memory takes (RFC 5536, 3.1): the lines of its head, which have the four fields that a
-- poster has to give, and the lines of its body.
use Rattle.std.specs.Prelude.{ℕ, Bool, if◌then◌else◌, List, Option, Some, None}
use Rattle.std.specs.List.{list_any}
use Rattle.std.specs.Str.{bytes_eq}
use Rattle.article_head.specs.Field.{names_of}
use Rattle.held_articles.specs.Fields.{has_from_and_subject, id_of, newsgroups_of}
use Rattle.held_articles.specs.declared.article.Article.{Article}

-- the article of these newsgroups and this message-id, where there are both
abbrev pub with_fields : Option (List ℕ) → Option (List ℕ) → List (List ℕ) → List (List ℕ) → Option Article
with_fields None id head body = None
with_fields (Some newsgroups) None head body = None
with_fields (Some newsgroups) (Some id) head body = Some (record { id = id; newsgroups = newsgroups; head = head; body = body })

-- the article of a head and a body, where the head has the fields
unfoldable pub article_of : List (List ℕ) → List (List ℕ) → Option Article
article_of head body = if has_from_and_subject head then with_fields (newsgroups_of head) (id_of head) head body else None

-- an article has this message-id
abbrev pub is_known : List ℕ → List Article → Bool
is_known id articles = list_any (λ article. bytes_eq article.id id) articles

-- an article that is placed in one newsgroup
abbrev pub new_article : (id group : List ℕ) (head body : List (List ℕ)) → Article
new_article id group head body = record { id = id; newsgroups = group; head = head; body = body }

-- an article is in the newsgroup of this name (RFC 5536, 3.1.4)
unfoldable pub in_group : List ℕ → Article → Bool
in_group name article = list_any (λ own. bytes_eq own name) (names_of article.newsgroups)
