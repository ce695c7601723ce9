-- The octets of lines, counted one line after the other.
use Rattle.std.proofs.Common.{◌≡◌, ℕ, ◌+◌, List, [], ◌∷◌, Some, Ok, Err, Result, length, drop, sym, ◌∙◌, ap}
use Rattle.std.specs.Prelude.{IfOk, fold, slice_get}
use Rattle.std.proofs.lemmas.List.Sums.{fold-append}
use Rattle.held_articles.specs.declared.article.Article.{Article}
use Rattle.held_articles.specs.Octets.{with_octets}
use Rattle.held_articles.specs.Octets.{octets_of}
use Rattle.held_articles.proofs.Places.{from_place}

pub one_line : (lines : List (List ℕ)) (i octets more : ℕ) (line : List ℕ) → slice_get lines i ≡ Some line → more ≡ octets + (length line + 2)
    → fold with_octets more (drop (i + 1) lines) ≡ fold with_octets octets (drop i lines)
one_line lines i octets more line is one =
    ap (λ (n : ℕ). fold with_octets n (drop (i + 1) lines)) one
    ∙ ap (λ (rest : List (List ℕ)). fold with_octets octets rest) (sym (from_place lines i line is))

-- the lines of the head, the empty line and those of the body
pub three_parts : {E : Type 0} (article : Article) (head empty : ℕ) (all : Result ℕ E) → head ≡ fold with_octets 0 article.head → empty ≡ head + 2
    → IfOk all (λ octets. octets ≡ fold with_octets empty article.body) → IfOk all (λ octets. octets ≡ octets_of article)
three_parts article head empty (Ok all) h e a =
    a ∙ ap (λ (n : ℕ). fold with_octets n article.body) (e ∙ ap (λ (n : ℕ). n + 2) h)
    ∙ sym (fold-append with_octets 0 article.head ([] ∷ article.body))
three_parts article head empty (Err error) h e a = tt
