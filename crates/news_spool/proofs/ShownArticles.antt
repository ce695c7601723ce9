-- Which articles an overview shows: those of a part of the articles, and in it those of the newsgroup from the first one on.
use Rattle.std.proofs.Common.{◌≡◌, ℕ, zero, suc, ◌+◌, ◌-◌, ◌<◌, ◌≤◌, Bool, true, false, List, [], ◌∷◌, ◌++◌, Some, None, length, map, take, drop, refl, sym, ◌∙◌, ap, append_assoc, arith, inl, inr}
use Rattle.std.specs.Prelude.{cond, filter, min, nat_lt, position}
use Rattle.std.specs.List.{enumerate_from, position_or_len}
use Rattle.std.proofs.lemmas.Bool.{cases_Bool, ltb-true}
use Rattle.std.proofs.lemmas.Bool.Decides.{nat_tests}
use Rattle.std.proofs.lemmas.List.{length-drop, take_all}
use Rattle.std.proofs.Math.ListN.{drop_of_length-le}
use Rattle.dot_blocks.specs.Blocks.{stuffed}
use Rattle.held_articles.specs.declared.article.Article.{Article}
use Rattle.news_spool.specs.declared.range.NumberRange.{NumberRange}
use Rattle.news_spool.specs.declared.reply.Reply.TheVariants.{Follows, NoneInRange}
use Rattle.news_spool.specs.Answers.{reply_text}
use Rattle.held_articles.specs.Articles.{in_group}
use Rattle.news_spool.specs.Overview.{lines_reply, overview_of, overviews, overviews_from}
use Rattle.news_spool.specs.Ranges.{is_within}

-- the articles of a newsgroup, of which the first one has this number
abbrev pub numbered_in : List ℕ → ℕ → List Article → List (ℕ × Article)
numbered_in name number articles = filter (λ entry. in_group name entry.1) (enumerate_from number articles)

abbrev pub shown : NumberRange → List (ℕ × Article) → List (ℕ × Article)
shown range entries = filter (λ entry. is_within range entry.0) entries

passed : (name : List ℕ) (range : NumberRange) (article : Article) (articles : List Article) (number : ℕ) → is_within range number ≡ false
    → shown range (numbered_in name number (article ∷ articles)) ≡ shown range (numbered_in name (number + 1) articles)
passed name range article articles number out = elim (cases_Bool (in_group name article)) [
  | inl own ↦ rw (own, out) refl
  | inr other ↦ rw other refl
]

kept : (name : List ℕ) (range : NumberRange) (article : Article) (articles rest : List Article) (number : ℕ) → is_within range number ≡ true
    → shown range (numbered_in name (number + 1) articles) ≡ numbered_in name (number + 1) rest
    → shown range (numbered_in name number (article ∷ articles)) ≡ numbered_in name number (article ∷ rest)
kept name range article articles rest number within same = elim (cases_Bool (in_group name article)) [
  | inl own ↦ rw (own, within) (ap (λ (entries : List (ℕ × Article)). (number, article) ∷ entries) same)
  | inr other ↦ rw other same
]

below : (range : NumberRange) (number : ℕ) → number < range.first → is_within range number ≡ false
below range number h = grind (arith, nat_tests)

above : (range : NumberRange) (number : ℕ) → range.last < number → is_within range number ≡ false
above range number h = grind (arith, nat_tests)

inside : (range : NumberRange) (number : ℕ) → range.first ≤ number → number ≤ range.last → is_within range number ≡ true
inside range number h k = grind (arith, nat_tests)

-- those whose numbers are in the range stand together
pub stand_together : (name : List ℕ) (range : NumberRange) (articles : List Article) (number start end : ℕ) → start ≡ min (range.first - number) end
    → end ≡ min (range.last + 1 - number) (length articles)
    → shown range (numbered_in name number articles) ≡ numbered_in name (number + start) (take (end - start) (drop start articles))
stand_together name range [] number start end s e =
    let none : end ≡ 0 = omega arith in
    let first : start ≡ 0 = omega arith in
    rw (none, first) refl
stand_together name range (article ∷ articles) number start zero s e =
    let first : start ≡ 0 = omega arith in
    rw first (passed name range article articles number (above range number (omega arith)) ∙ stand_together name range articles (number + 1) 0 0 (omega arith) (omega arith))
stand_together name range (article ∷ articles) number zero (suc end) s e =
    let number_is : number + 0 ≡ number = omega arith in
    let next_is : number + 1 + 0 ≡ number + 1 = omega arith in
    let whole : suc end - 0 ≡ suc end = omega arith in
    let rest : end - 0 ≡ end = omega arith in
    let same = stand_together name range articles (number + 1) 0 end (omega arith) (omega arith) in
    rw (number_is, whole) (kept name range article articles (take end articles) number (inside range number (omega arith) (omega arith)) (rw (next_is, rest) at same))
stand_together name range (article ∷ articles) number (suc start) (suc end) s e =
    let next_is : number + suc start ≡ number + 1 + start = omega arith in
    let less : suc end - suc start ≡ end - start = omega arith in
    rw (next_is, less) (passed name range article articles number (below range number (omega arith)) ∙ stand_together name range articles (number + 1) start end (omega arith) (omega arith))

-- ---- from the first one of the newsgroup on

abbrev place_of : List ℕ → List Article → ℕ
place_of name articles = position_or_len (λ article. in_group name article) articles

from_first : (name : List ℕ) (articles : List Article) (number k : ℕ) → k ≡ place_of name articles
    → numbered_in name number articles ≡ numbered_in name (number + k) (drop k articles)
from_first name [] number k is = let none : k ≡ 0 = is in rw none refl
from_first name (article ∷ articles) number k is = elim (cases_Bool (in_group name article)) [
  | inl own ↦
      let none : k ≡ 0 = is ∙ rw own refl in
      let same : number + 0 ≡ number = omega arith in
      rw (none, same) refl
  | inr other ↦
      let more : k ≡ suc (place_of name articles) = is ∙ rw other (omega arith) in
      let next : number + suc (place_of name articles) ≡ number + 1 + place_of name articles = omega arith in
      rw (more, next, other) (from_first name articles (number + 1) (place_of name articles) refl)
]

-- an article of the newsgroup stands at a place
abbrev StandsAt : List ℕ → List Article → ℕ → Type 0
StandsAt name articles k = (article : Article) × (rest : List Article) × (drop k articles ≡ article ∷ rest) × (in_group name article ≡ true)

one_later : (name : List ℕ) (article : Article) (articles : List Article) (k place : ℕ) → k ≡ suc place → StandsAt name articles place → StandsAt name (article ∷ articles) k
one_later name article articles k place more found = (found.0, found.1, ap (λ (n : ℕ). drop n (article ∷ articles)) more ∙ found.2, found.3)

-- the first one does
first_stands : (name : List ℕ) (articles : List Article) (k : ℕ) → k ≡ place_of name articles → k < length articles → StandsAt name articles k
first_stands name [] k is within = absurd (omega arith)
first_stands name (article ∷ articles) k is within = elim (cases_Bool (in_group name article)) [
  | inl own ↦ let none : k ≡ 0 = is ∙ rw own refl in (article, articles, ap (λ (n : ℕ). drop n (article ∷ articles)) none, own)
  | inr other ↦
      let more : k ≡ suc (place_of name articles) = is ∙ rw other (omega arith) in
      one_later name article articles k (place_of name articles) more (first_stands name articles (place_of name articles) refl (omega (arith, more)))
]

-- what a search finds
cases_of : {X : Type 0} (test : Bool) (k : X) → (cond test (Some k) None ≡ None → test ≡ false) × ((x : X) → cond test (Some k) None ≡ Some x → (test ≡ true) × (k ≡ x))
cases_of true k = ((λ e. cc), (λ x e. (refl, cc)))
cases_of false k = ((λ e. refl), (λ x e. cc))

-- ---- the reply

abbrev part : List Article → ℕ → ℕ → List Article
part articles start end = take (end - start) (drop start articles)

lines_from_part : (name date : List ℕ) (range : NumberRange) (articles : List Article) (start end k : ℕ) → start ≡ min (range.first - 1) end
    → end ≡ min range.last (length articles) → k ≡ place_of name (part articles start end)
    → overviews name range date articles ≡ overviews_from (start + k + 1) name date (drop k (part articles start end))
lines_from_part name date range articles start end k s e is =
    let number : 1 + start + k ≡ start + k + 1 = omega arith in
    ap (λ (entries : List (ℕ × Article)). map (λ (entry : ℕ × Article). overview_of entry.0 entry.1 date) entries)
    (stand_together name range articles 1 start end s (omega arith) ∙ rw number at (from_first name (part articles start end) (1 + start) k is))

pub none_shown : (name date : List ℕ) (range : NumberRange) (articles : List Article) (start end : ℕ) → start ≡ min (range.first - 1) end
    → end ≡ min range.last (length articles) → None ≡ position (λ article. in_group name article) (part articles start end)
    → reply_text NoneInRange ≡ lines_reply (overviews name range date articles)
none_shown name date range articles start end s e none =
    let k : ℕ = place_of name (part articles start end) in
    let past : nat_lt k (length (part articles start end)) ≡ false = (cases_of (nat_lt k (length (part articles start end))) k).0 (sym none) in
    let behind : drop k (part articles start end) ≡ [] = drop_of_length-le (part articles start end) (grind (arith, nat_tests)) in
    ap (λ (lines : List (List ℕ)). lines_reply lines)
    (sym (lines_from_part name date range articles start end k s e refl
    ∙ ap (λ (rest : List Article). overviews_from (start + k + 1) name date rest) behind))

begun : (name date : List ℕ) (number : ℕ) (articles : List Article) (article : Article) (rest : List Article) → articles ≡ article ∷ rest
    → in_group name article ≡ true → lines_reply (overviews_from number name date articles) ≡ reply_text Follows ++ stuffed (overviews_from number name date articles)
begun name date number articles article rest is own = rw (is, own) refl

pub some_shown : (name date : List ℕ) (range : NumberRange) (articles : List Article) (start end k : ℕ) → start ≡ min (range.first - 1) end
    → end ≡ min range.last (length articles) → Some k ≡ position (λ article. in_group name article) (part articles start end)
    → (k < length (part articles start end))
    × (lines_reply (overviews name range date articles) ≡ reply_text Follows
    ++ stuffed (overviews_from (start + k + 1) name date (take (length (part articles start end) - k) (drop k (part articles start end)))))
some_shown name date range articles start end k s e some =
    let place : ℕ = place_of name (part articles start end) in
    let found = (cases_of (nat_lt place (length (part articles start end))) place).1 k (sym some) in
    let is : k ≡ place = sym found.1 in
    let within : k < length (part articles start end) = omega (arith, is, ltb-true place (length (part articles start end)) found.0) in
    let stands = first_stands name (part articles start end) k is within in
    let all : take (length (part articles start end) - k) (drop k (part articles start end)) ≡ drop k (part articles start end) =
    take_all (length (part articles start end) - k) (drop k (part articles start end)) (omega (arith, length-drop k (part articles start end))) in (
      within,
      ap (λ (lines : List (List ℕ)). lines_reply lines) (lines_from_part name date range articles start end k s e is)
          ∙ begun name date (start + k + 1) (drop k (part articles start end)) stands.0 stands.1 stands.2 stands.3
          ∙ ap (λ (rest : List Article). reply_text Follows ++ stuffed (overviews_from (start + k + 1) name date rest)) (sym all),
    )

pub block_of : (old said block reply : List ℕ) → said ≡ old ++ reply_text Follows → reply ≡ reply_text Follows ++ block → said ++ block ≡ old ++ reply
block_of old said block reply s r = rw (s, r) (append_assoc old (reply_text Follows) block)
