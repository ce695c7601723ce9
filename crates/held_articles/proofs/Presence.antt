-- Which article is found by a message-id.
use Rattle.std.proofs.Common.{◌≡◌, ℕ, zero, suc, ◌+◌, ◌⊎◌, inl, inr, Bool, true, false, ◌||◌, ◌<◌, cond, List, [], ◌∷◌, ◌++◌, Some, None, length, take, get_or, refl, sym, ◌∙◌, ap, subst, arith}
use Rattle.std.specs.Prelude.{Option, not, position, if◌then◌else◌, slice_get}
use Rattle.std.specs.Option.{option_and_then}
use Rattle.std.specs.List.{position_or_len}
use Rattle.std.specs.Str.{bytes_eq}
use Rattle.std.proofs.lemmas.Bool.{lt-ltb}
use Rattle.std.proofs.lemmas.List.Quantifiers.{position-Some}
use Rattle.std.proofs.lemmas.Option.{slice_get-get_or}
use Rattle.std.proofs.lemmas.Slice.Eq.{bytes_eq-Decides}
use Rattle.held_articles.specs.declared.article.Article.{Article}
use Rattle.held_articles.specs.Articles.{is_known}
use Rattle.held_articles.specs.ById.{AreOnce, IsFoundWhere, IsPresent, has_id, is_absent, place_of, present_article, present_at}

pub none_once : AreOnce []
none_once i k first second is_first is_second same = absurd cc

-- ---- one more article, and the first ones

at_end : (articles : List Article) (more article : Article) (i : ℕ) → slice_get (articles ++ more ∷ []) i ≡ Some article
    → (slice_get articles i ≡ Some article) ⊎ ((i ≡ length articles) × (article ≡ more))
at_end [] more article zero is = inr (refl, cc)
at_end [] more article (suc i) is = absurd cc
at_end (first ∷ articles) more article zero is = inl is
at_end (first ∷ articles) more article (suc i) is = elim (at_end articles more article i is) [
  | inl there ↦ inl there
  | inr end ↦ inr (ap (λ (n : ℕ). suc n) end.0, end.1)
]

known_at : (articles : List Article) (article : Article) (i : ℕ) → slice_get articles i ≡ Some article → is_known article.id articles ≡ true
known_at [] article i is = absurd cc
known_at (first ∷ articles) article zero is =
    let same : first ≡ article = cc in
    let own : bytes_eq first.id article.id ≡ true = (bytes_eq-Decides first.id article.id).1 (ap (λ (a : Article). a.id) same) in
    ap (λ (b : Bool). b || is_known article.id articles) own
known_at (first ∷ articles) article (suc i) is =
    ap (λ (b : Bool). bytes_eq first.id article.id || b) (known_at articles article i is) ∙ or_true (bytes_eq first.id article.id)
  where
    or_true : (b : Bool) → (b || true) ≡ true
    or_true true = refl
    or_true false = refl

pub once_more : (articles : List Article) (more : Article) → AreOnce articles → is_known more.id articles ≡ false → AreOnce (articles ++ more ∷ [])
once_more articles more once unknown i k first second is_first is_second same = elim (at_end articles more first i is_first) [
  | inl a ↦ elim (at_end articles more second k is_second) [
    | inl b ↦ once i k first second a b same
    | inr b ↦ let known : is_known more.id articles ≡ true = subst (λ (id : List ℕ). is_known id articles ≡ true) (same ∙ ap (λ (x : Article). x.id) b.1) (known_at articles first i a) in
        let no : true ≡ false = sym known ∙ unknown in absurd cc
  ]
  | inr a ↦ elim (at_end articles more second k is_second) [
    | inl b ↦ let known : is_known more.id articles ≡ true = subst (λ (id : List ℕ). is_known id articles ≡ true) (sym same ∙ ap (λ (x : Article). x.id) a.1) (known_at articles second k b) in
        let no : true ≡ false = sym known ∙ unknown in absurd cc
    | inr b ↦ a.0 ∙ sym b.0
  ]
]

at_front : (articles : List Article) (n i : ℕ) (article : Article) → slice_get (take n articles) i ≡ Some article → slice_get articles i ≡ Some article
at_front articles zero i article is = absurd cc
at_front [] (suc n) i article is = is
at_front (first ∷ articles) (suc n) zero article is = is
at_front (first ∷ articles) (suc n) (suc i) article is = at_front articles n i article is

pub once_in_front : (articles : List Article) (n : ℕ) → AreOnce articles → AreOnce (take n articles)
once_in_front articles n once i k first second is_first is_second same =
    once i k first second (at_front articles n i first is_first) (at_front articles n k second is_second) same

-- ---- found

abbrev nobody : Article
nobody = record { id = []; newsgroups = []; head = []; body = [] }

found : (id : List ℕ) (articles : List Article) (place : ℕ) → place_of id articles ≡ Some place
    → (article : Article) × (slice_get articles place ≡ Some article) × (article.id ≡ id)
found id articles place is =
    let at = position-Some (has_id id) articles place nobody is in
    (get_or articles place nobody, slice_get-get_or articles place nobody at.0, (bytes_eq-Decides (get_or articles place nobody).id id).0 at.1)

-- a place before which none passes is inside where one passes
behind : (b : Bool) (n len : ℕ) → n < len → cond (not b) (1 + n) 0 < suc len
behind true n len less = omega arith
behind false n len less = omega (arith, less)

at_once : (b : Bool) (n len : ℕ) → b ≡ true → cond (not b) (1 + n) 0 < suc len
at_once true n len is = omega arith
at_once false n len is = absurd cc

inside : {X : Type 0} (test : X → Bool) (xs : List X) (i : ℕ) (x : X) → slice_get xs i ≡ Some x → test x ≡ true → position_or_len test xs < length xs
inside test [] i x is passes = absurd cc
inside test (y ∷ xs) zero x is passes =
    let same : y ≡ x = cc in
    at_once (test y) (position_or_len test xs) (length xs) (ap test same ∙ passes)
inside test (y ∷ xs) (suc i) x is passes = behind (test y) (position_or_len test xs) (length xs) (inside test xs i x is passes)

is_placed : {X : Type 0} (test : X → Bool) (xs : List X) → position_or_len test xs < length xs → position test xs ≡ Some (position_or_len test xs)
is_placed test xs less = ap (λ (b : Bool). cond b (Some (position_or_len test xs)) None) (lt-ltb (position_or_len test xs) (length xs) less)

missing : (id absent : List ℕ) (articles : List Article) (article : Article) → place_of id articles ≡ None → ¬ (IsPresent id absent articles article)
missing id absent articles article none present =
    let passes : has_id id article ≡ true = (bytes_eq-Decides article.id id).1 present.own in
    let both : Some (position_or_len (has_id id) articles) ≡ None = sym (is_placed (has_id id) articles (inside (has_id id) articles present.place article present.there passes)) ∙ none in
    cc

pub found_where : (id absent : List ℕ) (articles : List Article) → AreOnce articles → IsFoundWhere id absent articles (present_article id absent articles)
found_where id absent articles once = by (place_of id articles) refl
  where
    lacked : (place : ℕ) → place_of id articles ≡ Some place → is_absent (place + 1) absent ≡ true → (article : Article) → ¬ (IsPresent id absent articles article)
    lacked place is absent_there article present =
        let at = found id articles place is in
        let same : present.place ≡ place = once present.place place article at.0 present.there at.1 (present.own ∙ sym at.2) in
        let both : true ≡ false = sym absent_there ∙ ap (λ (n : ℕ). is_absent (n + 1) absent) (sym same) ∙ present.given in
        absurd cc

    there : (place : ℕ) → place_of id articles ≡ Some place → is_absent (place + 1) absent ≡ false → IsFoundWhere id absent articles (slice_get articles place)
    there place is given =
        let at = found id articles place is in
        subst (IsFoundWhere id absent articles) (sym at.1) (record { place = place; there = at.1; own = at.2; given = given })

    one : (place : ℕ) → place_of id articles ≡ Some place → (b : Bool) → is_absent (place + 1) absent ≡ b → IsFoundWhere id absent articles (if b then None else slice_get articles place)
    one place is true e = lacked place is e
    one place is false e = there place is e

    by : (r : Option ℕ) → place_of id articles ≡ r → IsFoundWhere id absent articles (option_and_then (present_at absent articles) r)
    by None e = λ article. missing id absent articles article e
    by (Some place) e = one place e (is_absent (place + 1) absent) refl
