-- A file, while articles are added.
use Rattle.std.proofs.Common.{◌≡◌, ℕ, ◌≤◌, Bool, true, false, cond, ◌&&◌, ◌||◌, ◌==◌, inl, inr, List, [], ◌∷◌, ◌++◌, filter, find, None, Some, Option, IsSome, is_some, option_map, nat_cmp, refl, sym, ap, subst, ◌∙◌, append-nil, arith}
use Rattle.std.specs.BTreeMap.{get, is_at}
use Rattle.std.specs.List.{list_any}
use Rattle.std.specs.List.Sorted.{IsStrictlySortedBy}
use Rattle.std.specs.Map.{keys_of, lookup}
use Rattle.std.specs.Option.{option_or}
use Rattle.std.proofs.lemmas.Bool.{cases_eq, eq-eqb, ne_eqb, true≢false}
use Rattle.std.proofs.lemmas.Bool.Decides.{nat_tests}
use Rattle.std.proofs.lemmas.List.Elements.{filter-append}
use Rattle.std.proofs.lemmas.List.Folds.{find-append}
use Rattle.std.proofs.lemmas.Option.{none-some}
use Rattle.overview_index.specs.Draft.{HasSegmentMore, IsBegunBy, IsDraftOf, IsSameDraft}
use Rattle.overview_index.specs.Group.{Counted, Key, has_key, number_of, segment_of}
use Rattle.overview_index.specs.declared.draft.Draft.{Draft}
use Rattle.limits.specs.declared.TheConstants.{LAST_MOMENT}

abbrev numbered : ℕ → Counted → Bool
numbered n a = number_of a == n

-- the article of a number among those with a key
abbrev pub part_in : Key → ℕ → List Counted → Option Counted
part_in k n articles = find (λ a. number_of a == n) (filter (has_key k) articles)

module _ (k : Key) (a : Counted) (articles : List Counted) where
  first_stays : (first : Counted) → find (has_key k) articles ≡ Some first → find (has_key k) (articles ++ a ∷ []) ≡ Some first
  first_stays first is = find-append (has_key k) articles (a ∷ []) ∙ ap (λ o. option_or o (find (has_key k) (a ∷ []))) is

  others_stay : has_key k a ≡ false → filter (has_key k) (articles ++ a ∷ []) ≡ filter (has_key k) articles
  others_stay e =
      filter-append (has_key k) articles (a ∷ [])
      ∙ ap (λ b. filter (has_key k) articles ++ cond b (a ∷ []) []) e ∙ append-nil (filter (has_key k) articles)

  one_more : has_key k a ≡ true → (n : ℕ) → part_in k n (articles ++ a ∷ []) ≡ option_or (part_in k n articles) (cond (number_of a == n) (Some a) None)
  one_more e n =
      ap (find (numbered n)) (filter-append (has_key k) articles (a ∷ []) ∙ ap (λ b. filter (has_key k) articles ++ cond b (a ∷ []) []) e)
      ∙ find-append (numbered n) (filter (has_key k) articles) (a ∷ [])

-- an article of another file
pub draft_kept : (k : Key) (a : Counted) (articles : List Counted) (draft : Draft) → has_key k a ≡ false → IsDraftOf articles k draft → IsDraftOf (articles ++ a ∷ []) k draft
draft_kept k a articles draft e is = record {
  first = is.first;
  is_first = first_stays k a articles is.first is.is_first;
  begun = is.begun;
  ordered = is.ordered;
  segments = λ n. is.segments n ∙ ap (λ those. option_map segment_of (find (numbered n) those)) (sym (others_stay k a articles e));
}

begun_same : (first : Counted) (old new : Draft) → IsSameDraft old new → IsBegunBy first old → IsBegunBy first new
begun_same first old new same is = record {
  poster = same.poster ∙ is.poster;
  date = same.date ∙ is.date;
  late = subst (λ n. n ≤ LAST_MOMENT) (sym same.date) is.late;
  subject = same.subject ∙ is.subject;
}

pub draft_same : (k : Key) (articles : List Counted) (old new : Draft) → IsSameDraft old new → IsDraftOf articles k old → IsDraftOf articles k new
draft_same k articles old new same is = record {
  first = is.first;
  is_first = is.is_first;
  begun = begun_same is.first old new same is.begun;
  ordered = subst (λ es. IsStrictlySortedBy nat_cmp (keys_of es)) (sym same.segments) is.ordered;
  segments = λ n. ap (lookup (is_at (nat_cmp n))) same.segments ∙ is.segments n;
}

some_found : (o : Option Counted) → IsSome (option_map segment_of o) → (b : Counted) × (o ≡ Some b)
some_found None h = absurd (true≢false (sym h))
some_found (Some b) h = (b, refl)

none_found : (o : Option Counted) → option_map segment_of o ≡ None → o ≡ None
none_found None h = refl
none_found (Some b) h = cc

-- an article whose number the file has
repeated : (n : ℕ) (a : Counted) (o : Option Counted) → (number_of a ≡ n → (b : Counted) × (o ≡ Some b)) → option_or o (cond (number_of a == n) (Some a) None) ≡ o
repeated n a (Some b) there = refl
repeated n a None there = elim (cases_eq (number_of a) n) [
  | inl e ↦ let found = there e in absurd (none-some found.0 found.1)
  | inr other ↦ ap (λ b. cond b (Some a) None) (ne_eqb (number_of a) n other)
]

pub draft_repeat : (k : Key) (a : Counted) (articles : List Counted) (draft : Draft) → has_key k a ≡ true → IsSome (get nat_cmp draft.segments (number_of a)) → IsDraftOf articles k draft
    → IsDraftOf (articles ++ a ∷ []) k draft
draft_repeat k a articles draft e there is = record {
  first = is.first;
  is_first = first_stays k a articles is.first is.is_first;
  begun = is.begun;
  ordered = is.ordered;
  segments = λ n.
      is.segments n
      ∙ ap (option_map segment_of) (sym (one_more k a articles e n ∙ repeated n a (part_in k n articles) (λ here.
      some_found (part_in k n articles) (subst (λ m. IsSome (option_map segment_of (part_in k m articles))) here (subst IsSome (is.segments (number_of a)) there)))));
}

-- an article with a new number
more_there : (n : ℕ) (a : Counted) (o : Option Counted) → (number_of a ≡ n → o ≡ None) → cond (is_at (nat_cmp (number_of a)) n) (Some (segment_of a)) (option_map segment_of o) ≡ option_map segment_of (option_or o (cond (number_of a == n) (Some a) None))
more_there n a o new = elim (cases_eq (number_of a) n) [
  | inl e ↦
      let here : is_at (nat_cmp (number_of a)) n ≡ true = grind (arith, nat_tests) in
      rw (here, new e, eq-eqb (number_of a) n e) refl
  | inr other ↦
      let there : is_at (nat_cmp (number_of a)) n ≡ false = grind (arith, nat_tests) in
      rw (there, ne_eqb (number_of a) n other) (unchanged o)
]
  where
    unchanged : (p : Option Counted) → option_map segment_of p ≡ option_map segment_of (option_or p None)
    unchanged None = refl
    unchanged (Some b) = refl

pub draft_more : (k : Key) (a : Counted) (articles : List Counted) (old new : Draft) → has_key k a ≡ true → get nat_cmp old.segments (number_of a) ≡ None → HasSegmentMore a old new → IsDraftOf articles k old
    → IsDraftOf (articles ++ a ∷ []) k new
draft_more k a articles old new e absent more is = record {
  first = is.first;
  is_first = first_stays k a articles is.first is.is_first;
  begun = record {
    poster = more.poster ∙ is.begun.poster;
    date = more.date ∙ is.begun.date;
    late = subst (λ n. n ≤ LAST_MOMENT) (sym more.date) is.begun.late;
    subject = more.subject ∙ is.begun.subject;
  };
  ordered = more.ordered;
  segments = λ n.
      more.updates.0 n
      ∙ ap (λ o. cond (is_at (nat_cmp (number_of a)) n) (Some (segment_of a)) o) (is.segments n)
      ∙ more_there n a (part_in k n articles) (λ here. none_found (part_in k n articles) (subst (λ m. option_map segment_of (part_in k m articles) ≡ None) here (sym (is.segments (number_of a)) ∙ absent)))
      ∙ ap (option_map segment_of) (sym (one_more k a articles e n));
}

-- the article that begins the file
nobody : (p : Counted → Bool) (articles : List Counted) → list_any p articles ≡ false → find p articles ≡ None
nobody p [] h = refl
nobody p (x ∷ xs) h = by (p x) refl (nobody p xs) h
  where
    by : (b : Bool) → p x ≡ b → (list_any p xs ≡ false → find p xs ≡ None) → (b || list_any p xs) ≡ false → cond b (Some x) (find p xs) ≡ None
    by true e rest without = absurd (true≢false without)
    by false e rest without = rest without

none_left : (p : Counted → Bool) (articles : List Counted) → list_any p articles ≡ false → filter p articles ≡ []
none_left p [] h = refl
none_left p (x ∷ xs) h = by (p x) refl (none_left p xs) h
  where
    by : (b : Bool) → p x ≡ b → (list_any p xs ≡ false → filter p xs ≡ []) → (b || list_any p xs) ≡ false → cond b (x ∷ filter p xs) (filter p xs) ≡ []
    by true e rest without = absurd (true≢false without)
    by false e rest without = rest without

sorted_one : (n : ℕ) → IsStrictlySortedBy nat_cmp (n ∷ [])
unfolding IsStrictlySortedBy
sorted_one n = (tt, tt)

pub draft_begun : (k : Key) (a : Counted) (articles : List Counted) (draft : Draft) → has_key k a ≡ true → list_any (has_key k) articles ≡ false → IsBegunBy a draft
    → draft.segments.entries ≡ (number_of a, segment_of a) ∷ [] → IsDraftOf (articles ++ a ∷ []) k draft
draft_begun k a articles draft e absent begun segments = record {
  first = a;
  is_first = find-append (has_key k) articles (a ∷ []) ∙ ap (λ o. option_or o (find (has_key k) (a ∷ []))) (nobody (has_key k) articles absent) ∙ ap (λ b. cond b (Some a) None) e;
  begun = begun;
  ordered = subst (λ es. IsStrictlySortedBy nat_cmp (keys_of es)) (sym segments) (sorted_one (number_of a));
  segments = λ n.
      ap (lookup (is_at (nat_cmp n))) segments
      ∙ one_there n a
      ∙ ap (option_map segment_of) (sym (one_more k a articles e n ∙ ap (λ those. option_or (find (numbered n) those) (cond (number_of a == n) (Some a) None)) (none_left (has_key k) articles absent)));
}
  where
    one_there : (n : ℕ) (b : Counted) → cond (is_at (nat_cmp n) (number_of b)) (Some (segment_of b)) None ≡ option_map segment_of (cond (number_of b == n) (Some b) None)
    one_there n b = elim (cases_eq (number_of b) n) [
      | inl here ↦
          let at : is_at (nat_cmp n) (number_of b) ≡ true = grind (arith, nat_tests) in
          rw (at, eq-eqb (number_of b) n here) refl
      | inr other ↦
          let at : is_at (nat_cmp n) (number_of b) ≡ false = grind (arith, nat_tests) in
          rw (at, ne_eqb (number_of b) n other) refl
    ]

-- ---- which numbers a file has

-- the file has a number where an article with its key does
pub part_in-any : (k : Key) (n : ℕ) (articles : List Counted) → is_some (part_in k n articles) ≡ list_any (λ a. has_key k a && (number_of a == n)) articles
part_in-any k n [] = refl
part_in-any k n (x ∷ xs) = by (has_key k x) (number_of x == n) (part_in-any k n xs) refl
  where
    by : (b c : Bool) → is_some (part_in k n xs) ≡ list_any (λ a. has_key k a && (number_of a == n)) xs → (number_of x == n) ≡ c
        → is_some (find (numbered n) (cond b (x ∷ filter (has_key k) xs) (filter (has_key k) xs))) ≡ ((b && c) || list_any (λ a. has_key k a && (number_of a == n)) xs)
    by false c rest is = rest
    by true true rest is = ap (λ t. is_some (cond t (Some x) (find (numbered n) (filter (has_key k) xs)))) is
    by true false rest is = ap (λ t. is_some (cond t (Some x) (find (numbered n) (filter (has_key k) xs)))) is ∙ rest

pub has_number : (k : Key) (n : ℕ) (articles : List Counted) (draft : Draft) → IsDraftOf articles k draft → is_some (get nat_cmp draft.segments n) ≡ list_any (λ a. has_key k a && (number_of a == n)) articles
has_number k n articles draft is = ap is_some (is.segments n) ∙ mapped (part_in k n articles) ∙ part_in-any k n articles
  where
    mapped : (o : Option Counted) → is_some (option_map segment_of o) ≡ is_some o
    mapped None = refl
    mapped (Some b) = refl
