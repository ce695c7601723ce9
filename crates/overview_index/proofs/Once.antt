-- Lists whose members stand once.
use Rattle.std.proofs.Common.{◌≡◌, Bool, true, false, cond, not, ◌||◌, List, [], ◌∷◌, ◌++◌, filter, refl, sym, ap, ◌∙◌}
use Rattle.std.specs.List.{AllByRecursion, IsDistinct, list_any}
use Rattle.std.proofs.lemmas.Bool.{not-false}
use Rattle.std.proofs.lemmas.List.Elements.{filter-append}
use Rattle.std.proofs.lemmas.Map.Keys.{IsDistinct-cons, IsDistinct-head, IsDistinct-tail}
use Rattle.overview_index.specs.Group.{each_once}

module _ {A : Type 0} (same : A → A → Bool) where
  kept_none : (s : Bool) (y : A) → ◌≡◌ {A = List A} [] (cond (s || true) [] (y ∷ []))
  kept_none true y = refl
  kept_none false y = refl

  kept_one : (s : Bool) (y : A) → ◌≡◌ {A = List A} (cond (not s) (y ∷ []) []) (cond (s || false) [] (y ∷ []))
  kept_one true y = refl
  kept_one false y = refl

  once_more : (x y : A) (b : Bool) → filter (λ z. not (same x z)) (cond b [] (y ∷ [])) ≡ cond (same x y || b) [] (y ∷ [])
  once_more x y true = kept_none (same x y) y
  once_more x y false = kept_one (same x y) y

  -- a member is more where it is not there yet
  pub each_once-push : (xs : List A) (y : A) → each_once same (xs ++ y ∷ []) ≡ each_once same xs ++ cond (list_any (λ x. same x y) xs) [] (y ∷ [])
  each_once-push [] y = refl
  each_once-push (x ∷ xs) y =
      let other : A → Bool = λ z. not (same x z) in
      ap (λ l. x ∷ l) (ap (filter other) (each_once-push xs y)
      ∙ filter-append other (each_once same xs) (cond (list_any (λ z. same z y) xs) [] (y ∷ []))
      ∙ ap (λ l. filter other (each_once same xs) ++ l) (once_more x y (list_any (λ z. same z y) xs)))

all_kept : {A : Type 0} (P : A → Type 0) (p : A → Bool) (xs : List A) → AllByRecursion P xs → AllByRecursion P (filter p xs)
all_kept P p [] h = h
all_kept P p (x ∷ xs) h =
    elim (p x) as (λ b. AllByRecursion P (cond b (x ∷ filter p xs) (filter p xs))) [ true ↦ (h.0, all_kept P p xs h.1) | false ↦ all_kept P p xs h.1 ]

all_passed : {A : Type 0} (p : A → Bool) (xs : List A) → AllByRecursion (λ x. p x ≡ false) (filter (λ x. not (p x)) xs)
all_passed p [] = tt
all_passed p (x ∷ xs) = by (p x) refl (all_passed p xs)
  where
    by : (b : Bool) → p x ≡ b → AllByRecursion (λ z. p z ≡ false) (filter (λ z. not (p z)) xs) → AllByRecursion (λ z. p z ≡ false) (cond (not b) (x ∷ filter (λ z. not (p z)) xs) (filter (λ z. not (p z)) xs))
    by true e all = all
    by false e all = (e, all)

module _ {A : Type 0} (same : A → A → Bool) where
  distinct_kept : (p : A → Bool) (xs : List A) → IsDistinct same xs → IsDistinct same (filter p xs)
  distinct_kept p [] h = h
  distinct_kept p (x ∷ xs) h =
      let rest = distinct_kept p xs (IsDistinct-tail same x xs h) in
      elim (p x) as (λ b. IsDistinct same (cond b (x ∷ filter p xs) (filter p xs))) [
        | true ↦ IsDistinct-cons same x (filter p xs) (all_kept (λ y. same x y ≡ false) p xs (IsDistinct-head same x xs h)) rest
        | false ↦ rest
      ]

  nothing_distinct : IsDistinct same []
  unfolding IsDistinct
  nothing_distinct = tt

  pub IsDistinct-each_once : (xs : List A) → IsDistinct same (each_once same xs)
  IsDistinct-each_once [] = nothing_distinct
  IsDistinct-each_once (x ∷ xs) =
      IsDistinct-cons same x (filter (λ y. not (same x y)) (each_once same xs)) (all_passed (same x) (each_once same xs))
      (distinct_kept (λ y. not (same x y)) (each_once same xs) (IsDistinct-each_once xs))

-- what a filter leaves out does not pass a test
any_kept : {A : Type 0} (p test : A → Bool) (xs : List A) → ((x : A) → p x ≡ false → test x ≡ false) → list_any test (filter p xs) ≡ list_any test xs
any_kept p test [] h = refl
any_kept p test (x ∷ xs) h = by (p x) refl (any_kept p test xs h)
  where
    by : (b : Bool) → p x ≡ b → list_any test (filter p xs) ≡ list_any test xs → list_any test (cond b (x ∷ filter p xs) (filter p xs)) ≡ (test x || list_any test xs)
    by true e rest = ap (λ b. test x || b) rest
    by false e rest = rest ∙ ap (λ b. b || list_any test xs) (sym (h x e))

-- a test that equal members pass alike finds among them what it finds among all
pub list_any-each_once : {A : Type 0} (same : A → A → Bool) (test : A → Bool) → ((x y : A) → same x y ≡ true → test x ≡ test y) → (xs : List A) → list_any test (each_once same xs) ≡ list_any test xs
list_any-each_once same test alike [] = refl
list_any-each_once same test alike (x ∷ xs) = by (test x) refl (list_any-each_once same test alike xs)
  where
    by : (b : Bool) → test x ≡ b → list_any test (each_once same xs) ≡ list_any test xs → (b || list_any test (filter (λ y. not (same x y)) (each_once same xs))) ≡ (b || list_any test xs)
    by true e rest = refl
    by false e rest = any_kept (λ y. not (same x y)) test (each_once same xs) (λ y out. sym (alike x y (not-false (same x y) out)) ∙ e) ∙ rest
