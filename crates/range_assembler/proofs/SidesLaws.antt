-- The sides of nodes, after a change.
use Rattle.std.proofs.Common.{◌≡◌, ◌≤◌, inl, inr, zero, suc, ℕ, List, [], ◌∷◌, ◌++◌, Option, Some, None, length, ap, sym, subst, ◌∙◌, set}
use Rattle.std.specs.Prelude.{slice_get, insert, remove}
use Rattle.std.proofs.lemmas.Bool.{cases_eq}
use Rattle.range_assembler.specs.declared.sequence.Range.{Range}
use Rattle.range_assembler.specs.Sides.{HaveSides, AllSome}
use Rattle.lists.proofs.OnePlace.{get-set_other}
use Rattle.range_assembler.proofs.Changes.{stays, is_new, remains}

set_read : {X : Type 0} (xs : List X) (i : ℕ) (x y : X) → slice_get (set xs i x) i ≡ Some y → x ≡ y
set_read [] i x y is = cc
set_read (z ∷ xs) zero x y is = cc
set_read (z ∷ xs) (suc i) x y is = set_read xs i x y is

pub sides_insert : {X : Type 0} (sides : List (Option X)) (ranges : List Range) (p : ℕ) (range : Range) → HaveSides sides ranges → p ≤ length ranges → HaveSides (set sides range.segment None) (insert ranges p range)
sides_insert sides ranges p range have low k is = elim (cases_eq k range.segment) [
  | inl same ↦ (let new = is_new ranges p range low in record { place = new.place; range = range; there = new.there; its = sym same })
  | inr other ↦ (let old = have k (sym (get-set_other sides range.segment k None other) ∙ is) in
      let listed = stays ranges p range old.place old.range old.there in
      record { place = listed.place; range = old.range; there = listed.there; its = old.its })
]

pub sides_remove : {X : Type 0} (sides : List (Option X)) (ranges : List Range) (p : ℕ) (range : Range) (side : X) → HaveSides sides ranges → slice_get ranges p ≡ Some range → HaveSides (set sides range.segment (Some side)) (remove ranges p)
sides_remove sides ranges p range side have here k is = elim (cases_eq k range.segment) [
  | inl same ↦ (let there : slice_get (set sides range.segment (Some side)) range.segment ≡ Some None = subst (λ n. slice_get (set sides range.segment (Some side)) n ≡ Some None) same is in
      let no_way : Some side ≡ None = set_read sides range.segment (Some side) None there in cc)
  | inr other ↦ (let old = have k (sym (get-set_other sides range.segment k (Some side) other) ∙ is) in
      let listed = remains ranges p old.place old.range old.there (λ same. other (
      let again : slice_get ranges p ≡ Some old.range = subst (λ n. slice_get ranges n ≡ Some old.range) same old.there in
      let two : Some old.range ≡ Some range = sym again ∙ here in
      let e : old.range ≡ range = cc in sym old.its ∙ ap (λ (r : Range). r.segment) e)) in
      record { place = listed.place; range = old.range; there = listed.there; its = old.its })
]

pub pushed : {X : Type 0} (xs : List (Option X)) (x : X) → AllSome xs → AllSome (xs ++ Some x ∷ [])
pushed [] x all = tt
pushed (None ∷ xs) x all = all
pushed (Some y ∷ xs) x all = pushed xs x all

none_in : {X : Type 0} (xs : List (Option X)) (k : ℕ) → AllSome xs → slice_get xs k ≡ Some None → ⊥
none_in [] k all is = cc
none_in (None ∷ xs) k all is = all
none_in (Some y ∷ xs) zero all is = cc
none_in (Some y ∷ xs) (suc k) all is = none_in xs k all is

pub all_have : {X : Type 0} (xs : List (Option X)) (ranges : List Range) → AllSome xs → HaveSides xs ranges
all_have xs ranges all k is = absurd (none_in xs k all is)
