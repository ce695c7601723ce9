-- Items by the places of `=` and of spaces.
use Rattle.std.proofs.Common.{◌≡◌, ◌<◌, ℕ, suc, ◌+◌, true, false, nat_le, nat_lt, if◌then◌else◌, List, [], ◌∷◌, length, take, drop, Option, None, refl, sym, ◌∙◌, inl, inr, arith, option_map, find, bytes_eq}
use Rattle.std.proofs.lemmas.Bool.{cases_Bool, le-leb, lt-leb, leb-true, leb-false, lt-ltb, le-ltb, ltb-true, ltb-false}
use Rattle.std.specs.List.{list_any, position_or_len, slice_split, onto_first}
use Rattle.yenc_lines.specs.declared.key.Key.{Key}
use Rattle.yenc_lines.specs.Keywords.{item_of, key_name, is_equals, is_space}

-- there is an `=` where its place is inside
any_before_end : (piece : List ℕ) → list_any is_equals piece ≡ nat_lt (position_or_len is_equals piece) (length piece)
any_before_end [] = refl
any_before_end (x ∷ piece) = elim (cases_Bool (is_equals x)) [
  | inl holds ↦ rw (holds, lt-ltb 0 (suc (length piece)) (omega arith)) refl
  | inr lacks ↦ rw lacks (any_before_end piece ∙ more (position_or_len is_equals piece) (length piece))
]
  where
    more : (n len : ℕ) → nat_lt n len ≡ nat_lt (1 + n) (suc len)
    more n len = elim (cases_Bool (nat_lt n len)) [
      | inl holds ↦ rw holds (sym (lt-ltb (1 + n) (suc len) (omega (arith, ltb-true n len holds))))
      | inr lacks ↦ rw lacks (sym (le-ltb (1 + n) (suc len) (omega (arith, ltb-false n len lacks))))
    ]

pub no_item : (known : List Key) (piece : List ℕ) (at : ℕ) → at ≡ position_or_len is_equals piece → at ≡ length piece → item_of known piece ≡ None
no_item known piece at is end =
    let none : list_any is_equals piece ≡ false = any_before_end piece ∙ le-ltb (position_or_len is_equals piece) (length piece) (omega arith) in
    rw none refl

pub item_at : (known : List Key) (piece : List ℕ) (at : ℕ) (found : Option Key) → at ≡ position_or_len is_equals piece → at < length piece →
    found ≡ find (λ k. bytes_eq (key_name k) (take at piece)) known → item_of known piece ≡ option_map (λ (k : Key). record { key = k; value = drop (at + 1) piece }) found
item_at known piece at found is inside found_is =
    let some : list_any is_equals piece ≡ true = any_before_end piece ∙ lt-ltb (position_or_len is_equals piece) (length piece) (omega arith) in
    rw (some, found_is, is) refl

-- ---- the pieces of a line from a place on

-- the pieces behind the space before this place, where there is one
abbrev pub pieces_from : List ℕ → ℕ → List (List ℕ)
pieces_from text at = if nat_le at (length text) then slice_split is_space (drop at text) else []

pub split_step : (text : List ℕ) → slice_split is_space text ≡ take (position_or_len is_space text) text ∷ pieces_from text (position_or_len is_space text + 1)
split_step [] = refl
split_step (x ∷ text) = elim (cases_Bool (is_space x)) [
  | inl holds ↦ rw (holds, le-leb 1 (suc (length text)) (omega arith)) refl
  | inr lacks ↦ rw (lacks, split_step text) (more (position_or_len is_space text))
]
  where
    more : (n : ℕ) → onto_first x (take n text ∷ pieces_from text (n + 1)) ≡ take (1 + n) (x ∷ text) ∷ pieces_from (x ∷ text) (1 + n + 1)
    more n =
        let one : 1 + n ≡ suc n = omega arith in
        let two : suc n + 1 ≡ suc (n + 1) = omega arith in
        elim (cases_Bool (nat_le (n + 1) (length text))) [
          | inl holds ↦ let also : nat_le (suc (n + 1)) (suc (length text)) ≡ true = le-leb _ _ (omega (arith, leb-true _ _ holds)) in rw (one, two, holds, also) refl
          | inr lacks ↦ let also : nat_le (suc (n + 1)) (suc (length text)) ≡ false = lt-leb _ _ (omega (arith, leb-false _ _ lacks)) in rw (one, two, lacks, also) refl
        ]
