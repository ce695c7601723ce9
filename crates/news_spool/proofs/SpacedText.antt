-- A text with a space for each control byte, from one to the next.
use Rattle.std.proofs.Common.{◌≡◌, ℕ, suc, ◌+◌, ◌-◌, ◌<◌, List, [], ◌∷◌, ◌++◌, length, take, drop, refl, sym, ◌∙◌, ap, arith, inl, inr, append_assoc}
use Rattle.std.specs.List.{position_or_len}
use Rattle.std.proofs.lemmas.Bool.{cases_Bool}
use Rattle.std.proofs.lemmas.List.{drop-drop, length-drop, take_all}
use Rattle.news_spool.specs.Overview.{is_control, spaced}

-- what stands before the first control byte stays, and a space stands for that byte
pub plain_front : (text : List ℕ) (k : ℕ) → k ≡ position_or_len is_control text → k < length text → spaced text ≡ take k text ++ 32 ∷ spaced (drop (k + 1) text)
plain_front [] k is inside = absurd (omega arith)
plain_front (x ∷ text) k is inside = elim (cases_Bool (is_control x)) [
  | inl control ↦
      let none : k ≡ 0 = is ∙ rw control refl in
      rw (none, control) refl
  | inr plain ↦
      let more : k ≡ suc (position_or_len is_control text) = is ∙ rw plain (omega arith) in
      let inner : position_or_len is_control text < length text = omega (arith, more) in
      let next : suc (position_or_len is_control text) + 1 ≡ suc (position_or_len is_control text + 1) = omega arith in
      rw (more, next, plain) (ap (λ (t : List ℕ). x ∷ t) (plain_front text (position_or_len is_control text) refl inner))
]

-- where none follows that is all
pub plain_whole : (text : List ℕ) → position_or_len is_control text ≡ length text → spaced text ≡ text
plain_whole [] whole = refl
plain_whole (x ∷ text) whole = elim (cases_Bool (is_control x)) [
  | inl control ↦ absurd (omega (arith, rw control at whole))
  | inr plain ↦
      let more : 1 + position_or_len is_control text ≡ length (x ∷ text) = rw plain at whole in
      rw plain (ap (λ (t : List ℕ). x ∷ t) (plain_whole text (omega (arith, more))))
]

-- ---- as it is appended, from a place on

-- the slices up to the end, and of so many bytes
rest_from : (text : List ℕ) (at : ℕ) → take (length text - at) (drop at text) ≡ drop at text
rest_from text at = take_all (length text - at) (drop at text) (omega (arith, length-drop at text))

next_bytes : (text : List ℕ) (at len : ℕ) → take (at + len - at) (drop at text) ≡ take len (drop at text)
next_bytes text at len = ap (λ (k : ℕ). take k (drop at text)) (omega arith)

pub appended_whole : (text old out new : List ℕ) (at len : ℕ) → out ++ spaced (drop at text) ≡ old ++ spaced text
    → len ≡ position_or_len is_control (take (length text - at) (drop at text)) → at + len ≡ length text
    → new ≡ out ++ take (at + len - at) (drop at text) → new ≡ old ++ spaced text
appended_whole text old out new at len left is whole one =
    let place : len ≡ position_or_len is_control (drop at text) = is ∙ ap (λ (t : List ℕ). position_or_len is_control t) (rest_from text at) in
    let plain : spaced (drop at text) ≡ drop at text = plain_whole (drop at text) (omega (arith, place, whole, length-drop at text)) in
    let all : take len (drop at text) ≡ drop at text = take_all len (drop at text) (omega (arith, whole, length-drop at text)) in
    one ∙ ap (λ (t : List ℕ). out ++ t) (next_bytes text at len ∙ all ∙ sym plain) ∙ left

pub appended_more : (text old out new : List ℕ) (at len : ℕ) → out ++ spaced (drop at text) ≡ old ++ spaced text
    → len ≡ position_or_len is_control (take (length text - at) (drop at text)) → at + len < length text
    → new ≡ (out ++ take (at + len - at) (drop at text)) ++ 32 ∷ [] → new ++ spaced (drop (at + len + 1) text) ≡ old ++ spaced text
appended_more text old out new at len left is inside one =
    let place : len ≡ position_or_len is_control (drop at text) = is ∙ ap (λ (t : List ℕ). position_or_len is_control t) (rest_from text at) in
    let front : spaced (drop at text) ≡ take len (drop at text) ++ 32 ∷ spaced (drop (len + 1) (drop at text)) =
    plain_front (drop at text) len place (omega (arith, inside, length-drop at text)) in
    let behind : drop (len + 1) (drop at text) ≡ drop (at + len + 1) text = drop-drop (len + 1) at text ∙ ap (λ (k : ℕ). drop k text) (omega arith) in
    let more : new ≡ (out ++ take len (drop at text)) ++ 32 ∷ [] = one ∙ ap (λ (t : List ℕ). (out ++ t) ++ 32 ∷ []) (next_bytes text at len) in
    ap (λ (t : List ℕ). t ++ spaced (drop (at + len + 1) text)) more
    ∙ append_assoc (out ++ take len (drop at text)) (32 ∷ []) (spaced (drop (at + len + 1) text))
    ∙ append_assoc out (take len (drop at text)) (32 ∷ spaced (drop (at + len + 1) text))
    ∙ ap (λ (t : List ℕ). out ++ (take len (drop at text) ++ 32 ∷ spaced t)) (sym behind)
    ∙ ap (λ (t : List ℕ). out ++ t) (sym front) ∙ left
