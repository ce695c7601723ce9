-- NUL, LF and CR are the bytes that no data line has, and `=` isn't one of them.
use Rattle.std.proofs.Common.{◌≡◌, ℕ, true, false, eqb, ◌||◌, refl, inl, inr}
use Rattle.std.proofs.lemmas.Bool.{eqb-true, eqb-false, eq-eqb, ne_eqb, or_from, or_left, or_right, or_cases, or_parts}
use Rattle.yenc_bytes.specs.DataLine.{IsStray, IsPlain}
use Rattle.yenc_bytes.specs.DataLineReading.{is_stray}

pub plain_is : (x : ℕ) → IsPlain x → is_stray x ≡ false
plain_is x p = or_from (eqb x 0) _ (ne_eqb x 0 p.0) (or_from (eqb x 10) _ (ne_eqb x 10 p.1) (ne_eqb x 13 p.2))

pub is_plain : (x : ℕ) → is_stray x ≡ false → IsPlain x
is_plain x e =
    let a = or_parts (eqb x 0) _ e in
    let b = or_parts (eqb x 10) (eqb x 13) a.1 in
    (eqb-false x 0 a.0, eqb-false x 10 b.0, eqb-false x 13 b.1)

pub stray_is : (x : ℕ) → IsStray x → is_stray x ≡ true
stray_is x (inl e) = or_left (eqb x 0) _ (eq-eqb x 0 e)
stray_is x (inr (inl e)) = or_right (eqb x 0) _ (or_left (eqb x 10) _ (eq-eqb x 10 e))
stray_is x (inr (inr e)) = or_right (eqb x 0) _ (or_right (eqb x 10) _ (eq-eqb x 13 e))

pub is_stray_then : (x : ℕ) → is_stray x ≡ true → IsStray x
is_stray_then x e = elim (or_cases (eqb x 0) (eqb x 10 || eqb x 13) e) [
  | inl a ↦ inl (eqb-true x 0 a)
  | inr a ↦ inr (elim (or_cases (eqb x 10) (eqb x 13) a) [ inl c ↦ inl (eqb-true x 10 c) | inr c ↦ inr (eqb-true x 13 c) ])
]

pub equals_is_plain : (x : ℕ) → x ≡ 61 → is_stray x ≡ false
equals_is_plain x e = rw e refl
