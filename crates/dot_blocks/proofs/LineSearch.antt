-- The search for the first CRLF, by way of LF.
use Rattle.std.proofs.Common.{◌≡◌, ◌≢◌, ◌≤◌, ◌<◌, ℕ, zero, suc, ◌+◌, ◌-◌, List, [], ◌∷◌, length, take, drop, get_or, sym, ap, subst, ◌∙◌, arith, length-drop, length-take, inl, inr}
use Rattle.std.proofs.lemmas.List.{take_all, get_or-drop, get_or-take}
use Rattle.std.proofs.lemmas.Bool.{eq-eqb, eqb-true, cases_lt}
use Rattle.memchr.specs.Find.{Nowhere, NoneBefore, Passes, is_byte}
use Rattle.dot_blocks.specs.Blocks.{HoldsNoLineEnd}

-- no CRLF ends below a place
pub record NoEndBelow (bytes : List ℕ) (n : ℕ) : Type 0 where
  pub none : (k : ℕ) → k + 1 < n → get_or bytes k 0 ≡ 13 → get_or bytes (k + 1) 0 ≢ 10

later : (x : ℕ) (bytes : List ℕ) (n : ℕ) → NoEndBelow (x ∷ bytes) (suc n) → NoEndBelow bytes n
later x bytes n h = record { none = λ k lt e f. h.none (suc k) (omega arith) e (subst (λ (m : ℕ). get_or (x ∷ bytes) m 0 ≡ 10) (sym (next k)) f) }
  where
    next : (k : ℕ) → suc k + 1 ≡ suc (k + 1)
    next k = omega arith

pub none_below : (bytes : List ℕ) (n : ℕ) → n ≤ length bytes → NoEndBelow bytes n → HoldsNoLineEnd (take n bytes)
none_below bytes zero le h [] b e = absurd cc
none_below bytes zero le h (c ∷ a) b e = absurd cc
none_below [] (suc n) le h a b e = absurd (omega arith)
none_below (x ∷ bytes) (suc n) le h [] b e = h.none 0 (at_two n bytes (cc)) (cc) (second n bytes (cc))
  where
    at_two : (m : ℕ) (ys : List ℕ) → take m ys ≡ 10 ∷ b → 0 + 1 < suc m
    at_two zero ys f = absurd cc
    at_two (suc m) ys f = omega arith

    second : (m : ℕ) (ys : List ℕ) → take m ys ≡ 10 ∷ b → get_or (x ∷ ys) (0 + 1) 0 ≡ 10
    second zero ys f = absurd cc
    second (suc m) [] f = absurd cc
    second (suc m) (y ∷ ys) f = cc
none_below (x ∷ bytes) (suc n) le h (c ∷ a) b e = none_below bytes n (omega arith) (later x bytes n h) a b (cc)

pub none_at_all : (bytes : List ℕ) → NoEndBelow bytes (length bytes) → HoldsNoLineEnd bytes
none_at_all bytes h = subst HoldsNoLineEnd (take_all (length bytes) bytes (omega arith)) (none_below bytes (length bytes) (omega arith) h)

-- ---- what a search for LF tells

-- up to a LF
pub none_before_feed : (bytes : List ℕ) (from to : ℕ) → Nowhere (Passes (is_byte 10) bytes) from to → NoEndBelow bytes from → NoEndBelow bytes to
none_before_feed bytes from to none h = record { none = λ k lt r f. below k lt r f }
  where
    below : (k : ℕ) → k + 1 < to → get_or bytes k 0 ≡ 13 → get_or bytes (k + 1) 0 ≢ 10
    below k lt r f = elim (cases_lt (k + 1) from) [ inl low ↦ h.none k low r f | inr high ↦ none (k + 1) high lt (eq-eqb (get_or bytes (k + 1) 0) 10 f) ]

-- past a LF without a CR before it
pub none_past_feed : (bytes : List ℕ) (feed : ℕ) → NoEndBelow bytes feed → (0 < feed → get_or bytes (feed - 1) 0 ≢ 13) → NoEndBelow bytes (feed + 1)
none_past_feed bytes feed h n = record { none = λ k lt r f. below k lt r f }
  where
    below : (k : ℕ) → k + 1 < feed + 1 → get_or bytes k 0 ≡ 13 → get_or bytes (k + 1) 0 ≢ 10
    below k lt r f = elim (cases_lt (k + 1) feed) [
      | inl low ↦ h.none k low r f
      | inr high ↦ let same : k ≡ feed - 1 = omega arith in absurd (n (omega arith) (subst (λ (m : ℕ). get_or bytes m 0 ≡ 13) same r))
    ]

-- ---- a search of a part

part_at : (bytes part : List ℕ) (from n k : ℕ) → part ≡ take n (drop from bytes) → k < n → get_or part k 0 ≡ get_or bytes (from + k) 0
part_at bytes part from n k e lt =
    ap (λ (l : List ℕ). get_or l k 0) e ∙ get_or-take n (drop from bytes) k 0 lt ∙ get_or-drop from bytes k 0

pub part_length : (bytes part : List ℕ) (from n : ℕ) → part ≡ take n (drop from bytes) → from + n ≤ length bytes → length part ≡ n
part_length bytes part from n e le = omega (arith, ap length e, length-take n (drop from bytes), length-drop from bytes)

-- no LF in the first of a part is none in the bytes from a place on
pub part_nowhere : (bytes part : List ℕ) (from n to : ℕ) → part ≡ take n (drop from bytes) → to ≤ n → Nowhere (Passes (is_byte 10) part) 0 to → Nowhere (Passes (is_byte 10) bytes) from (from + to)
part_nowhere bytes part from n to e le none k low high f =
    let there : from + (k - from) ≡ k = omega arith in
    none (k - from) (omega arith) (omega arith)
    (eq-eqb (get_or part (k - from) 0) 10 (part_at bytes part from n (k - from) e (omega arith) ∙ ap (λ (m : ℕ). get_or bytes m 0) there ∙ eqb-true (get_or bytes k 0) 10 f))

pub part_passes : (bytes part : List ℕ) (from n k : ℕ) → part ≡ take n (drop from bytes) → k < n → Passes (is_byte 10) part k → Passes (is_byte 10) bytes (from + k)
part_passes bytes part from n k e lt f = eq-eqb (get_or bytes (from + k) 0) 10 (sym (part_at bytes part from n k e lt) ∙ eqb-true (get_or part k 0) 10 f)

-- the LF of a part is the first from a place on
pub part_first : (bytes part : List ℕ) (from n k : ℕ) → part ≡ take n (drop from bytes) → from + n ≤ length bytes → NoneBefore (Passes (is_byte 10) part) 0 (length part) k × Passes (is_byte 10) part k →
    NoneBefore (Passes (is_byte 10) bytes) from (length bytes) (from + k) × Passes (is_byte 10) bytes (from + k)
part_first bytes part from n k e le (found, here) =
    let long = part_length bytes part from n e le in
    let less : k < n = omega (arith, found.high, long) in (
      record { low = omega arith; high = omega arith; before = part_nowhere bytes part from n k e (omega arith) found.before },
      part_passes bytes part from n k e less here,
    )

-- a part without LF, up to where it ends
pub part_none : (bytes part : List ℕ) (from near : ℕ) → part ≡ take (near - from) (drop from bytes) → from ≤ near → near ≤ length bytes → Nowhere (Passes (is_byte 10) part) 0 (length part) → Nowhere (Passes (is_byte 10) bytes) from near
part_none bytes part from near e low high none =
    let long = part_length bytes part from (near - from) e (omega arith) in
    let there : from + length part ≡ near = omega arith in
    subst (λ (m : ℕ). Nowhere (Passes (is_byte 10) bytes) from m) there (part_nowhere bytes part from (near - from) (length part) e (omega arith) none)

pub nowhere_then : (bytes : List ℕ) (from near to : ℕ) → Nowhere (Passes (is_byte 10) bytes) from near → Nowhere (Passes (is_byte 10) bytes) near to → Nowhere (Passes (is_byte 10) bytes) from to
nowhere_then bytes from near to p q k low high = elim (cases_lt k near) [ inl less ↦ p k low less | inr more ↦ q k more high ]

-- no LF in one part, and the first of the next
pub later_first : (bytes : List ℕ) (from near k : ℕ) → from ≤ near → Nowhere (Passes (is_byte 10) bytes) from near → NoneBefore (Passes (is_byte 10) bytes) near (length bytes) k → NoneBefore (Passes (is_byte 10) bytes) from (length bytes) k
later_first bytes from near k le none found =
    record { low = omega (arith, found.low); high = found.high; before = nowhere_then bytes from near k none found.before }
