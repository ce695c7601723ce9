-- Marks of lanes, of which there is one at most.
use Rattle.std.proofs.Common.{◌≡◌, ℕ, ◌+◌, ◌*◌, ◌/◌, ◌%◌, ◌^◌, ◌<◌, ◌≤◌, List, Bool, true, false, cond, eqb, ◌||◌, not, length, get_or, map, replicate, refl, sym, ap, subst, ◌∙◌, arith, w64, inl, inr}
use lib.Bits.{bit_or}
use lib.Count.{count_trailing_zeros}
use Rattle.std.specs.Int.{bit_at}
use Rattle.std.specs.Simd.Lanes.{zip2, mask_l, top}
use Rattle.std.proofs.lemmas.Simd.{zip2_splat, zip2_of_maps, map-map, mask_l-lt, mask_l-mod, bit_mask_l, leading_from_mask_l}
use Rattle.std.proofs.lemmas.List.{length-map, get_or-map}
use Rattle.std.proofs.lemmas.List.Sums.{prefix_len_passes}
use Rattle.std.proofs.lemmas.Nat.{or_lt}
use Rattle.std.proofs.lemmas.Nat.Bits.{bit_at-zero, bit_at-trailing_zeros, bit_at_set_same, bit_at_set_other, bit_at_above}
use Rattle.std.proofs.lemmas.Bool.{cases_lt, not-true, eqb-true}
use Rattle.std.proofs.Math.Nat.{lt-div-mul-add}
use Rattle.std.proofs.lemmas.Nat.{pow_pos}
use Rattle.std.proofs.Math.Path.{fun_ext}
use Rattle.yenc_bytes.specs.DataLineReading.{is_stray}
use Rattle.gap_kernel.specs.Blocks.{HasOneEscape}

-- ---- the marks of strays

either : (p q : Bool) → bit_or (cond p 255 0) (cond q 255 0) ≡ cond (p || q) 255 0
either true true = refl
either true false = refl
either false true = refl
either false false = refl

marked : (p : Bool) → top 7 (cond p 255 0) ≡ p
marked true = refl
marked false = refl

abbrev pub compared : ℕ → List ℕ → List ℕ
compared y xs = zip2 (λ a b. cond (eqb a b) 255 0) xs (replicate 32 y)

compared_is : (xs : List ℕ) (y : ℕ) → length xs ≡ 32 → compared y xs ≡ map (λ x. cond (eqb x y) 255 0) xs
compared_is xs y long = zip2_splat (λ a b. cond (eqb a b) 255 0) xs 32 y long

either_is : (xs ms ns : List ℕ) (p q : ℕ → Bool) → ms ≡ map (λ x. cond (p x) 255 0) xs → ns ≡ map (λ x. cond (q x) 255 0) xs → zip2 bit_or ms ns ≡ map (λ x. cond (p x || q x) 255 0) xs
either_is xs ms ns p q e f =
    zip2_of_maps bit_or (λ x. cond (p x) 255 0) (λ x. cond (q x) 255 0) xs e f ∙ ap (λ g. map g xs) (fun_ext (λ x. either (p x) (q x)))

pub strays_are : (xs : List ℕ) → length xs ≡ 32 → mask_l (map (top 7) (zip2 bit_or (compared 0 xs) (zip2 bit_or (compared 10 xs) (compared 13 xs)))) % 2 ^ 64 ≡ mask_l (map is_stray xs)
strays_are xs long =
    let ends = either_is xs _ _ (λ x. eqb x 10) (λ x. eqb x 13) (compared_is xs 10 long) (compared_is xs 13 long) in
    let all = either_is xs _ _ (λ x. eqb x 0) (λ x. eqb x 10 || eqb x 13) (compared_is xs 0 long) ends in
    ap (λ ms. mask_l (map (top 7) ms) % 2 ^ 64) all
    ∙ ap (λ ms. mask_l ms % 2 ^ 64) (map-map (top 7) (λ x. cond (is_stray x) 255 0) xs ∙ ap (λ g. map g xs) (fun_ext (λ x. marked (is_stray x))))
    ∙ mask_l-mod (map is_stray xs) 64 (omega (arith, length-map xs is_stray))

-- ---- the marks of escapes, and a mark behind the block

module _ (xs : List ℕ) (marks : ℕ) (long : length xs ≡ 32) (are : marks ≡ mask_l (map (λ x. eqb x 61) xs)) where
  bit_is : (i : ℕ) → i < 32 → bit_at marks i ≡ cond (eqb (get_or xs i 0) 61) 1 0
  bit_is i lt =
      ap (λ n. bit_at n i) are
      ∙ bit_mask_l (map (λ x. eqb x 61) xs) i
      ∙ ap (λ b. cond b 1 0) (get_or-map (λ x. eqb x 61) xs i 0 false (omega (arith, long)))

  set : (b : Bool) → cond {A = ℕ} b 1 0 ≡ 1 → b ≡ true
  set true e = refl
  set false e = absurd (omega arith)

  below : marks < 2 ^ 32
  below = omega (arith, are, mask_l-lt (map (λ x. eqb x 61) xs), ap (λ n. 2 ^ n) (length-map xs (λ x. eqb x 61) ∙ long))

  abbrev pub both : ℕ
  both = bit_or marks (1 * 2 ^ 32 % 2 ^ 64)

  bit_behind : bit_at both 32 ≡ 1
  bit_behind = bit_at_set_same w64 marks 32 (omega arith)

  some : (n : ℕ) → bit_at n 32 ≡ 1 → 0 < n
  some n e = elim (cases_lt 0 n) [
    | inl lt ↦ lt
    | inr le ↦ let none : n ≡ 0 = omega arith in absurd (omega (arith, sym e ∙ ap (λ m. bit_at m 32) none ∙ bit_at-zero 32))
  ]

  lowest : (count_trailing_zeros 64 both < 64) × (bit_at both (count_trailing_zeros 64 both) ≡ 1) × ((i : ℕ) → i < count_trailing_zeros 64 both → bit_at both i ≡ 0)
  lowest = bit_at-trailing_zeros w64 both (some both bit_behind) (or_lt 64 marks 4294967296 (omega (arith, below)) (omega arith))

  pub gap_within : count_trailing_zeros 64 both ≤ 32
  gap_within = elim (cases_lt 32 (count_trailing_zeros 64 both)) [
    | inl lt ↦ absurd (omega (arith, sym bit_behind ∙ lowest.2 32 lt))
    | inr le ↦ le
  ]

  others : (i : ℕ) → i < 32 → bit_at both i ≡ cond (eqb (get_or xs i 0) 61) 1 0
  others i lt = bit_at_set_other w64 marks 32 (omega arith) i (λ e. omega arith) ∙ bit_is i lt

  gap_escape : (g : ℕ) → bit_at both g ≡ 1 → g < 32 → get_or xs g 0 ≡ 61
  gap_escape g e lt = eqb-true (get_or xs g 0) 61 (set (eqb (get_or xs g 0) 61) (sym (others g lt) ∙ e))

  small : (g : ℕ) → marks / 2 ^ (g + 1) ≡ 0 → marks < 2 ^ (g + 1)
  small g e = omega (arith, subst (λ q. marks < q * 2 ^ (g + 1) + 2 ^ (g + 1)) e (lt-div-mul-add {a = marks} {b = 2 ^ (g + 1)} (pow_pos (g + 1))))

  no_escape : (i : ℕ) → i < 32 → bit_at marks i ≡ 0 → get_or xs i 0 ≡ 61 → ⊥
  no_escape i lt e is = omega (arith, sym (bit_is i lt) ∙ e, ap (λ x. cond {A = ℕ} (eqb x 61) 1 0) is)

  pub one_escape : mask_l (map is_stray xs) ≡ 0 → (count_trailing_zeros 64 both ≡ 31 → ⊥) → marks / 2 ^ (count_trailing_zeros 64 both + 1) ≡ 0 → HasOneEscape xs (count_trailing_zeros 64 both)
  one_escape none last rest =
      let g = count_trailing_zeros 64 both in
      record {
        within = (gap_within, last);
        escape = λ lt. gap_escape g lowest.1 lt;
        plain = λ i lt. not-true _ (prefix_len_passes (λ x. not (is_stray x)) xs i 0 (omega (arith, leading_from_mask_l is_stray xs none, long)));
        other = λ i lt ne is. elim (cases_lt i g) [
          | inl less ↦ omega (arith, sym (others i lt) ∙ lowest.2 i less, ap (λ x. cond {A = ℕ} (eqb x 61) 1 0) is)
          | inr ge ↦ no_escape i lt (bit_at_above marks (g + 1) i (small g rest) (elim (cases_lt i (g + 1)) [ inl h ↦ absurd (ne (omega arith)) | inr h ↦ h ])) is
        ];
      }
