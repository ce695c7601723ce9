-- Lanes that are taken from one block or another by a test of their places.
use Rattle.std.proofs.Common.{◌≡◌, ℕ, ◌+◌, ◌-◌, ◌%◌, ◌^◌, ◌<◌, List, Bool, true, false, cond, eqb, ltb, length, get_or, map, replicate, refl, sym, zero-add, ap, ◌∙◌, arith, w8}
use Rattle.std.specs.Simd.Lanes.{zip2, sel_l, top}
use Rattle.std.specs.List.{range_with_len}
use Rattle.std.proofs.lemmas.Simd.{length-zip2, get_or-zip2, get_or-replicate, get_or-sel_l, length-sel_l, tops_compared}
use Rattle.std.proofs.lemmas.List.FromFn.{get_or-range_with_len}
use Rattle.std.proofs.lemmas.Bool.{ltb-true, ne_eqb, true≢false}
use Rattle.landing_kernel.specs.Characters.{lowered}
use Rattle.gap_kernel.specs.Blocks.{byte_at}

abbrev tests : (ℕ → ℕ → Bool) → ℕ → List Bool
tests t count = zip2 t (range_with_len 0 32) (replicate 32 count)

abbrev pub picked : (ℕ → ℕ → Bool) → ℕ → List ℕ → List ℕ → List ℕ
picked t count new old = sel_l (map (top 7) (zip2 (λ a b. cond (t a b) 255 0) (range_with_len 0 32) (replicate 32 count))) new old

module _ (t : ℕ → ℕ → Bool) (count : ℕ) (new old : List ℕ) (n : length new ≡ 32) (o : length old ≡ 32) where
  long : length (tests t count) ≡ 32
  long = length-zip2 t (range_with_len 0 32) (replicate 32 count) refl

  pub picked_long : length (picked t count new old) ≡ 32
  picked_long = ap (λ m. length (sel_l m new old)) (tops_compared w8 t (range_with_len 0 32) (replicate 32 count)) ∙ length-sel_l (tests t count) new old (omega (arith, long)) (omega (arith, long)) ∙ long

  bit : (i : ℕ) → i < 32 → get_or (tests t count) i false ≡ t i count
  bit i lt =
      get_or-zip2 t (range_with_len 0 32) (replicate 32 count) i 0 0 false lt lt
      ∙ (λ k. t ((get_or-range_with_len 0 32 i 0 lt ∙ zero-add i) k) (get_or-replicate 32 i count 0 lt k))

  pub picked_at : (i : ℕ) → i < 32 → get_or (picked t count new old) i 0 ≡ cond (t i count) (get_or new i 0) (get_or old i 0)
  picked_at i lt =
      ap (λ m. get_or (sel_l m new old) i 0) (tops_compared w8 t (range_with_len 0 32) (replicate 32 count))
      ∙ get_or-sel_l (tests t count) new old i 0 (omega (arith, long)) (omega (arith, n)) (omega (arith, o))
      ∙ ap (λ b. cond b (get_or new i 0) (get_or old i 0)) (bit i lt)

-- ---- a block with its gap closed

module _ (gap : ℕ) (lanes next : List ℕ) (n : length lanes ≡ 32) (o : length next ≡ 32) where
  abbrev characters : List ℕ
  characters = picked ltb gap lanes next

  abbrev lower : List ℕ
  lower = picked eqb gap (replicate 32 106) (replicate 32 42)

  characters_long : length characters ≡ 32
  characters_long = picked_long ltb gap lanes next n o

  lower_long : length lower ≡ 32
  lower_long = picked_long eqb gap (replicate 32 106) (replicate 32 42) refl refl

  abbrev pub bytes : List ℕ
  bytes = zip2 (λ a b. (a + (2 ^ 8 - b)) % 2 ^ 8) characters lower

  pub byte_long : length bytes ≡ 32
  byte_long = length-zip2 (λ a b. (a + (2 ^ 8 - b)) % 2 ^ 8) characters lower (characters_long ∙ sym lower_long) ∙ characters_long

  by_tests : (p q : Bool) (x y : ℕ) → (p ≡ true → q ≡ false) → (cond p x y + (2 ^ 8 - cond q 106 42)) % 2 ^ 8 ≡ cond p (lowered x) (cond q ((y + 150) % 256) (lowered y))
  by_tests true true x y e = absurd (true≢false (e refl))
  by_tests true false x y e = refl
  by_tests false true x y e = refl
  by_tests false false x y e = refl

  pub byte_is : (i : ℕ) → i < 32 → get_or bytes i 0 ≡ byte_at gap i (get_or lanes i 0) (get_or next i 0)
  byte_is i lt =
      get_or-zip2 (λ a b. (a + (2 ^ 8 - b)) % 2 ^ 8) characters lower i 0 0 0 (omega (arith, characters_long)) (omega (arith, lower_long))
      ∙ (λ k. (picked_at ltb gap lanes next n o i lt k + (2 ^ 8 - lower_at i lt k)) % 2 ^ 8)
      ∙ by_tests (ltb i gap) (eqb i gap) (get_or lanes i 0) (get_or next i 0) (λ e. ne_eqb i gap (λ same. let less = ltb-true i gap e in omega (arith, less)))
    where
      lower_at : (i : ℕ) → i < 32 → get_or lower i 0 ≡ cond (eqb i gap) 106 42
      lower_at i lt =
          picked_at eqb gap (replicate 32 106) (replicate 32 42) refl refl i lt
          ∙ (λ k. cond (eqb i gap) (get_or-replicate 32 i 106 0 lt k) (get_or-replicate 32 i 42 0 lt k))
