-- Few digits have a small value.
use Rattle.std.proofs.Common.{◌≡◌, ◌≤◌, ◌<◌, ℕ, ◌+◌, ◌^◌, Bool, true, false, List, [], ◌∷◌, length, Option, Some, None, refl, ap, subst, arith, rules, lit≤}
use Rattle.std.specs.Prelude.{nat_le, ◌&&◌}
use Rattle.std.specs.Char.{is_ascii_digit}
use Rattle.std.specs.List.{list_all}
use Rattle.std.specs.Str.Parse.{digits_value}
use Rattle.std.proofs.lemmas.Bool.{and_parts, le-leb, leb-true}
use Rattle.std.proofs.lemmas.Str.Parse.{IsNumeralModel, digits_value_short, numerals_by_value}
use Rattle.numbers.specs.Numbers.{decimal_of, within}

digits_model : IsNumeralModel (λ ds. list_all is_ascii_digit ds ≡ true) (digits_value 10)
digits_model = numerals_by_value _ (search rules)

none_some : {a : ℕ} → None ≡ Some a → ⊥
none_some e = cc

some_same : {a b : ℕ} → Some a ≡ Some b → a ≡ b
some_same e = cc

-- ---- a value within limits

pub within_is : (low high n : ℕ) → low ≤ n → n ≤ high → within low high (Some n) ≡ Some n
within_is low high n least most = rw (le-leb low n least, le-leb n high most) refl

pub within_parts : (low high : ℕ) (found : Option ℕ) (n : ℕ) → within low high found ≡ Some n → (found ≡ Some n) × (low ≤ n) × (n ≤ high)
within_parts low high None n is = absurd (none_some is)
within_parts low high (Some m) n is = by_test (nat_le low m && nat_le m high) refl
  where
    by_test : (test : Bool) → (nat_le low m && nat_le m high) ≡ test → (Some m ≡ Some n) × (low ≤ n) × (n ≤ high)
    by_test false e = absurd (none_some {a = n} (rw e at is))
    by_test true e =
        let same : m ≡ n = some_same (rw e at is) in
        let parts = and_parts (nat_le low m) (nat_le m high) e in
        (ap (λ (k : ℕ). Some k) same, omega (arith, leb-true low m parts.0, same), omega (arith, leb-true m high parts.1, same))

-- ---- few digits

-- a number of so many digits has a value below that power of ten
pub few_value : (places : ℕ) (digits : List ℕ) (n : ℕ) → decimal_of digits ≡ Some n → length digits ≤ places → n < 10 ^ places
few_value places [] n is few = absurd (none_some is)
few_value places (d ∷ ds) n is few = by_test (list_all is_ascii_digit (d ∷ ds)) refl
  where
    by_test : (test : Bool) → list_all is_ascii_digit (d ∷ ds) ≡ test → n < 10 ^ places
    by_test false e = absurd (none_some {a = n} (rw e at is))
    by_test true e =
        let same : digits_value 10 (d ∷ ds) ≡ n = some_same (rw e at is) in
        subst (λ (m : ℕ). m < 10 ^ places) same (digits_value_short digits_model (d ∷ ds) places e few)

-- a number of so many digits is no greater than so many nines
pub few_digits : (most places : ℕ) (digits : List ℕ) → 10 ^ places ≤ most + 1 → length digits ≤ places → within 0 most (decimal_of digits) ≡ decimal_of digits
few_digits most places [] room few = refl
few_digits most places (d ∷ ds) room few = by_test (list_all is_ascii_digit (d ∷ ds)) refl
  where
    by_test : (test : Bool) → list_all is_ascii_digit (d ∷ ds) ≡ test → within 0 most (decimal_of (d ∷ ds)) ≡ decimal_of (d ∷ ds)
    by_test false is = rw is refl
    by_test true is =
        let small = digits_value_short digits_model (d ∷ ds) places is few in
        rw (is, le-leb 0 (digits_value 10 (d ∷ ds)) (omega arith), le-leb (digits_value 10 (d ∷ ds)) most (omega (arith, small))) refl

pub seven_digits : (digits : List ℕ) → length digits ≤ 7 → within 0 9999999 (decimal_of digits) ≡ decimal_of digits
seven_digits digits few = few_digits 9999999 7 digits (lit≤ tt) few
