-- A number that is written in decimal is read again.
use Rattle.std.proofs.Common.{◌≡◌, ℕ, ◌^◌, ◌<◌, true, List, [], ◌∷◌, length, Some, refl, ap, ◌∙◌, arith}
use Rattle.std.specs.Prelude.{decimal}
use Rattle.std.specs.List.{list_all}
use Rattle.std.specs.Char.{digit_value, is_ascii_digit}
use Rattle.std.specs.Str.Parse.{AllDigits, digits_value}
use Rattle.std.proofs.lemmas.Bool.{and_from}
use Rattle.std.proofs.lemmas.Bool.Decides.{nat_tests}
use Rattle.std.proofs.lemmas.Fmt.{decimal_is_IsNumeral}
use Rattle.numbers.specs.Numbers.{decimal_of}

digit_is : (c : ℕ) → digit_value c < 10 → is_ascii_digit c ≡ true
digit_is c h = grind (arith, nat_tests)

digits_are : (ds : List ℕ) → AllDigits 10 ds → list_all is_ascii_digit ds ≡ true
digits_are [] h = refl
digits_are (d ∷ ds) h = and_from (is_ascii_digit d) (list_all is_ascii_digit ds) (digit_is d h.0) (digits_are ds h.1)

numeral_read : (ds : List ℕ) → 0 < length ds → AllDigits 10 ds → decimal_of ds ≡ Some (digits_value 10 ds)
numeral_read [] h d = absurd (omega arith)
numeral_read (c ∷ ds) h d = rw (digits_are (c ∷ ds) d) refl

pub decimal_read : (n : ℕ) → n < 2 ^ 64 → decimal_of (decimal n) ≡ Some n
decimal_read n h = let d = decimal_is_IsNumeral n h in numeral_read (decimal n) d.0.0 d.0.1 ∙ ap Some d.1
