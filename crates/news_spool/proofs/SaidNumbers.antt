-- Numbers that are written in decimal.
use Rattle.std.proofs.Common.{◌≡◌, ℕ, ◌≤◌, ◌<◌, ◌^◌, ◌++◌, ◌∷◌, true, List, [], length, Some, refl, ap, ◌∙◌, arith, append_assoc}
use Rattle.std.specs.Prelude.{codes, decimal, nat_le}
use Rattle.std.specs.List.{list_all}
use Rattle.std.specs.Char.{digit_value, is_ascii_digit}
use Rattle.std.specs.Str.Parse.{AllDigits, digits_value}
use Rattle.std.proofs.lemmas.Bool.{and_from}
use Rattle.std.proofs.lemmas.Bool.Decides.{nat_tests}
use Rattle.std.proofs.lemmas.Fmt.{decimal_is_IsNumeral}
use Rattle.numbers.specs.Numbers.{decimal_of, within}
use Rattle.nntp_lines.specs.GroupReply.{IsGroupLine, number_of}
use Rattle.nntp_lines.specs.declared.group.GroupReply.{GroupReply}
use Rattle.news_spool.specs.Groups.{group_line}
use Rattle.limits.specs.declared.TheConstants.{MOST_ARTICLE}

digit_is : (c : ℕ) → digit_value c < 10 → is_ascii_digit c ≡ true
digit_is c h = grind (arith, nat_tests)

digits_are : (ds : List ℕ) → AllDigits 10 ds → list_all is_ascii_digit ds ≡ true
digits_are [] h = refl
digits_are (d ∷ ds) h = and_from (is_ascii_digit d) (list_all is_ascii_digit ds) (digit_is d h.0) (digits_are ds h.1)

pub decimal_digits : (n : ℕ) → n < 2 ^ 64 → list_all is_ascii_digit (decimal n) ≡ true
decimal_digits n fits = let numeral = decimal_is_IsNumeral n fits in digits_are (decimal n) numeral.0.1

numeral_read : (ds : List ℕ) → 0 < length ds → AllDigits 10 ds → decimal_of ds ≡ Some (digits_value 10 ds)
numeral_read [] some digits = absurd (omega arith)
numeral_read (d ∷ ds) some digits = rw (digits_are (d ∷ ds) digits) refl

within_is : (n : ℕ) → n ≤ MOST_ARTICLE → within 0 MOST_ARTICLE (Some n) ≡ Some n
within_is n most =
    let least : nat_le 0 n ≡ true = grind (arith, nat_tests) in
    let greatest : nat_le n MOST_ARTICLE ≡ true = grind (arith, nat_tests) in
    rw (least, greatest) refl

number_read : (n : ℕ) → n ≤ MOST_ARTICLE → number_of (decimal n) ≡ Some n
number_read n most =
    let numeral = decimal_is_IsNumeral n (omega arith) in
    ap (within 0 MOST_ARTICLE) (numeral_read (decimal n) numeral.0.0 numeral.0.1 ∙ ap Some numeral.1) ∙ within_is n most

parts : (a b c d e f g h : List ℕ) → (((((((a ++ b) ++ c) ++ d) ++ e) ++ f) ++ g) ++ h) ≡ a ++ (b ++ (c ++ (d ++ (e ++ (f ++ (g ++ h))))))
parts a b c d e f g h = simp append_assoc

pub says_counts : (name : List ℕ) (told : GroupReply) → told.count ≤ MOST_ARTICLE → told.low ≤ MOST_ARTICLE → told.high ≤ MOST_ARTICLE
    → IsGroupLine (group_line name told) told
unfolding group_line
says_counts name told count low high = record {
  count = decimal told.count;
  low = decimal told.low;
  high = decimal told.high;
  name = name;
  whole = parts (codes "211 ") (decimal told.count) (codes " ") (decimal told.low) (codes " ") (decimal told.high) (codes " ") name;
  count_is = number_read told.count count;
  low_is = number_read told.low low;
  high_is = number_read told.high high;
}
