-- Texts without a line end, of limited length.
use Rattle.std.proofs.Common.{◌≡◌, ℕ, ◌+◌, ◌/◌, ◌%◌, ◌≤◌, ◌<◌, ◌^◌, Bool, true, List, [], ◌∷◌, ◌++◌, zero, suc, length, refl, arith, lit<, lit≤, length-append}
use Rattle.std.specs.Prelude.{decimal, not}
use Rattle.std.specs.Char.{digit_value}
use Rattle.std.proofs.lemmas.Bool.Decides.{nat_tests}
use Rattle.std.proofs.lemmas.Fmt.{length-decimal-le}
use Rattle.article_head.proofs.TextLaws.{append_passed, decimal_passed}
use Rattle.crc_field.specs.Hex.{hex_digit, hex_digits}
use Rattle.yenc_lines.specs.Name.{IsName, has_no_line_end, is_line_end}

-- no NUL, CR or LF, and at most so many bytes
pub record IsShort (most : ℕ) (text : List ℕ) : Type 0 where
  pub plain : has_no_line_end text ≡ true
  pub short : length text ≤ most

abbrev pub ends_no_line : ℕ → Bool
ends_no_line byte = not (is_line_end byte)

pub both_short : (m n : ℕ) (a b : List ℕ) → IsShort m a → IsShort n b → IsShort (m + n) (a ++ b)
both_short m n a b p q = record {
  plain = append_passed ends_no_line a b p.plain q.plain;
  short = let first = p.short in let second = q.short in simp length-append (omega arith);
}

pub longer : (m n : ℕ) (a : List ℕ) → m ≤ n → IsShort m a → IsShort n a
longer m n a le p = record { plain = p.plain; short = omega (arith, p.short) }

digit_plain : (byte : ℕ) → digit_value byte < 10 → ends_no_line byte ≡ true
digit_plain byte h = grind (arith, nat_tests)

pub number_short : (n : ℕ) → n < 2 ^ 64 → IsShort 20 (decimal n)
number_short n h = record {
  plain = decimal_passed ends_no_line digit_plain n h;
  short = length-decimal-le 20 n (lit< tt) (omega arith) h;
}

hex_digit_plain : (n : ℕ) → ends_no_line (hex_digit n) ≡ true
hex_digit_plain n = grind (arith, nat_tests)

pub hex_short : (k n : ℕ) → IsShort k (hex_digits k n)
unfolding hex_digits
hex_short zero n = record { plain = refl; short = lit≤ tt }
hex_short (suc k) n =
    let last : IsShort 1 (hex_digit (n % 16) ∷ []) = record { plain = rw (hex_digit_plain (n % 16)) refl; short = lit≤ tt } in
    longer (k + 1) (suc k) (hex_digits (suc k) n) (omega arith) (both_short k 1 (hex_digits k (n / 16)) (hex_digit (n % 16) ∷ []) (hex_short k (n / 16)) last)

pub name_short : (name : List ℕ) → IsName name → IsShort 255 name
name_short name h = record { plain = h.no_line_end; short = h.most }
