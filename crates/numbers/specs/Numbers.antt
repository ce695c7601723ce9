-- Numbers as a reader takes them from text.
use Rattle.std.specs.Prelude.{ℕ, ◌+◌, ◌*◌, ◌&&◌, nat_le, if◌then◌else◌, List, [], ◌∷◌, length, Option, Some, None}
use Rattle.std.specs.List.{list_all}
use Rattle.std.specs.Char.{digit_value, is_ascii_digit, is_ascii_hexdigit}
use Rattle.std.specs.Str.Parse.{digits_value}

-- the value of one or more decimal digits and nothing else; leading zeros may stand
abbrev pub decimal_of : List ℕ → Option ℕ
decimal_of [] = None
decimal_of (d ∷ ds) = if list_all is_ascii_digit (d ∷ ds) then Some (digits_value 10 (d ∷ ds)) else None

-- the value of 1 to 8 hexadecimal digits of either case and nothing else
abbrev pub hex32_of : List ℕ → Option ℕ
hex32_of [] = None
hex32_of (d ∷ ds) = if list_all is_ascii_hexdigit (d ∷ ds) && nat_le (length (d ∷ ds)) 8 then Some (digits_value 16 (d ∷ ds)) else None

-- a value from `low` to `high`
abbrev pub within : ℕ → ℕ → Option ℕ → Option ℕ
within low high None = None
within low high (Some n) = if nat_le low n && nat_le n high then Some n else None

-- a value with one more decimal digit behind it
abbrev pub with_digit : ℕ → ℕ → Option ℕ
with_digit n byte = if is_ascii_digit byte then Some (n * 10 + digit_value byte) else None

-- the value of one hexadecimal digit of either case
abbrev pub hex_digit_of : ℕ → Option ℕ
hex_digit_of byte = if is_ascii_hexdigit byte then Some (digit_value byte) else None

-- a number, or 0 where there is none
abbrev pub or_zero : Option ℕ → ℕ
or_zero None = 0
or_zero (Some n) = n

-- a number that a text begins with, and what stands behind the byte after it
pub record Numbered : Type 0 where
  pub number : ℕ
  pub behind : List ℕ

abbrev pub numbered_of : Option ℕ → List ℕ → Option Numbered
numbered_of None behind = None
numbered_of (Some number) behind = Some (record { number = number; behind = behind })
