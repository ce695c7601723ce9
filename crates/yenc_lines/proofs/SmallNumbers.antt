-- Numbers within their limits: of 32 bits, and sizes.
use Rattle.std.proofs.Common.{◌≡◌, ◌<◌, ◌≤◌, ◌^◌, ℕ, ◌&&◌, nat_le, List, Option, Some, None, Ok, IfSome, refl, sym, inl, inr, arith, find, option_and_then, subst}
use Rattle.std.proofs.lemmas.Bool.{cases_Bool, and_parts, leb-true}
use Rattle.numbers.specs.Numbers.{decimal_of, hex32_of, within, or_zero}
use Rattle.numbers.proofs.NumberDigits.{hex32_low}
use Rattle.yenc_lines.specs.declared.key.Key.TheVariants as key
use Rattle.yenc_lines.specs.declared.key.KeyFault.{KeyFault}
use Rattle.yenc_lines.specs.declared.keyword.Begin.{Begin}
use Rattle.yenc_lines.specs.Keywords.{Item, begin_of, items_of, key_fault_of, name_in, number_of, number_in, same_key, unless_fault, ybegin}
use Rattle.limits.specs.declared.TheConstants.{MOST_FILE_BYTES}

within_small : (low : ℕ) (o : Option ℕ) → IfSome (within low 4294967295 o) (λ n. n < 2 ^ 32)
within_small low None = tt
within_small low (Some n) = elim (cases_Bool (nat_le low n && nat_le n 4294967295)) [
  | inl holds ↦ let le : n ≤ 4294967295 = leb-true _ _ (and_parts (nat_le low n) (nat_le n 4294967295) holds).1 in rw holds (omega arith)
  | inr lacks ↦ rw lacks tt
]

hex_small : (text : List ℕ) (o : Option ℕ) → hex32_of text ≡ o → IfSome o (λ n. n < 2 ^ 32)
hex_small text None is = tt
hex_small text (Some n) is = hex32_low text n is

pub part_small : (items : List Item) → IfSome (number_in items key.Part) (λ n. n < 2 ^ 32)
part_small items = by_found (find (λ item. same_key key.Part item.key) items)
  where
    by_found : (found : Option Item) → IfSome (option_and_then (λ (item : Item). number_of key.Part item.value) found) (λ n. n < 2 ^ 32)
    by_found None = tt
    by_found (Some item) = within_small 1 (decimal_of item.value)

pub total_small : (items : List Item) → IfSome (number_in items key.Total) (λ n. n < 2 ^ 32)
total_small items = by_found (find (λ item. same_key key.Total item.key) items)
  where
    by_found : (found : Option Item) → IfSome (option_and_then (λ (item : Item). number_of key.Total item.value) found) (λ n. n < 2 ^ 32)
    by_found None = tt
    by_found (Some item) = within_small 0 (decimal_of item.value)

pub line_small : (items : List Item) → IfSome (number_in items key.Line) (λ n. n < 2 ^ 32)
line_small items = by_found (find (λ item. same_key key.Line item.key) items)
  where
    by_found : (found : Option Item) → IfSome (option_and_then (λ (item : Item). number_of key.Line item.value) found) (λ n. n < 2 ^ 32)
    by_found None = tt
    by_found (Some item) = within_small 0 (decimal_of item.value)

pub pcrc32_small : (items : List Item) → IfSome (number_in items key.Pcrc32) (λ n. n < 2 ^ 32)
pcrc32_small items = by_found (find (λ item. same_key key.Pcrc32 item.key) items)
  where
    by_found : (found : Option Item) → IfSome (option_and_then (λ (item : Item). number_of key.Pcrc32 item.value) found) (λ n. n < 2 ^ 32)
    by_found None = tt
    by_found (Some item) = hex_small item.value (hex32_of item.value) refl

pub crc32_small : (items : List Item) → IfSome (number_in items key.Crc32) (λ n. n < 2 ^ 32)
crc32_small items = by_found (find (λ item. same_key key.Crc32 item.key) items)
  where
    by_found : (found : Option Item) → IfSome (option_and_then (λ (item : Item). number_of key.Crc32 item.value) found) (λ n. n < 2 ^ 32)
    by_found None = tt
    by_found (Some item) = hex_small item.value (hex32_of item.value) refl

-- a number that is that of the items
pub small_too : (number : Option ℕ) (given : Option ℕ) → given ≡ number → IfSome number (λ n. n < 2 ^ 32) → IfSome given (λ n. n < 2 ^ 32)
small_too number given is small = subst (λ (o : Option ℕ). IfSome o (λ n. n < 2 ^ 32)) (sym is) small

-- ---- sizes

-- a number that is read is within the limit
pub within_most : (o : Option ℕ) → IfSome (within 0 MOST_FILE_BYTES o) (λ n. n ≤ MOST_FILE_BYTES)
within_most None = tt
within_most (Some n) = elim (cases_Bool (nat_le 0 n && nat_le n MOST_FILE_BYTES)) [
  | inl holds ↦ let le : n ≤ MOST_FILE_BYTES = leb-true _ _ (and_parts (nat_le 0 n) (nat_le n MOST_FILE_BYTES) holds).1 in rw holds (omega arith)
  | inr lacks ↦ rw lacks tt
]

size_small : (items : List Item) → IfSome (number_in items key.Size) (λ n. n ≤ MOST_FILE_BYTES)
size_small items = by_found (find (λ item. same_key key.Size item.key) items)
  where
    by_found : (found : Option Item) → IfSome (option_and_then (λ (item : Item). number_of key.Size item.value) found) (λ n. n ≤ MOST_FILE_BYTES)
    by_found None = tt
    by_found (Some item) = within_most (decimal_of item.value)

pub or_zero_small : (o : Option ℕ) → IfSome o (λ n. n ≤ MOST_FILE_BYTES) → or_zero o ≤ MOST_FILE_BYTES
or_zero_small None h = omega arith
or_zero_small (Some n) h = h

-- the size in a header line that is read is within the limit
pub begin_size : (line : List ℕ) (b : Begin) → begin_of line ≡ Ok b → b.size ≤ MOST_FILE_BYTES
unfolding begin_of
begin_size line b e = by_fault (key_fault_of ybegin line) e
  where
    by_fault : (f : Option KeyFault) → unless_fault f (record { part = number_in (items_of ybegin line) key.Part; total = number_in (items_of ybegin line) key.Total; line = number_in (items_of ybegin line) key.Line; size = or_zero (number_in (items_of ybegin line) key.Size); name = name_in (items_of ybegin line) }) ≡ Ok b → b.size ≤ MOST_FILE_BYTES
    by_fault None e = let small = or_zero_small (number_in (items_of ybegin line) key.Size) (size_small (items_of ybegin line)) in let same : b.size ≡ or_zero (number_in (items_of ybegin line) key.Size) = cc in rw same small
    by_fault (Some f) e = absurd cc
