-- The items of written lines: hexadecimal numbers, names, and what a line says by its items.
use Rattle.std.proofs.Common.{◌≡◌, ℕ, ◌+◌, ◌*◌, ◌/◌, ◌%◌, ◌^◌, ◌<◌, ◌≤◌, true, false, List, [], ◌∷◌, ◌++◌, length, Option, Some, refl, sym, ap, ◌∙◌, arith, inl, inr}
use Rattle.std.specs.Prelude.{codes, decimal, nat_eq}
use Rattle.std.specs.List.{slice_split, list_any, starts_with, join_with_byte}
use Rattle.std.specs.Char.{digit_value, is_ascii_hexdigit}
use Rattle.std.proofs.lemmas.Bool.{ne_eqb, le-ltb, lt-ltb, cases_lt}
use Rattle.std.proofs.lemmas.Bool.Decides.{nat_tests}
use Rattle.std.proofs.lemmas.List.Splits.{join_with_byte-slice_split, length-slice_split}
use Rattle.yenc_lines.specs.declared.key.Key.TheVariants as key
use Rattle.yenc_lines.specs.declared.keyword.Begin.{Begin}
use Rattle.yenc_lines.specs.declared.keyword.EndLine.{EndLine}
use Rattle.numbers.specs.Numbers.{decimal_of, hex32_of, within, or_zero}
use Rattle.yenc_lines.specs.Keywords.{is_space, is_name, trimmed, ybegin, yend, Item, items_in, items_of, begin_of, end_of, unless_fault, or_else, first_item_fault, missing_key, number_in, name_in}
use Rattle.crc_field.specs.Hex.{hex_digit, hex_digits}
use Rattle.yenc_lines.proofs.PartReads.{decimal_read, within_is}

-- ---- hexadecimal numbers

low_value : (d : ℕ) → d < 10 → digit_value (48 + d) ≡ d
low_value d h = grind (arith, nat_tests)

high_value : (d : ℕ) → 10 ≤ d → d < 16 → digit_value (87 + d) ≡ d
high_value d l h = grind (arith, nat_tests)

hex_digit_value : (d : ℕ) → d < 16 → digit_value (hex_digit d) ≡ d
hex_digit_value d h = elim (cases_lt d 10) [ inl l ↦ rw (lt-ltb d 10 l) (low_value d l) | inr l ↦ rw (le-ltb d 10 l) (high_value d l h) ]

low_is : (d : ℕ) → d < 10 → is_ascii_hexdigit (48 + d) ≡ true
low_is d h = grind (arith, nat_tests)

high_is : (d : ℕ) → 10 ≤ d → d < 16 → is_ascii_hexdigit (87 + d) ≡ true
high_is d l h = grind (arith, nat_tests)

hex_digit_is : (d : ℕ) → d < 16 → is_ascii_hexdigit (hex_digit d) ≡ true
hex_digit_is d h = elim (cases_lt d 10) [ inl l ↦ rw (lt-ltb d 10 l) (low_is d l) | inr l ↦ rw (le-ltb d 10 l) (high_is d l h) ]

hex_digit_no_space : (d : ℕ) → is_space (hex_digit d) ≡ false
hex_digit_no_space d = elim (cases_lt d 10) [ inl l ↦ rw (lt-ltb d 10 l) (ne_eqb (48 + d) 32 (omega arith)) | inr l ↦ rw (le-ltb d 10 l) (ne_eqb (87 + d) 32 (omega arith)) ]

-- eight digits are read
eight_read : (a b c d e f g h : ℕ) → a < 16 → b < 16 → c < 16 → d < 16 → e < 16 → f < 16 → g < 16 → h < 16 →
    hex32_of (hex_digit a ∷ hex_digit b ∷ hex_digit c ∷ hex_digit d ∷ hex_digit e ∷ hex_digit f ∷ hex_digit g ∷ hex_digit h ∷ [])
    ≡ Some ((((((((0 * 16 + a) * 16 + b) * 16 + c) * 16 + d) * 16 + e) * 16 + f) * 16 + g) * 16 + h)
eight_read a b c d e f g h pa pb pc pd pe pf pg ph = go (hex_digit a) (hex_digit b) (hex_digit c) (hex_digit d) (hex_digit e) (hex_digit f) (hex_digit g) (hex_digit h)
    (hex_digit_is a pa) (hex_digit_is b pb) (hex_digit_is c pc) (hex_digit_is d pd) (hex_digit_is e pe) (hex_digit_is f pf) (hex_digit_is g pg) (hex_digit_is h ph)
    (hex_digit_value a pa) (hex_digit_value b pb) (hex_digit_value c pc) (hex_digit_value d pd) (hex_digit_value e pe) (hex_digit_value f pf) (hex_digit_value g pg) (hex_digit_value h ph)
  where
    go : (s t u v w x y z : ℕ) → is_ascii_hexdigit s ≡ true → is_ascii_hexdigit t ≡ true → is_ascii_hexdigit u ≡ true → is_ascii_hexdigit v ≡ true →
        is_ascii_hexdigit w ≡ true → is_ascii_hexdigit x ≡ true → is_ascii_hexdigit y ≡ true → is_ascii_hexdigit z ≡ true →
        digit_value s ≡ a → digit_value t ≡ b → digit_value u ≡ c → digit_value v ≡ d → digit_value w ≡ e → digit_value x ≡ f → digit_value y ≡ g → digit_value z ≡ h →
        hex32_of (s ∷ t ∷ u ∷ v ∷ w ∷ x ∷ y ∷ z ∷ []) ≡ Some ((((((((0 * 16 + a) * 16 + b) * 16 + c) * 16 + d) * 16 + e) * 16 + f) * 16 + g) * 16 + h)
    go s t u v w x y z es et eu ev ew ex ey ez vs vt vu vv vw vx vy vz = rw (es, et, eu, ev, ew, ex, ey, ez, vs, vt, vu, vv, vw, vx, vy, vz) refl

pub eight_digits : (n : ℕ) → hex_digits 8 n ≡ hex_digit (n / 16 / 16 / 16 / 16 / 16 / 16 / 16 % 16) ∷ hex_digit (n / 16 / 16 / 16 / 16 / 16 / 16 % 16) ∷ hex_digit (n / 16 / 16 / 16 / 16 / 16 % 16) ∷ hex_digit (n / 16 / 16 / 16 / 16 % 16) ∷ hex_digit (n / 16 / 16 / 16 % 16) ∷ hex_digit (n / 16 / 16 % 16) ∷ hex_digit (n / 16 % 16) ∷ hex_digit (n % 16) ∷ []
unfolding hex_digits
eight_digits n = refl

pub length_eight : (n : ℕ) → length (hex_digits 8 n) ≡ 8
length_eight n = ap length (eight_digits n)

whole : (k : ℕ) → k < 2 ^ 32 → (((((((0 * 16 + k / 16 / 16 / 16 / 16 / 16 / 16 / 16 % 16) * 16 + k / 16 / 16 / 16 / 16 / 16 / 16 % 16) * 16 + k / 16 / 16 / 16 / 16 / 16 % 16) * 16 + k / 16 / 16 / 16 / 16 % 16) * 16 + k / 16 / 16 / 16 % 16) * 16 + k / 16 / 16 % 16) * 16 + k / 16 % 16) * 16 + k % 16 ≡ k
whole k lt = omega arith

pub hex32_read : (n : ℕ) → n < 2 ^ 32 → hex32_of (hex_digits 8 n) ≡ Some n
hex32_read n h =
    ap hex32_of (eight_digits n)
    ∙ eight_read (n / 16 / 16 / 16 / 16 / 16 / 16 / 16 % 16) (n / 16 / 16 / 16 / 16 / 16 / 16 % 16) (n / 16 / 16 / 16 / 16 / 16 % 16) (n / 16 / 16 / 16 / 16 % 16) (n / 16 / 16 / 16 % 16) (n / 16 / 16 % 16) (n / 16 % 16) (n % 16)
    (omega arith) (omega arith) (omega arith) (omega arith) (omega arith) (omega arith) (omega arith) (omega arith) ∙ ap Some (whole n h)

pub hex32_no_space : (n : ℕ) → list_any is_space (hex_digits 8 n) ≡ false
hex32_no_space n = ap (λ t. list_any is_space t) (eight_digits n) ∙ (simp hex_digit_no_space)

-- ---- a name, to the line's end

pub name_item : (name : List ℕ) → trimmed name ≡ name → items_in ybegin.known (slice_split is_space (codes "name=" ++ name)) ≡ record { key = key.Name; value = name } ∷ []
name_item name h = go (slice_split is_space name) refl
  where
    go : (pieces : List (List ℕ)) → slice_split is_space name ≡ pieces → items_in ybegin.known (slice_split is_space (codes "name=" ++ name)) ≡ record { key = key.Name; value = name } ∷ []
    go [] e = absurd (omega (arith, length-slice_split is_space name, ap length e))
    go (first ∷ others) e =
        let joined : join_with_byte 32 (first ∷ others) ≡ name = ap (λ (t : List (List ℕ)). join_with_byte 32 t) (sym e) ∙ join_with_byte-slice_split 32 name in
        rw e (rw (joined, h) refl)

-- ---- the header line

pub begin_by_items : (line : List ℕ) (items : List Item) → starts_with nat_eq line ybegin.word ≡ true → items_of ybegin line ≡ items →
    begin_of line ≡ unless_fault {A = Begin} (or_else (first_item_fault [] items) (missing_key ybegin.required items))
    (record { part = number_in items key.Part; total = number_in items key.Total; line = number_in items key.Line; size = or_zero (number_in items key.Size); name = name_in items })
unfolding begin_of
begin_by_items line items h e = rw (h, e) refl

abbrev pub made : ℕ → ℕ → List ℕ → Option ℕ → Option ℕ → Begin
made l s name part total = record { part = part; total = total; line = Some l; size = s; name = name }

pub is_within : (high n : ℕ) → n ≤ high → high < 2 ^ 64 → within 0 high (decimal_of (decimal n)) ≡ Some n
is_within high n h k = ap (λ (o : Option ℕ). within 0 high o) (decimal_read n (omega arith)) ∙ within_is 0 high n (omega arith) h

pub is_within_1 : (high n : ℕ) → 1 ≤ n → n ≤ high → high < 2 ^ 64 → within 1 high (decimal_of (decimal n)) ≡ Some n
is_within_1 high n l h k = ap (λ (o : Option ℕ). within 1 high o) (decimal_read n (omega arith)) ∙ within_is 1 high n l h

-- what a header's name is
pub record IsHeaderName (name : List ℕ) : Type 0 where
  pub fits : is_name name ≡ true
  pub no_space_at_ends : trimmed name ≡ name

-- ---- the trailer line

pub end_by_items : (line : List ℕ) (items : List Item) → starts_with nat_eq line yend.word ≡ true → items_of yend line ≡ items →
    end_of line ≡ unless_fault {A = EndLine} (or_else (first_item_fault [] items) (missing_key yend.required items))
    (record { size = or_zero (number_in items key.Size); part = number_in items key.Part; pcrc32 = number_in items key.Pcrc32; crc32 = number_in items key.Crc32 })
unfolding end_of
end_by_items line items h e = rw (h, e) refl
