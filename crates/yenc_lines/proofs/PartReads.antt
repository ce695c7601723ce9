-- What was written as a part line is read again.
use Rattle.std.proofs.Common.{◌≡◌, ℕ, ◌^◌, ◌<◌, ◌≤◌, true, false, leb, List, [], ◌∷◌, ◌++◌, length, drop, Option, Some, Ok, refl, ap, ◌∙◌, arith}
use Rattle.std.specs.Prelude.{codes, decimal, nat_eq}
use Rattle.std.specs.List.{slice_split, list_any, list_all, starts_with}
use Rattle.std.specs.Char.{digit_value, is_ascii_digit}
use Rattle.std.specs.Str.Parse.{AllDigits, digits_value}
use Rattle.std.proofs.lemmas.Bool.{le-leb, and_from, or_from, or_parts}
use Rattle.std.proofs.lemmas.Bool.Decides.{nat_tests}
use Rattle.std.proofs.lemmas.Fmt.{decimal_is_IsNumeral}
use Rattle.yenc_lines.specs.declared.key.Key.TheVariants as key
use Rattle.yenc_lines.specs.declared.keyword.PartLine.{PartLine}
use Rattle.numbers.specs.Numbers.{decimal_of, within, or_zero}
use Rattle.yenc_lines.specs.Keywords.{is_space, ypart, Item, items_in, items_of, part_of, unless_fault, or_else, first_item_fault, missing_key, number_in}
use Rattle.yenc_lines.specs.KeywordText.{part_text}
use Rattle.limits.specs.declared.TheConstants.{MOST_FILE_BYTES}

-- ---- numbers

digit_is : (c : ℕ) → digit_value c < 10 → is_ascii_digit c ≡ true
digit_is c h = grind (arith, nat_tests)

digit_no_space : (c : ℕ) → digit_value c < 10 → is_space c ≡ false
digit_no_space c h = grind (arith, nat_tests)

digits_are : (ds : List ℕ) → AllDigits 10 ds → list_all is_ascii_digit ds ≡ true
digits_are [] h = refl
digits_are (d ∷ ds) h = and_from (is_ascii_digit d) (list_all is_ascii_digit ds) (digit_is d h.0) (digits_are ds h.1)

digits_no_space : (ds : List ℕ) → AllDigits 10 ds → list_any is_space ds ≡ false
digits_no_space [] h = refl
digits_no_space (d ∷ ds) h = or_from (is_space d) (list_any is_space ds) (digit_no_space d h.0) (digits_no_space ds h.1)

numeral_read : (ds : List ℕ) → 0 < length ds → AllDigits 10 ds → decimal_of ds ≡ Some (digits_value 10 ds)
numeral_read [] h d = absurd (omega arith)
numeral_read (c ∷ ds) h d = rw (digits_are (c ∷ ds) d) refl

pub decimal_read : (n : ℕ) → n < 2 ^ 64 → decimal_of (decimal n) ≡ Some n
decimal_read n h = let d = decimal_is_IsNumeral n h in numeral_read (decimal n) d.0.0 d.0.1 ∙ ap Some d.1

pub decimal_no_space : (n : ℕ) → n < 2 ^ 64 → list_any is_space (decimal n) ≡ false
decimal_no_space n h = digits_no_space (decimal n) (decimal_is_IsNumeral n h).0.1

pub within_is : (low high n : ℕ) → low ≤ n → n ≤ high → within low high (Some n) ≡ Some n
within_is low high n h k = rw (and_from (leb low n) (leb n high) (le-leb low n h) (le-leb n high k)) refl

-- ---- pieces

pub piece_then : (a b : List ℕ) → list_any is_space a ≡ false → slice_split is_space (a ++ 32 ∷ b) ≡ a ∷ slice_split is_space b
piece_then [] b h = refl
piece_then (x ∷ a) b h =
    let p = or_parts (is_space x) (list_any is_space a) h in rw (p.0, piece_then a b p.1) refl

pub last_piece : (a : List ℕ) → list_any is_space a ≡ false → slice_split is_space a ≡ a ∷ []
last_piece [] h = refl
last_piece (x ∷ a) h =
    let p = or_parts (is_space x) (list_any is_space a) h in rw (p.0, last_piece a p.1) refl

-- ---- the part line

-- a part line by its items
by_items : (line : List ℕ) (items : List Item) → starts_with nat_eq line ypart.word ≡ true → items_of ypart line ≡ items →
    part_of line ≡ unless_fault (or_else (first_item_fault [] items) (missing_key ypart.required items)) (record { begin = or_zero (number_in items key.Begin); end = or_zero (number_in items key.End) })
unfolding part_of
by_items line items h e = rw (h, e) refl

two_items : (begin end : List ℕ) (b e : ℕ) → within 1 MOST_FILE_BYTES (decimal_of begin) ≡ Some b → within 0 MOST_FILE_BYTES (decimal_of end) ≡ Some e → (items : List Item) →
    items ≡ record { key = key.Begin; value = begin } ∷ record { key = key.End; value = end } ∷ [] →
    unless_fault {A = PartLine} (or_else (first_item_fault [] items) (missing_key ypart.required items)) (record { begin = or_zero (number_in items key.Begin); end = or_zero (number_in items key.End) }) ≡ Ok (record { begin = b; end = e })
two_items begin end b e p q items is = rw is (rw (p, q) refl)

pub part_read : (p : PartLine) → 1 ≤ p.begin → p.begin ≤ MOST_FILE_BYTES → p.end ≤ MOST_FILE_BYTES → part_of (part_text p) ≡ Ok p
unfolding part_text
part_read p low b e =
    let pieces : slice_split is_space (drop 7 (part_text p)) ≡ (codes "begin=" ++ decimal p.begin) ∷ (codes "end=" ++ decimal p.end) ∷ [] =
    piece_then (codes "begin=" ++ decimal p.begin) (codes "end=" ++ decimal p.end) (decimal_no_space p.begin (omega arith))
    ∙ ap (λ (t : List (List ℕ)). (codes "begin=" ++ decimal p.begin) ∷ t) (last_piece (codes "end=" ++ decimal p.end) (decimal_no_space p.end (omega arith))) in
    let items : items_of ypart (part_text p) ≡ record { key = key.Begin; value = decimal p.begin } ∷ record { key = key.End; value = decimal p.end } ∷ [] =
    ap (λ (t : List (List ℕ)). items_in ypart.known t) pieces in
    let begins : within 1 MOST_FILE_BYTES (decimal_of (decimal p.begin)) ≡ Some p.begin = ap (λ (o : Option ℕ). within 1 MOST_FILE_BYTES o) (decimal_read p.begin (omega arith)) ∙ within_is 1 MOST_FILE_BYTES p.begin low b in
    let ends : within 0 MOST_FILE_BYTES (decimal_of (decimal p.end)) ≡ Some p.end = ap (λ (o : Option ℕ). within 0 MOST_FILE_BYTES o) (decimal_read p.end (omega arith)) ∙ within_is 0 MOST_FILE_BYTES p.end (omega arith) e in
    by_items (part_text p) (items_of ypart (part_text p)) refl refl ∙ two_items (decimal p.begin) (decimal p.end) p.begin p.end begins ends (items_of ypart (part_text p)) items
