-- What is written as a header or a trailer line is read again, whichever items are there.
use Rattle.std.proofs.Common.{◌≡◌, ℕ, ◌^◌, ◌≤◌, true, List, [], ◌∷◌, ◌++◌, Option, Some, None, Ok, refl, sym, ap, ◌∙◌, append_assoc, arith}
use Rattle.std.specs.Prelude.{codes, decimal, nat_eq}
use Rattle.std.specs.List.{AllByRecursion, slice_split, starts_with}
use Rattle.std.proofs.lemmas.List.{append-nil}
use Rattle.numbers.specs.Numbers.{or_zero}
use Rattle.crc_field.specs.Hex.{hex_digits}
use Rattle.yenc_lines.specs.declared.key.Key.{Key}
use Rattle.yenc_lines.specs.declared.key.Key.TheVariants as key
use Rattle.yenc_lines.specs.declared.keyword.Begin.{Begin}
use Rattle.yenc_lines.specs.declared.keyword.EndLine.{EndLine}
use Rattle.yenc_lines.specs.Keywords.{is_space, is_name, ybegin, yend, Item, items_in, items_of, begin_of, end_of, unless_fault, or_else, first_item_fault, missing_key, number_in, name_in}
use Rattle.yenc_lines.specs.KeywordText.{item, begin_text, end_text}
use Rattle.yenc_lines.specs.Name.{IsName}
use Rattle.yenc_lines.specs.WrittenLines.{IsBetween}
use Rattle.yenc_lines.proofs.HeaderNames.{header_name}
use Rattle.yenc_lines.proofs.PartReads.{decimal_no_space}
use Rattle.yenc_lines.proofs.SpacedItems.{HasNoSpace, spaced, piece_of, item_then, pieces_then, all_pieces, AllByRecursion-append}
use Rattle.yenc_lines.proofs.WrittenItems.{is_within, is_within_1, hex32_read, hex32_no_space, name_item, begin_by_items, end_by_items}
use Rattle.limits.specs.declared.TheConstants.{MOST_FILE_BYTES}

-- an item, where it is there
abbrev item_with : Key → (ℕ → List ℕ) → Option ℕ → List Item
item_with k text None = []
item_with k text (Some n) = record { key = k; value = text n } ∷ []

-- ---- the header line

abbrev header_pieces : Option ℕ → Option ℕ → Option ℕ → ℕ → List (List ℕ)
header_pieces part total line size = piece_of (codes "part") decimal part ++ (piece_of (codes "total") decimal total ++ (piece_of (codes "line") decimal line ++ (piece_of (codes "size") decimal (Some size) ++ [])))

header_regrouped : (P T L S name : List ℕ) → codes "=ybegin" ++ P ++ T ++ L ++ S ++ codes " name=" ++ name ≡ codes "=ybegin" ++ (P ++ (T ++ (L ++ (S ++ (codes " name=" ++ name)))))
header_regrouped P T L S name =
    append_assoc (codes "=ybegin" ++ P ++ T ++ L ++ S) (codes " name=") name
    ∙ append_assoc (codes "=ybegin" ++ P ++ T ++ L) S (codes " name=" ++ name)
    ∙ append_assoc (codes "=ybegin" ++ P ++ T) L (S ++ (codes " name=" ++ name))
    ∙ append_assoc (codes "=ybegin" ++ P) T (L ++ (S ++ (codes " name=" ++ name)))
    ∙ append_assoc (codes "=ybegin") P (T ++ (L ++ (S ++ (codes " name=" ++ name))))

header_spaced : (part total line : Option ℕ) (size : ℕ) (more : List ℕ) →
    item (codes "part") decimal part ++ (item (codes "total") decimal total ++ (item (codes "line") decimal line ++ (item (codes "size") decimal (Some size) ++ more)))
    ≡ spaced (header_pieces part total line size) ++ more
header_spaced part total line size more =
    ap (λ (t : List ℕ). item (codes "part") decimal part ++ (item (codes "total") decimal total ++ (item (codes "line") decimal line ++ t))) (item_then (codes "size") decimal (Some size) [] more)
    ∙ ap (λ (t : List ℕ). item (codes "part") decimal part ++ (item (codes "total") decimal total ++ t)) (item_then (codes "line") decimal line (piece_of (codes "size") decimal (Some size) ++ []) more)
    ∙ ap (λ (t : List ℕ). item (codes "part") decimal part ++ t) (item_then (codes "total") decimal total (piece_of (codes "line") decimal line ++ (piece_of (codes "size") decimal (Some size) ++ [])) more)
    ∙ item_then (codes "part") decimal part (piece_of (codes "total") decimal total ++ (piece_of (codes "line") decimal line ++ (piece_of (codes "size") decimal (Some size) ++ []))) more

part_has_none : (n : Option ℕ) → IsBetween 1 4294967295 n → AllByRecursion HasNoSpace (piece_of (codes "part") decimal n)
part_has_none None h = tt
part_has_none (Some n) h = (decimal_no_space n (omega (arith, h)), tt)

total_has_none : (n : Option ℕ) → IsBetween 0 4294967295 n → AllByRecursion HasNoSpace (piece_of (codes "total") decimal n)
total_has_none None h = tt
total_has_none (Some n) h = (decimal_no_space n (omega (arith, h)), tt)

line_has_none : (n : Option ℕ) → IsBetween 0 4294967295 n → AllByRecursion HasNoSpace (piece_of (codes "line") decimal n)
line_has_none None h = tt
line_has_none (Some n) h = (decimal_no_space n (omega (arith, h)), tt)

header_has_none : (part total line : Option ℕ) (size : ℕ) → IsBetween 1 4294967295 part → IsBetween 0 4294967295 total → IsBetween 0 4294967295 line → size ≤ MOST_FILE_BYTES →
    AllByRecursion HasNoSpace (header_pieces part total line size)
header_has_none part total line size p t l s =
    AllByRecursion-append _ _ (part_has_none part p) (AllByRecursion-append _ _ (total_has_none total t) (AllByRecursion-append _ _ (line_has_none line l) (decimal_no_space size (omega arith), tt)))

abbrev header_items : Option ℕ → Option ℕ → Option ℕ → ℕ → List Item → List Item
header_items part total line size more = item_with key.Part decimal part ++ (item_with key.Total decimal total ++ (item_with key.Line decimal line ++ (record { key = key.Size; value = decimal size } ∷ more)))

header_items_are : (part total line : Option ℕ) (size : ℕ) (more : List (List ℕ)) → items_in ybegin.known (header_pieces part total line size ++ more) ≡ header_items part total line size (items_in ybegin.known more)
header_items_are None None None size more = refl
header_items_are None None (Some l) size more = refl
header_items_are None (Some t) None size more = refl
header_items_are None (Some t) (Some l) size more = refl
header_items_are (Some p) None None size more = refl
header_items_are (Some p) None (Some l) size more = refl
header_items_are (Some p) (Some t) None size more = refl
header_items_are (Some p) (Some t) (Some l) size more = refl

abbrev Said : List Item → Begin → Type 0
Said items b =
    unless_fault {A = Begin} (or_else (first_item_fault [] items) (missing_key ybegin.required items))
    (record { part = number_in items key.Part; total = number_in items key.Total; line = number_in items key.Line; size = or_zero (number_in items key.Size); name = name_in items })
    ≡ Ok b

header_said : (part total line : Option ℕ) (size : ℕ) (name : List ℕ) → IsBetween 1 4294967295 part → IsBetween 0 4294967295 total → IsBetween 0 4294967295 line → size ≤ MOST_FILE_BYTES → is_name name ≡ true →
    (items : List Item) → items ≡ header_items part total line size (record { key = key.Name; value = name } ∷ []) → Said items (record { part = part; total = total; line = line; size = size; name = name })
header_said None None None size name p t l s n items is = rw is (rw (is_within MOST_FILE_BYTES size (omega arith) (omega arith), n) refl)
header_said None None (Some c) size name p t l s n items is = rw is (rw (is_within 4294967295 c l.1 (omega arith), is_within MOST_FILE_BYTES size (omega arith) (omega arith), n) refl)
header_said None (Some b) None size name p t l s n items is = rw is (rw (is_within 4294967295 b t.1 (omega arith), is_within MOST_FILE_BYTES size (omega arith) (omega arith), n) refl)
header_said None (Some b) (Some c) size name p t l s n items is = rw is (rw (is_within 4294967295 b t.1 (omega arith), is_within 4294967295 c l.1 (omega arith), is_within MOST_FILE_BYTES size (omega arith) (omega arith), n) refl)
header_said (Some a) None None size name p t l s n items is = rw is (rw (is_within_1 4294967295 a p.0 p.1 (omega arith), is_within MOST_FILE_BYTES size (omega arith) (omega arith), n) refl)
header_said (Some a) None (Some c) size name p t l s n items is = rw is (rw (is_within_1 4294967295 a p.0 p.1 (omega arith), is_within 4294967295 c l.1 (omega arith), is_within MOST_FILE_BYTES size (omega arith) (omega arith), n) refl)
header_said (Some a) (Some b) None size name p t l s n items is = rw is (rw (is_within_1 4294967295 a p.0 p.1 (omega arith), is_within 4294967295 b t.1 (omega arith), is_within MOST_FILE_BYTES size (omega arith) (omega arith), n) refl)
header_said (Some a) (Some b) (Some c) size name p t l s n items is = rw is (rw (is_within_1 4294967295 a p.0 p.1 (omega arith), is_within 4294967295 b t.1 (omega arith), is_within 4294967295 c l.1 (omega arith), is_within MOST_FILE_BYTES size (omega arith) (omega arith), n) refl)

begins : (part total line : Option ℕ) (size : ℕ) (name : List ℕ) → starts_with nat_eq (codes "=ybegin" ++ (spaced (header_pieces part total line size) ++ (codes " name=" ++ name))) ybegin.word ≡ true
begins None None None size name = refl
begins None None (Some l) size name = refl
begins None (Some t) line size name = refl
begins (Some p) total line size name = refl

pub header_read : (b : Begin) → IsBetween 1 4294967295 b.part → IsBetween 0 4294967295 b.total → IsBetween 0 4294967295 b.line → b.size ≤ MOST_FILE_BYTES → IsName b.name → begin_of (begin_text b) ≡ Ok b
unfolding begin_text
header_read b p t l s n =
    let name = header_name b.name n in
    let text : begin_text b ≡ codes "=ybegin" ++ (spaced (header_pieces b.part b.total b.line b.size) ++ (codes " name=" ++ b.name)) =
    header_regrouped (item (codes "part") decimal b.part) (item (codes "total") decimal b.total) (item (codes "line") decimal b.line) (item (codes "size") decimal (Some b.size)) b.name
    ∙ ap (λ (x : List ℕ). codes "=ybegin" ++ x) (header_spaced b.part b.total b.line b.size (codes " name=" ++ b.name)) in
    let items : items_of ybegin (begin_text b) ≡ header_items b.part b.total b.line b.size (record { key = key.Name; value = b.name } ∷ []) =
    ap (λ (x : List ℕ). items_of ybegin x) text
    ∙ ap (λ (x : List (List ℕ)). items_in ybegin.known x) (pieces_then (header_pieces b.part b.total b.line b.size) (codes "name=" ++ b.name) (header_has_none b.part b.total b.line b.size p t l s))
    ∙ header_items_are b.part b.total b.line b.size (slice_split is_space (codes "name=" ++ b.name))
    ∙ ap (λ (x : List Item). header_items b.part b.total b.line b.size x) (name_item b.name name.no_space_at_ends) in
    begin_by_items (begin_text b) (items_of ybegin (begin_text b)) (ap (λ (x : List ℕ). starts_with nat_eq x ybegin.word) text ∙ begins b.part b.total b.line b.size b.name) refl
    ∙ header_said b.part b.total b.line b.size b.name p t l s name.fits (items_of ybegin (begin_text b)) items

-- ---- the trailer line

abbrev after_size : Option ℕ → Option ℕ → Option ℕ → List (List ℕ)
after_size part pcrc32 crc32 = piece_of (codes "part") decimal part ++ (piece_of (codes "pcrc32") (hex_digits 8) pcrc32 ++ (piece_of (codes "crc32") (hex_digits 8) crc32 ++ []))

trailer_regrouped : (S P Q C : List ℕ) → codes "=yend" ++ S ++ P ++ Q ++ C ≡ codes "=yend" ++ (S ++ (P ++ (Q ++ (C ++ []))))
trailer_regrouped S P Q C =
    append_assoc (codes "=yend" ++ S ++ P) Q C
    ∙ append_assoc (codes "=yend" ++ S) P (Q ++ C)
    ∙ append_assoc (codes "=yend") S (P ++ (Q ++ C))
    ∙ ap (λ (x : List ℕ). codes "=yend" ++ (S ++ (P ++ (Q ++ x)))) (sym (append-nil C))

trailer_spaced : (part pcrc32 crc32 : Option ℕ) →
    item (codes "part") decimal part ++ (item (codes "pcrc32") (hex_digits 8) pcrc32 ++ (item (codes "crc32") (hex_digits 8) crc32 ++ [])) ≡ spaced (after_size part pcrc32 crc32)
trailer_spaced part pcrc32 crc32 =
    ap (λ (t : List ℕ). item (codes "part") decimal part ++ (item (codes "pcrc32") (hex_digits 8) pcrc32 ++ t)) (item_then (codes "crc32") (hex_digits 8) crc32 [] [])
    ∙ ap (λ (t : List ℕ). item (codes "part") decimal part ++ t) (item_then (codes "pcrc32") (hex_digits 8) pcrc32 (piece_of (codes "crc32") (hex_digits 8) crc32 ++ []) [])
    ∙ item_then (codes "part") decimal part (piece_of (codes "pcrc32") (hex_digits 8) pcrc32 ++ (piece_of (codes "crc32") (hex_digits 8) crc32 ++ [])) []
    ∙ append-nil (spaced (after_size part pcrc32 crc32))

pcrc32_has_none : (n : Option ℕ) → AllByRecursion HasNoSpace (piece_of (codes "pcrc32") (hex_digits 8) n)
pcrc32_has_none None = tt
pcrc32_has_none (Some n) = (hex32_no_space n, tt)

crc32_has_none : (n : Option ℕ) → AllByRecursion HasNoSpace (piece_of (codes "crc32") (hex_digits 8) n)
crc32_has_none None = tt
crc32_has_none (Some n) = (hex32_no_space n, tt)

trailer_has_none : (part pcrc32 crc32 : Option ℕ) → IsBetween 1 4294967295 part → AllByRecursion HasNoSpace (after_size part pcrc32 crc32)
trailer_has_none part pcrc32 crc32 p =
    AllByRecursion-append _ _ (part_has_none part p) (AllByRecursion-append _ _ (pcrc32_has_none pcrc32) (AllByRecursion-append _ _ (crc32_has_none crc32) tt))

abbrev trailer_items : ℕ → Option ℕ → Option ℕ → Option ℕ → List Item
trailer_items size part pcrc32 crc32 = record { key = key.Size; value = decimal size } ∷ (item_with key.Part decimal part ++ (item_with key.Pcrc32 (hex_digits 8) pcrc32 ++ (item_with key.Crc32 (hex_digits 8) crc32 ++ [])))

trailer_items_are : (size : ℕ) (part pcrc32 crc32 : Option ℕ) → items_in yend.known ((codes "size=" ++ decimal size) ∷ after_size part pcrc32 crc32) ≡ trailer_items size part pcrc32 crc32
trailer_items_are size None None None = refl
trailer_items_are size None None (Some c) = refl
trailer_items_are size None (Some q) None = refl
trailer_items_are size None (Some q) (Some c) = refl
trailer_items_are size (Some p) None None = refl
trailer_items_are size (Some p) None (Some c) = refl
trailer_items_are size (Some p) (Some q) None = refl
trailer_items_are size (Some p) (Some q) (Some c) = refl

abbrev TrailerSaid : List Item → EndLine → Type 0
TrailerSaid items e =
    unless_fault {A = EndLine} (or_else (first_item_fault [] items) (missing_key yend.required items))
    (record { size = or_zero (number_in items key.Size); part = number_in items key.Part; pcrc32 = number_in items key.Pcrc32; crc32 = number_in items key.Crc32 })
    ≡ Ok e

trailer_said : (size : ℕ) (part pcrc32 crc32 : Option ℕ) → IsBetween 1 4294967295 part → IsBetween 0 4294967295 pcrc32 → IsBetween 0 4294967295 crc32 → size ≤ MOST_FILE_BYTES →
    (items : List Item) → items ≡ trailer_items size part pcrc32 crc32 → TrailerSaid items (record { size = size; part = part; pcrc32 = pcrc32; crc32 = crc32 })
trailer_said size None None None p q c s items is = rw is (rw (is_within MOST_FILE_BYTES size (omega arith) (omega arith)) refl)
trailer_said size None None (Some z) p q c s items is = rw is (rw (is_within MOST_FILE_BYTES size (omega arith) (omega arith), hex32_read z (omega (arith, c))) refl)
trailer_said size None (Some y) None p q c s items is = rw is (rw (is_within MOST_FILE_BYTES size (omega arith) (omega arith), hex32_read y (omega (arith, q))) refl)
trailer_said size None (Some y) (Some z) p q c s items is = rw is (rw (is_within MOST_FILE_BYTES size (omega arith) (omega arith), hex32_read y (omega (arith, q)), hex32_read z (omega (arith, c))) refl)
trailer_said size (Some x) None None p q c s items is = rw is (rw (is_within MOST_FILE_BYTES size (omega arith) (omega arith), is_within_1 4294967295 x p.0 p.1 (omega arith)) refl)
trailer_said size (Some x) None (Some z) p q c s items is = rw is (rw (is_within MOST_FILE_BYTES size (omega arith) (omega arith), is_within_1 4294967295 x p.0 p.1 (omega arith), hex32_read z (omega (arith, c))) refl)
trailer_said size (Some x) (Some y) None p q c s items is = rw is (rw (is_within MOST_FILE_BYTES size (omega arith) (omega arith), is_within_1 4294967295 x p.0 p.1 (omega arith), hex32_read y (omega (arith, q))) refl)
trailer_said size (Some x) (Some y) (Some z) p q c s items is = rw is (rw (is_within MOST_FILE_BYTES size (omega arith) (omega arith), is_within_1 4294967295 x p.0 p.1 (omega arith), hex32_read y (omega (arith, q)), hex32_read z (omega (arith, c))) refl)

pub trailer_read : (e : EndLine) → IsBetween 1 4294967295 e.part → IsBetween 0 4294967295 e.pcrc32 → IsBetween 0 4294967295 e.crc32 → e.size ≤ MOST_FILE_BYTES → end_of (end_text e) ≡ Ok e
unfolding end_text
trailer_read e p q c s =
    let text : end_text e ≡ codes "=yend" ++ (item (codes "size") decimal (Some e.size) ++ spaced (after_size e.part e.pcrc32 e.crc32)) =
    trailer_regrouped (item (codes "size") decimal (Some e.size)) (item (codes "part") decimal e.part) (item (codes "pcrc32") (hex_digits 8) e.pcrc32) (item (codes "crc32") (hex_digits 8) e.crc32)
    ∙ ap (λ (x : List ℕ). codes "=yend" ++ (item (codes "size") decimal (Some e.size) ++ x)) (trailer_spaced e.part e.pcrc32 e.crc32) in
    let items : items_of yend (end_text e) ≡ trailer_items e.size e.part e.pcrc32 e.crc32 =
    ap (λ (x : List ℕ). items_of yend x) text
    ∙ ap (λ (x : List (List ℕ)). items_in yend.known x) (all_pieces (codes "size=" ++ decimal e.size) (after_size e.part e.pcrc32 e.crc32) (decimal_no_space e.size (omega arith)) (trailer_has_none e.part e.pcrc32 e.crc32 p))
    ∙ trailer_items_are e.size e.part e.pcrc32 e.crc32 in
    end_by_items (end_text e) (items_of yend (end_text e)) (ap (λ (x : List ℕ). starts_with nat_eq x yend.word) text) refl
    ∙ trailer_said e.size e.part e.pcrc32 e.crc32 p q c s (items_of yend (end_text e)) items
