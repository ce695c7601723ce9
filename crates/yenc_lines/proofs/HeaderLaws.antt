-- The items of a header line: numbers, and then the name.
use Rattle.std.proofs.Common.{◌≡◌, ◌≤◌, ℕ, suc, ◌+◌, true, false, List, [], ◌∷◌, ◌++◌, length, take, drop, Option, Some, None, Ok, Err, refl, sym, ◌∙◌, ap, inl, inr, arith, bytes_eq, nat_eq, codes, take-append-drop, drop-drop}
use Rattle.std.proofs.lemmas.Bool.{cases_Bool, eqb-true, le-leb}
use Rattle.std.proofs.lemmas.Slice.Eq.{bytes_eq-Decides}
use Rattle.std.proofs.lemmas.List.Splits.{join_with_byte-slice_split}
use Rattle.std.specs.List.{list_any, slice_split, starts_with, before_first, after_first, position_or_len, join_with_byte, onto_first}
use Rattle.yenc_lines.specs.declared.key.Key.{Key}
use Rattle.yenc_lines.specs.declared.key.Key.TheVariants as key
use Rattle.yenc_lines.specs.declared.key.KeyFault.{KeyFault}
use Rattle.yenc_lines.specs.Keywords.{Item, is_equals, is_space, item_of, items_in, trimmed, ybegin}
use Rattle.yenc_lines.specs.Gathered.{gathered, taken, plain_of, named_of}
use Rattle.yenc_lines.proofs.GatherLaws.{onto, onto_goes, onto_fails}
use Rattle.yenc_lines.proofs.ItemLaws.{pieces_from, split_step}
use Rattle.yenc_lines.proofs.KindLaws.{item_plain}
use Rattle.yenc_lines.proofs.ReadLaws.{next_piece}

-- the keys that have numbers
abbrev pub numbered : List Key
numbered = key.Part ∷ key.Total ∷ key.Line ∷ key.Size ∷ []

-- ---- the name

name_piece : (p : List ℕ) (more : List (List ℕ)) → items_in ybegin.known ((110 ∷ 97 ∷ 109 ∷ 101 ∷ 61 ∷ p) ∷ more) ≡ record { key = key.Name; value = trimmed (join_with_byte 32 (p ∷ more)) } ∷ []
name_piece p more = refl

name_then : (text : List ℕ) → items_in ybegin.known (slice_split is_space (110 ∷ 97 ∷ 109 ∷ 101 ∷ 61 ∷ text)) ≡ record { key = key.Name; value = trimmed text } ∷ []
name_then text =
    let n = position_or_len is_space text in
    ap (λ (l : List (List ℕ)). items_in ybegin.known (onto_first 110 (onto_first 97 (onto_first 109 (onto_first 101 (onto_first 61 l)))))) (split_step text)
    ∙ name_piece (take n text) (pieces_from text (n + 1))
    ∙ ap (λ (l : List (List ℕ)). record { key = key.Name; value = trimmed (join_with_byte 32 l) } ∷ []) (sym (split_step text))
    ∙ ap (λ (t : List ℕ). record { key = key.Name; value = trimmed t } ∷ []) (join_with_byte-slice_split 32 text)

name_text : (rest : List ℕ) → starts_with nat_eq rest (codes "name=") ≡ true → codes "name=" ++ drop 5 rest ≡ rest
name_text rest is = ap (λ (t : List ℕ). t ++ drop 5 rest) ((bytes_eq-Decides (codes "name=") (take 5 rest)).0 is) ∙ take-append-drop 5 rest

pub name_items : (rest : List ℕ) → starts_with nat_eq rest (codes "name=") ≡ true → items_in ybegin.known (slice_split is_space rest) ≡ record { key = key.Name; value = trimmed (drop 5 rest) } ∷ []
name_items rest is = ap (λ (t : List ℕ). items_in ybegin.known (slice_split is_space t)) (sym (name_text rest is)) ∙ name_then (drop 5 rest)

-- ---- any other piece

parts_of : (piece : List ℕ) → list_any is_equals piece ≡ true → before_first is_equals piece ++ 61 ∷ after_first is_equals piece ≡ piece
parts_of [] any = absurd (cc)
parts_of (x ∷ piece) any = elim (cases_Bool (is_equals x)) [
  | inl same ↦ rw same (ap (λ y. y ∷ piece) (sym (eqb-true x 61 same)))
  | inr differs ↦ rw differs (more (position_or_len is_equals piece) (parts_of piece (rw differs at any)))
]
  where
    more : (n : ℕ) → take n piece ++ 61 ∷ drop (n + 1) piece ≡ piece → take (1 + n) (x ∷ piece) ++ 61 ∷ drop (1 + n + 1) (x ∷ piece) ≡ x ∷ piece
    more n e =
        let one : 1 + n ≡ suc n = omega arith in
        let two : suc n + 1 ≡ suc (n + 1) = omega arith in
        rw (one, two) (ap (λ (l : List ℕ). x ∷ l) e)

key_no_name : (rest : List ℕ) (end : ℕ) → starts_with nat_eq rest (codes "name=") ≡ false → list_any is_equals (take end rest) ≡ true → bytes_eq (codes "name") (before_first is_equals (take end rest)) ≡ false
key_no_name rest end other any = elim (cases_Bool (bytes_eq (codes "name") (before_first is_equals (take end rest)))) [
  | inl same ↦
      let e : codes "name" ≡ before_first is_equals (take end rest) = (bytes_eq-Decides (codes "name") (before_first is_equals (take end rest))).0 same in
      let piece : codes "name" ++ 61 ∷ after_first is_equals (take end rest) ≡ take end rest = ap (λ (t : List ℕ). t ++ 61 ∷ after_first is_equals (take end rest)) e ∙ parts_of (take end rest) any in
      let whole : 110 ∷ 97 ∷ 109 ∷ 101 ∷ 61 ∷ (after_first is_equals (take end rest) ++ drop end rest) ≡ rest = ap (λ (t : List ℕ). t ++ drop end rest) piece ∙ take-append-drop end rest in
      absurd (both (ap (λ (t : List ℕ). starts_with nat_eq t (codes "name=")) whole ∙ other))
  | inr differs ↦ differs
]
  where
    both : true ≡ false → ⊥
    both e = cc

same_item : (rest : List ℕ) (end : ℕ) → starts_with nat_eq rest (codes "name=") ≡ false → item_of ybegin.known (take end rest) ≡ item_of numbered (take end rest)
same_item rest end other = elim (cases_Bool (list_any is_equals (take end rest))) [
  | inl any ↦ rw (any, key_no_name rest end other any) refl
  | inr none ↦ rw none refl
]

other_piece : (rest : List ℕ) (end : ℕ) (more : List (List ℕ)) (found : Option Item) → starts_with nat_eq rest (codes "name=") ≡ false → item_of numbered (take end rest) ≡ found →
    items_in ybegin.known (take end rest ∷ more) ≡ onto found (items_in ybegin.known more)
other_piece rest end more None other is = rw (same_item rest end other ∙ is) refl
other_piece rest end more (Some item) other is = rw (same_item rest end other ∙ is, item_plain numbered (take end rest) item refl is) refl

-- ---- one piece of a header line

plain_onto : (piece : List ℕ) (found : Option Item) (items : List Item) → item_of numbered piece ≡ found → plain_of (onto found items) ≡ onto found (plain_of items)
plain_onto piece None items is = refl
plain_onto piece (Some item) items is = rw (item_plain numbered piece item refl is) refl

named_onto : (piece : List ℕ) (found : Option Item) (items : List Item) → item_of numbered piece ≡ found → named_of (onto found items) ≡ named_of items
named_onto piece None items is = refl
named_onto piece (Some item) items is = rw (item_plain numbered piece item refl is) refl

-- the items from a place on
abbrev pub items_from : List ℕ → ℕ → List Item
items_from text at = items_in ybegin.known (pieces_from text at)

piece_items : (text rest : List ℕ) (at end : ℕ) → at ≤ length text → rest ≡ drop at text → end ≡ position_or_len is_space rest → starts_with nat_eq rest (codes "name=") ≡ false →
    items_from text at ≡ onto (item_of numbered (take end rest)) (items_from text (at + (end + 1)))
piece_items text rest at end inside rest_is is other =
    ap (items_in ybegin.known) (next_piece text rest at end inside rest_is is) ∙ other_piece rest end (pieces_from text (at + (end + 1))) (item_of numbered (take end rest)) other refl

pub header_goes : (text rest : List ℕ) (at end : ℕ) (numbers now : List (Option ℕ)) → at ≤ length text → rest ≡ drop at text → end ≡ position_or_len is_space rest → starts_with nat_eq rest (codes "name=") ≡ false →
    taken numbers (item_of numbered (take end rest)) ≡ Ok now → gathered numbers (plain_of (items_from text at)) ≡ gathered now (plain_of (items_from text (at + (end + 1))))
header_goes text rest at end numbers now inside rest_is is other t =
    ap (λ (l : List Item). gathered numbers (plain_of l)) (piece_items text rest at end inside rest_is is other)
    ∙ ap (gathered numbers) (plain_onto (take end rest) (item_of numbered (take end rest)) (items_from text (at + (end + 1))) refl)
    ∙ onto_goes (item_of numbered (take end rest)) (plain_of (items_from text (at + (end + 1)))) numbers now t

pub header_fails : (text rest : List ℕ) (at end : ℕ) (numbers : List (Option ℕ)) (f : KeyFault) → at ≤ length text → rest ≡ drop at text → end ≡ position_or_len is_space rest → starts_with nat_eq rest (codes "name=") ≡ false →
    taken numbers (item_of numbered (take end rest)) ≡ Err f → gathered numbers (plain_of (items_from text at)) ≡ Err f
header_fails text rest at end numbers f inside rest_is is other t =
    ap (λ (l : List Item). gathered numbers (plain_of l)) (piece_items text rest at end inside rest_is is other)
    ∙ ap (gathered numbers) (plain_onto (take end rest) (item_of numbered (take end rest)) (items_from text (at + (end + 1))) refl)
    ∙ onto_fails (item_of numbered (take end rest)) (plain_of (items_from text (at + (end + 1)))) numbers f t

pub header_named : (text rest : List ℕ) (at end : ℕ) → at ≤ length text → rest ≡ drop at text → end ≡ position_or_len is_space rest → starts_with nat_eq rest (codes "name=") ≡ false →
    named_of (items_from text at) ≡ named_of (items_from text (at + (end + 1)))
header_named text rest at end inside rest_is is other =
    ap named_of (piece_items text rest at end inside rest_is is other) ∙ named_onto (take end rest) (item_of numbered (take end rest)) (items_from text (at + (end + 1))) refl

pub header_name : (text rest : List ℕ) (at : ℕ) → at ≤ length text → rest ≡ drop at text → starts_with nat_eq rest (codes "name=") ≡ true →
    items_from text at ≡ record { key = key.Name; value = trimmed (drop (at + 5) text) } ∷ []
header_name text rest at inside rest_is is =
    rw (le-leb at (length text) inside)
    (name_items (drop at text) (ap (λ (t : List ℕ). starts_with nat_eq t (codes "name=")) (sym rest_is) ∙ is)
    ∙ ap (λ (t : List ℕ). record { key = key.Name; value = trimmed t } ∷ []) (drop-drop 5 at text))
