-- An index of the grammar is a valid one.
use Rattle.std.proofs.Common.{◌≡◌, ℕ, zero, suc, ◌+◌, ◌-◌, ◌/◌, ◌%◌, ◌≤◌, ◌<◌, true, false, leb, ltb, ◌&&◌, List, [], ◌∷◌, ◌++◌, length, take, drop, get_or, reverse, Option, Some, None, refl, ap, arith, inl, inr}
use Rattle.std.specs.Prelude.{codes, encode_utf8, bytes_eq}
use Rattle.std.specs.List.{list_any, prefix_len, suffix_len, flat_map, AllByRecursion}
use Rattle.std.proofs.lemmas.Bool.{cases_Bool, cases_lt, or_parts, or_from, and_parts, ltb-true, leb-true}
use Rattle.std.proofs.lemmas.Bool.Decides.{nat_tests}
use Rattle.std.proofs.lemmas.List.{get_or-reverse, length-reverse}
use Rattle.std.proofs.lemmas.List.Sums.{prefix_len_stops, suffix_len-take_no}
use Rattle.numbers.specs.Numbers.{decimal_of, within}
use Rattle.nzb_writer.specs.declared.index.Meta.{Meta}
use Rattle.nzb_writer.specs.declared.index.Segment.{Segment}
use Rattle.nzb_writer.specs.declared.index.FileEntry.{FileEntry}
use Rattle.nzb_writer.specs.declared.index.Index.{Index}
use Rattle.nzb_writer.specs.Markup.{IsTextBytes, IsPlainText, Attribute, AreAttributes, AttributeChecks, attribute, or_nothing, is_white, is_control, is_character, IsReference, trimmed, IsElementText, IsValue, AreElements, unchecked, is_message_id}
use Rattle.nzb_writer.specs.Canonical.{IsValidFile, IsValidIndex}
use Rattle.nzb_writer.specs.Nzb.{file_checks, IsMeta, IsGroup, IsSegment, Listed, groups, segments, Lists, groups_in, segments_in, IsFile, Entry, head, file, IsEntry, metas_in, files_in, IsRoot, IsNzb}
use Rattle.nzb_index.proofs.Attributes.{IsNumberOrNone, segment_numbers, file_date}
use Rattle.nzb_index.proofs.TextsFound.{Piece}
use Rattle.nzb_index.proofs.ElementsFound.{TextPiece}
use Rattle.limits.specs.declared.TheConstants.{MOST_OCTETS, LAST_MOMENT}

-- ---- white at the ends

head_no_white : (t : List ℕ) (n : ℕ) → prefix_len is_white (take n (drop (prefix_len is_white t) t)) ≡ 0
head_no_white [] zero = refl
head_no_white [] (suc n) = refl
head_no_white (x ∷ t) n = elim (cases_Bool (is_white x)) [
  | inl w ↦ let more : 1 + prefix_len is_white t ≡ suc (prefix_len is_white t) = omega arith in rw w (rw more (head_no_white t n))
  | inr o ↦ rw o (first n o)
]
  where
    first : (k : ℕ) → is_white x ≡ false → prefix_len is_white (take k (x ∷ t)) ≡ 0
    first zero o = refl
    first (suc k) o = rw o refl

-- what is left without the white at its end ends otherwise
end_no_white : (f : List ℕ) → suffix_len is_white (take (length f - suffix_len is_white f) f) ≡ 0
end_no_white f = elim (cases_lt 0 (length f - suffix_len is_white f)) [
  | inr none ↦ let empty : length f - suffix_len is_white f ≡ 0 = omega (arith, none) in rw empty refl
  | inl some ↦
      let s = suffix_len is_white f in
      let n = length f - s in
      let short : s < length (reverse f) = omega (arith, some, length-reverse f) in
      let at : length f - 1 - s ≡ n - 1 = omega arith in
      let last : is_white (get_or f (n - 1) 0) ≡ false = rw (get_or-reverse f s 0 (omega (arith, some)), at) at (prefix_len_stops is_white (reverse f) 0 short) in
      suffix_len-take_no is_white f n 0 some (omega arith) last
]

take_whole : (t : List ℕ) → take (length t) t ≡ t
take_whole [] = refl
take_whole (x ∷ t) = ap (λ (u : List ℕ). x ∷ u) (take_whole t)

trimmed_twice : (t : List ℕ) → trimmed (trimmed t) ≡ trimmed t
trimmed_twice t =
    let front : List ℕ = drop (prefix_len is_white t) t in
    let n : ℕ = length front - suffix_len is_white front in
    let start : prefix_len is_white (take n front) ≡ 0 = head_no_white t n in
    let end : suffix_len is_white (take n front) ≡ 0 = end_no_white front in
    let all : length (take n front) - 0 ≡ length (take n front) = omega arith in
    rw start (rw end (rw all (take_whole (take n front))))

-- ---- no control byte

both_clean : (a b : List ℕ) → IsTextBytes a → IsTextBytes b → IsTextBytes (a ++ b)
both_clean [] b h k = k
both_clean (x ∷ a) b h k = let r = or_parts (is_control x) (list_any is_control a) h in or_from (is_control x) _ r.0 (both_clean a b r.1 k)

take_clean : (n : ℕ) (t : List ℕ) → IsTextBytes t → IsTextBytes (take n t)
take_clean zero t h = refl
take_clean (suc n) [] h = refl
take_clean (suc n) (x ∷ t) h = let r = or_parts (is_control x) (list_any is_control t) h in or_from (is_control x) _ r.0 (take_clean n t r.1)

drop_clean : (n : ℕ) (t : List ℕ) → IsTextBytes t → IsTextBytes (drop n t)
drop_clean zero t h = h
drop_clean (suc n) [] h = refl
drop_clean (suc n) (x ∷ t) h = drop_clean n t (or_parts (is_control x) (list_any is_control t) h).1

trimmed_clean : (t : List ℕ) → IsTextBytes t → IsTextBytes (trimmed t)
trimmed_clean t h = let front : List ℕ = drop (prefix_len is_white t) t in take_clean (length front - suffix_len is_white front) front (drop_clean (prefix_len is_white t) t h)

low_clean : (c : ℕ) → is_character c ≡ true → c < 128 → is_control c ≡ false
low_clean c h l = grind (arith, nat_tests)

high_clean : (c : ℕ) → 128 ≤ c → is_control c ≡ false
high_clean c h = grind (arith, nat_tests)

highs_clean : (t : List ℕ) → AllByRecursion (λ b. 128 ≤ b) t → IsTextBytes t
highs_clean [] h = refl
highs_clean (b ∷ t) h = or_from (is_control b) _ (high_clean b h.0) (highs_clean t h.1)

character_clean : (c : ℕ) → is_character c ≡ true → IsTextBytes (encode_utf8 c)
unfolding lib.Utf8.encode
character_clean c h = elim (cases_Bool (ltb c 128)) [
  | inl a ↦ rw a (or_from (is_control c) false (low_clean c h (ltb-true c 128 a)) refl)
  | inr a ↦ elim (cases_Bool (ltb c 2048)) [
    | inl b ↦ rw (a, b) (highs_clean ((192 + c / 64) ∷ (128 + c % 64) ∷ []) (omega arith, (omega arith, tt)))
    | inr b ↦ elim (cases_Bool (ltb c 65536)) [
      | inl d ↦ rw (a, b, d) (highs_clean ((224 + c / 4096) ∷ (128 + c / 64 % 64) ∷ (128 + c % 64) ∷ []) (omega arith, (omega arith, (omega arith, tt))))
      | inr d ↦ rw (a, b, d) (highs_clean ((240 + c / 262144) ∷ (128 + c / 4096 % 64) ∷ (128 + c / 64 % 64) ∷ (128 + c % 64) ∷ []) (omega arith, (omega arith, (omega arith, (omega arith, tt)))))
    ]
  ]
]

reference_clean : (t p : List ℕ) → IsReference t p → IsTextBytes p
reference_clean t p (c, n, ch, e) = rw e (character_clean c ch)

pieces_clean : (IsPiece : List ℕ → List ℕ → Type 0) → ((t p : List ℕ) → IsPiece t p → IsTextBytes p) → (pieces : List (List ℕ × List ℕ)) → AllByRecursion (λ p. IsPiece p.0 p.1) pieces → IsTextBytes (flat_map (λ p. p.1) pieces)
pieces_clean IsPiece each [] all = refl
pieces_clean IsPiece each ((t, p) ∷ pieces) all = both_clean p (flat_map (λ q. q.1) pieces) (each t p all.0) (pieces_clean IsPiece each pieces all.1)

plain_clean : (t p : List ℕ) → IsPlainText t p → IsTextBytes p
plain_clean t p (b, n, l, clean, e, f) = rw f (or_from (is_control b) false clean refl)

piece_clean : (t p : List ℕ) → Piece t p → IsTextBytes p
piece_clean t p (inl plain) = plain_clean t p plain
piece_clean t p (inr r) = reference_clean t p r

text_piece_clean : (t p : List ℕ) → TextPiece t p → IsTextBytes p
text_piece_clean t p (inl plain) = plain_clean t p plain
text_piece_clean t p (inr (inl r)) = reference_clean t p r
text_piece_clean t p (inr (inr (c, e))) = rw e refl

value_clean : (t bytes : List ℕ) → IsValue t bytes → IsTextBytes bytes
value_clean t bytes (pieces, all, e, f) = rw f (pieces_clean Piece piece_clean pieces all)

-- a text of the grammar has no control byte and no white at its ends
text_valid : (t text : List ℕ) → IsElementText t text → IsTextBytes text × (trimmed text ≡ text)
text_valid t text (whole, (pieces, all, e, f), g) = (rw g (trimmed_clean whole (rw f (pieces_clean TextPiece text_piece_clean pieces all))), rw g (trimmed_twice whole))

-- ---- tags and elements

attributes_clean : (checks : AttributeChecks) (name : List ℕ) (earlier : List Attribute) (text : List ℕ) (attributes : List Attribute) → AreAttributes checks earlier text attributes → IsTextBytes (or_nothing (attribute name attributes))
attributes_clean checks name earlier text [] are = refl
attributes_clean checks name earlier text (a ∷ more) (first, rest, e, is, new, fits, are) =
    elim (cases_Bool (bytes_eq a.name name)) [
      | inl t ↦ rw t (value_clean is.value a.value is.is_value)
      | inr f ↦ rw f (attributes_clean checks name (earlier ++ a ∷ []) rest more are)
    ]

-- what holds of each element holds of all
elements_valid : {A : Type 0} (IsOne : List ℕ → A → Type 0) (P : A → Type 0) → ((text : List ℕ) (x : A) → IsOne text x → P x) → (text : List ℕ) (xs : List A) → AreElements IsOne text xs → AllByRecursion P xs
elements_valid {A} IsOne P each text [] are = tt
elements_valid {A} IsOne P each text (x ∷ xs) (before, one, rest, e, b, is, are) = (each one x is, elements_valid IsOne P each rest xs are)

-- ---- the elements of an NZB

meta_valid : (text : List ℕ) (m : Meta) → IsMeta text m → IsTextBytes m.kind × IsTextBytes m.text × (trimmed m.text ≡ m.text)
meta_valid text m (attributes, inside, is, kind, t) =
    let v = text_valid inside m.text t in
    (rw kind (attributes_clean unchecked (codes "type") [] is.attribute_text attributes is.are_attributes), v.0, v.1)

group_valid : (text g : List ℕ) → IsGroup text g → IsTextBytes g × (trimmed g ≡ g)
group_valid text g (attributes, inside, is, t) = text_valid inside g t

abbrev IsGoodSegment : Segment → Type 0
IsGoodSegment s = (1 ≤ s.number) × (s.number ≤ 4294967295) × (s.bytes ≤ MOST_OCTETS) × (is_message_id s.id ≡ true)

within_bounds : (low high n : ℕ) (o : Option ℕ) → within low high o ≡ Some n → (low ≤ n) × (n ≤ high)
within_bounds low high n None e = absurd cc
within_bounds low high n (Some m) e = elim (cases_Bool (leb low m && leb m high)) [
  | inl t ↦
      let p = and_parts (leb low m) (leb m high) t in
      let one : Some m ≡ Some n = rw t at e in
      let same : m ≡ n = cc in
      (rw (← same) (leb-true low m p.0), rw (← same) (leb-true m high p.1))
  | inr f ↦ absurd (let none : nothing ≡ Some n = rw f at e in cc)
]
  where
    nothing : Option ℕ
    nothing = None

at_most : (o : Option (List ℕ)) (high n : ℕ) → IsNumberOrNone o high n → n ≤ high
at_most None high n e = omega (arith, e)
at_most (Some value) high n e = (within_bounds 0 high n (decimal_of value) e).1

segment_valid : (text : List ℕ) (s : Segment) → IsSegment text s → IsGoodSegment s
segment_valid text s is =
    let numbers = segment_numbers text s is in
    let bounds = within_bounds 1 4294967295 s.number (decimal_of numbers.1.0) numbers.1.2 in
    (bounds.0, bounds.1, at_most (attribute (codes "bytes") numbers.0) MOST_OCTETS s.bytes numbers.2, good is)
  where
    good : IsSegment text s → is_message_id s.id ≡ true
    good (attributes, inside, e, has, number, bytes, t, id) = id

abbrev IsGoodListed : Listed → Type 0
IsGoodListed (groups gs) = AllByRecursion (λ g. IsTextBytes g × (trimmed g ≡ g)) gs
IsGoodListed (segments ss) = AllByRecursion IsGoodSegment ss

listed_valid : (text : List ℕ) (x : Listed) → Lists text x → IsGoodListed x
listed_valid text (groups gs) (attributes, inside, is, are) = elements_valid IsGroup (λ g. IsTextBytes g × (trimmed g ≡ g)) group_valid inside gs are
listed_valid text (segments ss) (attributes, inside, is, are) = elements_valid IsSegment IsGoodSegment segment_valid inside ss are

-- what holds of all in each part holds of all in the parts
all_parts : {A B : Type 0} (P : B → Type 0) (f : A → List B) (Q : A → Type 0) → ((x : A) → Q x → AllByRecursion P (f x)) → (xs : List A) → AllByRecursion Q xs → AllByRecursion P (flat_map f xs)
all_parts {A} {B} P f Q each [] h = tt
all_parts {A} {B} P f Q each (x ∷ xs) h = joined (f x) (flat_map f xs) (each x h.0) (all_parts P f Q each xs h.1)
  where
    joined : (a b : List B) → AllByRecursion P a → AllByRecursion P b → AllByRecursion P (a ++ b)
    joined [] b h k = k
    joined (y ∷ a) b h k = (h.0, joined a b h.1 k)

good_groups : (x : Listed) → IsGoodListed x → AllByRecursion (λ g. IsTextBytes g × (trimmed g ≡ g)) (groups_in x)
good_groups (groups gs) h = h
good_groups (segments ss) h = tt

good_segments : (x : Listed) → IsGoodListed x → AllByRecursion IsGoodSegment (segments_in x)
good_segments (groups gs) h = tt
good_segments (segments ss) h = h

file_valid : (text : List ℕ) (f : FileEntry) → IsFile text f → IsValidFile f
file_valid text f is = go is (file_date text f is)
  where
    go : IsFile text f → ((attributes : List Attribute) × IsNumberOrNone (attribute (codes "date") attributes) LAST_MOMENT f.date) → IsValidFile f
    go (attributes, inside, parts, e, are, poster, subject, date, gs, ss) (others, fits) =
        let all = elements_valid Lists IsGoodListed listed_valid inside parts are in
        record {
          poster = rw poster (attributes_clean file_checks (codes "poster") [] e.attribute_text attributes e.are_attributes);
          subject = rw subject (attributes_clean file_checks (codes "subject") [] e.attribute_text attributes e.are_attributes);
          date = at_most (attribute (codes "date") others) LAST_MOMENT f.date fits;
          groups = rw gs (all_parts (λ g. IsTextBytes g × (trimmed g ≡ g)) groups_in IsGoodListed good_groups parts all);
          segments = rw ss (all_parts IsGoodSegment segments_in IsGoodListed good_segments parts all);
        }

abbrev IsGoodMeta : Meta → Type 0
IsGoodMeta m = IsTextBytes m.kind × IsTextBytes m.text × (trimmed m.text ≡ m.text)

abbrev IsGoodEntry : Entry → Type 0
IsGoodEntry (head metas) = AllByRecursion IsGoodMeta metas
IsGoodEntry (file f) = IsValidFile f

entry_valid : (text : List ℕ) (x : Entry) → IsEntry text x → IsGoodEntry x
entry_valid text (head metas) (attributes, inside, is, are) = elements_valid IsMeta IsGoodMeta meta_valid inside metas are
entry_valid text (file f) is = file_valid text f is

good_metas : (x : Entry) → IsGoodEntry x → AllByRecursion IsGoodMeta (metas_in x)
good_metas (head metas) h = h
good_metas (file f) h = tt

good_files : (x : Entry) → IsGoodEntry x → AllByRecursion IsValidFile (files_in x)
good_files (head metas) h = tt
good_files (file f) h = (h, tt)

-- so what is read can be written as a canonical text, if that is short enough
pub nzb_valid : (text : List ℕ) (i : Index) → IsNzb text i → IsValidIndex i
nzb_valid text i n = go n.is_root
  where
    go : IsRoot n.root i → IsValidIndex i
    go (attributes, inside, entries, is, are, metas, files) =
        let all = elements_valid IsEntry IsGoodEntry entry_valid inside entries are in
        record {
          metas = rw metas (all_parts IsGoodMeta metas_in IsGoodEntry good_metas entries all);
          files = rw files (all_parts IsValidFile files_in IsGoodEntry good_files entries all);
          few_files = n.few_files;
          few_segments = n.few_segments;
        }
