-- What an element's attributes are: no name stands twice, and a number that is there is in its range.
use Rattle.std.proofs.Common.{◌≡◌, ℕ, true, false, leb, ◌&&◌, List, [], ◌∷◌, ◌++◌, Option, Some, None, refl, sym, ap, ◌∙◌, inl, inr, ◌⊎◌}
use Rattle.std.specs.Prelude.{codes, bytes_eq, is_some}
use Rattle.std.specs.List.{list_any}
use Rattle.std.proofs.lemmas.Bool.{cases_Bool, or_from}
use Rattle.std.proofs.lemmas.Slice.Eq.{bytes_eq-Decides}
use Rattle.numbers.specs.Numbers.{decimal_of, within, or_zero}
use Rattle.nzb_writer.specs.Markup.{Attribute, AreAttributes, AttributeChecks, attribute, has_attribute, or_nothing, number_of}
use Rattle.nzb_writer.specs.Nzb.{segment_checks, file_checks, IsSegment, IsFile}
use Rattle.nzb_writer.specs.declared.index.Segment.{Segment}
use Rattle.nzb_writer.specs.declared.index.FileEntry.{FileEntry}
use Rattle.limits.specs.declared.TheConstants.{MOST_OCTETS, LAST_MOMENT}

-- no two of them have one name
abbrev pub HaveDifferentNames : List Attribute → Type 0
HaveDifferentNames [] = Unit {0}
HaveDifferentNames (a ∷ more) = (list_any (λ b. bytes_eq a.name b.name) more ≡ false) × HaveDifferentNames more

-- whether an attribute of this name is among them
among : (name : List ℕ) (attributes : List Attribute) → has_attribute name attributes ≡ list_any (λ b. bytes_eq b.name name) attributes
among name [] = refl
among name (a ∷ more) = elim (cases_Bool (bytes_eq a.name name)) [ inl t ↦ rw t refl | inr f ↦ rw f (among name more) ]

none_behind : (checks : AttributeChecks) (name : List ℕ) (earlier : List Attribute) (text : List ℕ) (attributes : List Attribute) → AreAttributes checks earlier text attributes → has_attribute name earlier ≡ true → list_any (λ b. bytes_eq name b.name) attributes ≡ false
none_behind checks name earlier text [] are h = refl
none_behind checks name earlier text (a ∷ more) (first, rest, e, is, new, fits, are) h = or_from (bytes_eq name a.name) _ (other (cases_Bool (bytes_eq name a.name))) (none_behind checks name (earlier ++ a ∷ []) rest more are (still earlier h))
  where
    other : (bytes_eq name a.name ≡ true) ⊎ (bytes_eq name a.name ≡ false) → bytes_eq name a.name ≡ false
    other (inr f) = f
    other (inl t) = absurd (let same : name ≡ a.name = (bytes_eq-Decides name a.name).0 t in let found : has_attribute a.name earlier ≡ true = rw (← same) h in cc)

    still : (before : List Attribute) → has_attribute name before ≡ true → has_attribute name (before ++ a ∷ []) ≡ true
    still [] h = absurd cc
    still (b ∷ before) h = elim (cases_Bool (bytes_eq b.name name)) [ inl t ↦ rw t refl | inr f ↦ rw f (still before (rw f at h)) ]

pub names_differ : (checks : AttributeChecks) (earlier : List Attribute) (text : List ℕ) (attributes : List Attribute) → AreAttributes checks earlier text attributes → HaveDifferentNames attributes
names_differ checks earlier text [] are = tt
names_differ checks earlier text (a ∷ more) (first, rest, e, is, new, fits, are) = (none_behind checks a.name (earlier ++ a ∷ []) rest more are (at_end earlier), names_differ checks (earlier ++ a ∷ []) rest more are)
  where
    at_end : (before : List Attribute) → has_attribute a.name (before ++ a ∷ []) ≡ true
    at_end [] = rw ((bytes_eq-Decides a.name a.name).1 refl) refl
    at_end (b ∷ before) = elim (cases_Bool (bytes_eq b.name a.name)) [ inl t ↦ rw t refl | inr f ↦ rw f (at_end before) ]

-- each value passes its check
pub value_fits : (checks : AttributeChecks) (name value : List ℕ) (earlier : List Attribute) (text : List ℕ) (attributes : List Attribute) → AreAttributes checks earlier text attributes → attribute name attributes ≡ Some value → checks name value ≡ true
value_fits checks name value earlier text [] are e = absurd cc
value_fits checks name value earlier text (a ∷ more) (first, rest, f, is, new, fits, are) e = elim (cases_Bool (bytes_eq a.name name)) [
  | inl t ↦
      let same : a.name ≡ name = (bytes_eq-Decides a.name name).0 t in
      let one : Some a.value ≡ Some value = rw t at e in
      let v : a.value ≡ value = cc in
      rw (← same, ← v) fits
  | inr n ↦ value_fits checks name value (earlier ++ a ∷ []) rest more are (rw n at e)
]

-- ---- numbers

within_read : (low high : ℕ) (value : List ℕ) → is_some (within low high (decimal_of value)) ≡ true → within low high (decimal_of value) ≡ Some (or_zero (decimal_of value))
within_read low high value e = go (decimal_of value) e
  where
    go : (o : Option ℕ) → is_some (within low high o) ≡ true → within low high o ≡ Some (or_zero o)
    go None e = absurd cc
    go (Some n) e = elim (cases_Bool (leb low n && leb n high)) [ inl t ↦ rw t refl | inr f ↦ absurd (let g : false ≡ true = rw f at e in cc) ]

-- a number that is there, or none
abbrev pub IsNumberOrNone : Option (List ℕ) → ℕ → ℕ → Type 0
IsNumberOrNone None high n = n ≡ 0
IsNumberOrNone (Some value) high n = within 0 high (decimal_of value) ≡ Some n

number_or_none : (checks : AttributeChecks) (name text : List ℕ) (attributes : List Attribute) (high : ℕ) → AreAttributes checks [] text attributes → ((value : List ℕ) → checks name value ≡ is_some (within 0 high (decimal_of value))) →
    IsNumberOrNone (attribute name attributes) high (number_of name attributes)
number_or_none checks name text attributes high are c = go (attribute name attributes) refl
  where
    go : (o : Option (List ℕ)) → attribute name attributes ≡ o → IsNumberOrNone o high (or_zero (decimal_of (or_nothing o)))
    go None e = refl
    go (Some value) e = within_read 0 high value (sym (c value) ∙ value_fits checks name value [] text attributes are e)

-- a segment's number stands in its tag and is in its range, and so is its count of bytes where it stands
pub segment_numbers : (text : List ℕ) (s : Segment) → IsSegment text s → (attributes : List Attribute) × ((value : List ℕ) × (attribute (codes "number") attributes ≡ Some value) × (within 1 4294967295 (decimal_of value) ≡ Some s.number))
    × IsNumberOrNone (attribute (codes "bytes") attributes) MOST_OCTETS s.bytes
segment_numbers text s (attributes, inside, is, has, number, bytes, id, good) = (
  attributes,
  go (attribute (codes "number") attributes) refl (there (codes "number") attributes has),
  rw bytes (number_or_none segment_checks (codes "bytes") is.attribute_text attributes MOST_OCTETS is.are_attributes (λ value. refl)),
)
  where
    there : (name : List ℕ) (rest : List Attribute) → has_attribute name rest ≡ true → is_some (attribute name rest) ≡ true
    there name [] h = h
    there name (a ∷ rest) h = elim (cases_Bool (bytes_eq a.name name)) [ inl t ↦ rw t refl | inr f ↦ rw f (there name rest (rw f at h)) ]

    go : (o : Option (List ℕ)) → attribute (codes "number") attributes ≡ o → is_some (attribute (codes "number") attributes) ≡ true → (value : List ℕ) × (attribute (codes "number") attributes ≡ Some value) × (within 1 4294967295 (decimal_of value) ≡ Some s.number)
    go None e h = absurd (let f : false ≡ true = rw e at h in cc)
    go (Some value) e h = (
      value,
      e,
      within_read 1 4294967295 value (value_fits segment_checks (codes "number") value [] is.attribute_text attributes is.are_attributes e)
          ∙ ap (λ (o : Option (List ℕ)). Some (or_zero (decimal_of (or_nothing o)))) (sym e) ∙ ap (λ (n : ℕ). Some n) (sym number),
    )

-- a file's date is in its range, where it stands
pub file_date : (text : List ℕ) (f : FileEntry) → IsFile text f → (attributes : List Attribute) × IsNumberOrNone (attribute (codes "date") attributes) LAST_MOMENT f.date
file_date text f (attributes, inside, parts, is, are, poster, subject, date, gs, ss) = (attributes, rw date (number_or_none file_checks (codes "date") is.attribute_text attributes LAST_MOMENT is.are_attributes (λ value. refl)))
