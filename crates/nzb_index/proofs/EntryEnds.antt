-- Segments and files over a slice.
use Rattle.std.proofs.Common.{◌≡◌, ℕ, ◌+◌, ◌<◌, ◌≤◌, Bool, true, false, leb, ◌&&◌, List, [], ◌∷◌, ◌++◌, length, Option, Some, None, Ok, refl, sym, ap, ◌∙◌, arith, inl, inr}
use Rattle.std.specs.Prelude.{codes, bytes_eq, is_some}
use Rattle.std.specs.List.{list_all}
use Rattle.std.proofs.lemmas.Bool.{cases_Bool, and_parts, and_from, leb-true, le-leb, lt-ltb}
use Rattle.std.proofs.lemmas.Bool.Decides.{nat_tests}
use Rattle.numbers.specs.Numbers.{decimal_of, within, or_zero}
use Rattle.nntp_lines.specs.MessageId.{IsMessageId, is_id_byte as id_byte}
use Rattle.nzb_writer.specs.declared.index.Segment.{Segment}
use Rattle.nzb_writer.specs.declared.index.FileEntry.{FileEntry}
use Rattle.nzb_writer.specs.Markup.{Attribute, AttributeChecks, attribute, has_attribute, or_nothing, number_of, is_id_byte, is_message_id}
use Rattle.nzb_index.specs.MarkupReading.{Tag, leaf, tag_at, parent}
use Rattle.nzb_writer.specs.Nzb.{file_checks, segment_checks, Lists}
use Rattle.nzb_index.specs.NzbReading.{bad_id, segment_item, file_part}
use Rattle.nzb_index.specs.Elements.{bare}
use Rattle.nzb_index.specs.Entries.{file_at}
use Rattle.nzb_index.proofs.Attributes.{value_fits}
use Rattle.nzb_index.proofs.TagsFound.{tag_gives}
use Rattle.nzb_index.proofs.ElementsFound.{leaf_gives, parent_gives}
use Rattle.nzb_index.proofs.IndexFound.{FewInFile, good_id, listed, part_reads}
use Rattle.limits.specs.declared.TheConstants.{MOST_SEGMENTS}

-- ---- numbers

-- the value of an attribute of a tag that was read passes its check
checked : (checks : AttributeChecks) (name value rest : List ℕ) (tag : Tag) (behind : List ℕ) → tag_at checks rest ≡ Ok (tag, behind) → attribute name tag.attributes ≡ Some value → checks name value ≡ true
checked checks name value rest tag behind e h =
    let t = (tag_gives checks rest).given (tag, behind) e in
    value_fits checks name value [] t.text t.attributes t.are_attributes (ap (λ (l : List Attribute). attribute name l) (sym t.all_are) ∙ h)

-- a number of a tag is read up to the greatest that its check allows
pub number_read : (checks : AttributeChecks) (name rest : List ℕ) (tag : Tag) (behind : List ℕ) (high : ℕ) → tag_at checks rest ≡ Ok (tag, behind) → ((value : List ℕ) → checks name value ≡ true → is_some (within 0 high (decimal_of value)) ≡ true) →
    or_zero (within 0 high (decimal_of (or_nothing (attribute name tag.attributes)))) ≡ number_of name tag.attributes
number_read checks name rest tag behind high e fits = go (attribute name tag.attributes) refl (λ value h. checked checks name value rest tag behind e h)
  where
    go : (o : Option (List ℕ)) → attribute name tag.attributes ≡ o → ((value : List ℕ) → attribute name tag.attributes ≡ Some value → checks name value ≡ true) → or_zero (within 0 high (decimal_of (or_nothing o))) ≡ or_zero (decimal_of (or_nothing o))
    go None h passes = refl
    go (Some value) h passes = same (decimal_of value) (fits value (passes value h))
      where
        same : (d : Option ℕ) → is_some (within 0 high d) ≡ true → or_zero (within 0 high d) ≡ or_zero d
        same None k = refl
        same (Some n) k = elim (cases_Bool (leb 0 n && leb n high)) [ inl t ↦ rw t refl | inr f ↦ absurd (let g : false ≡ true = rw f at k in cc) ]

pub segment_number : (value : List ℕ) → segment_checks (codes "number") value ≡ true → is_some (within 0 4294967295 (decimal_of value)) ≡ true
segment_number value h = go (decimal_of value) h
  where
    go : (d : Option ℕ) → is_some (within 1 4294967295 d) ≡ true → is_some (within 0 4294967295 d) ≡ true
    go None k = k
    go (Some n) k = elim (cases_Bool (leb 1 n && leb n 4294967295)) [
      | inr f ↦ absurd (let g : false ≡ true = rw f at k in cc)
      | inl t ↦ rw (and_from (leb 0 n) (leb n 4294967295) (le-leb 0 n (omega arith)) (and_parts (leb 1 n) (leb n 4294967295) t).1) refl
    ]

-- ---- message-ids

byte_is : (b : ℕ) → is_id_byte b ≡ true → id_byte b ≡ true
byte_is b h = grind (arith, nat_tests)

bytes_are : (id : List ℕ) → list_all is_id_byte id ≡ true → list_all id_byte id ≡ true
bytes_are [] h = refl
bytes_are (b ∷ id) h = let p = and_parts (is_id_byte b) (list_all is_id_byte id) h in and_from (id_byte b) _ (byte_is b p.0) (bytes_are id p.1)

pub message_id_is : (id : List ℕ) → is_message_id id ≡ true → IsMessageId id
message_id_is id h =
    let p = and_parts (leb 1 (length id) && leb (length id) 248) (list_all is_id_byte id) h in
    let q = and_parts (leb 1 (length id)) (leb (length id) 248) p.0 in
    record { some = leb-true 1 (length id) q.0; short = leb-true (length id) 248 q.1; all = bytes_are id p.1 }

pub id_is_good : (from : List ℕ) (tag : Tag) (rest id behind : List ℕ) → leaf (codes "segment") (bad_id from) tag rest ≡ Ok (id, behind) → is_message_id id ≡ true
id_is_good from tag rest id behind e = let l = (leaf_gives (codes "segment") (bad_id from) tag rest).given (id, behind) e in good_id from id l.unknown

-- ---- a segment

pub segment_read : (earlier : ℕ) (ss new : List Segment) (name from rest : List ℕ) (tag : Tag) (mid id behind : List ℕ) (number bytes : ℕ) → bytes_eq name (codes "segment") ≡ true → earlier + length ss < MOST_SEGMENTS → tag_at segment_checks rest ≡ Ok (tag, mid) →
    has_attribute (codes "number") tag.attributes ≡ true → leaf (codes "segment") (bad_id from) tag mid ≡ Ok (id, behind) → number ≡ number_of (codes "number") tag.attributes → bytes ≡ number_of (codes "bytes") tag.attributes →
    new ≡ ss ++ record { number = number; bytes = bytes; id = id } ∷ [] → segment_item earlier ss name from rest ≡ Ok (new, behind)
segment_read earlier ss new name from rest tag mid id behind number bytes n room t has l a b e = rw (n, lt-ltb (earlier + length ss) MOST_SEGMENTS room) (rw t (rw has (rw l (rw (← a, ← b, e) refl))))

-- ---- a file

pub file_on : (earlier : ℕ) (rest : List ℕ) (tag : Tag) (mid : List ℕ) (start : FileEntry) → tag_at file_checks rest ≡ Ok (tag, mid) → start.poster ≡ or_nothing (attribute (codes "poster") tag.attributes) → start.date ≡ number_of (codes "date") tag.attributes →
    start.subject ≡ or_nothing (attribute (codes "subject") tag.attributes) → start.groups ≡ [] → start.segments ≡ [] → file_at earlier rest ≡ parent (file_part earlier) (codes "file") tag start mid
file_on earlier rest tag mid start t p d s g e = rw t (rw (← p, ← d, ← s) (rw (← g, ← e) refl))

pub file_few : (earlier : ℕ) (closed : Bool) (rest : List ℕ) (start file : FileEntry) (behind : List ℕ) → earlier ≤ MOST_SEGMENTS → start.segments ≡ [] → parent (file_part earlier) (codes "file") (bare closed) start rest ≡ Ok (file, behind) → earlier + length file.segments ≤ MOST_SEGMENTS
file_few earlier closed rest start file behind l e h = ((parent_gives (file_part earlier) Lists listed (FewInFile earlier) (codes "file") (part_reads earlier) (bare closed) start rest few).given (file, behind) h).fits
  where
    few : earlier + length start.segments ≤ MOST_SEGMENTS
    few = omega (arith, l, ap length e)
