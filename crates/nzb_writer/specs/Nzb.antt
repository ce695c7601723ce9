-- What an NZB text lists (the NZB 1.1 document type): a relation between a text and an index, by elements.
use Rattle.std.specs.Prelude.{◌≡◌, ℕ, ◌≤◌, true, ◌||◌, ◌==◌, if◌then◌else◌, List, [], ◌∷◌, ◌++◌, length, ◌⊎◌, sum_by, is_some, codes, bytes_eq, IsTrue, IsFalse}
use Rattle.std.specs.List.{flat_map, list_any}
use Rattle.numbers.specs.Numbers.{decimal_of, within}
use Rattle.nzb_writer.specs.Markup.{is_white, is_control, is_message_id, EndsAtFirst, IsBetween, IsElementText, Attribute, attribute, has_attribute, or_nothing, number_of, AttributeChecks, unchecked, IsElement, AreElements}
use Rattle.nzb_writer.specs.declared.index.Meta.{Meta}
use Rattle.nzb_writer.specs.declared.index.Segment.{Segment}
use Rattle.nzb_writer.specs.declared.index.FileEntry.{FileEntry}
use Rattle.nzb_writer.specs.declared.index.Index.{Index}
use Rattle.limits.specs.declared.TheConstants.{LAST_MOMENT, MOST_FILES, MOST_OCTETS, MOST_SEGMENTS, MOST_TEXT_BYTES}

-- ---- the elements of an NZB

abbrev pub IsMeta : List ℕ → Meta → Type 0
IsMeta text m = (attributes : List Attribute) × (inside : List ℕ) × IsElement unchecked (codes "meta") text attributes inside × (m.kind ≡ or_nothing (attribute (codes "type") attributes)) × IsElementText inside m.text

abbrev pub IsHead : List ℕ → List Meta → Type 0
IsHead text metas = (attributes : List Attribute) × (inside : List ℕ) × IsElement unchecked (codes "head") text attributes inside × AreElements IsMeta inside metas

abbrev pub IsGroup : List ℕ → List ℕ → Type 0
IsGroup text group = (attributes : List Attribute) × (inside : List ℕ) × IsElement unchecked (codes "group") text attributes inside × IsElementText inside group

abbrev pub IsGroups : List ℕ → List (List ℕ) → Type 0
IsGroups text groups = (attributes : List Attribute) × (inside : List ℕ) × IsElement unchecked (codes "groups") text attributes inside × AreElements IsGroup inside groups

abbrev pub segment_checks : AttributeChecks
segment_checks name value =
    if bytes_eq name (codes "number") then is_some (within 1 4294967295 (decimal_of value))
    else if bytes_eq name (codes "bytes") then is_some (within 0 MOST_OCTETS (decimal_of value)) else true

abbrev pub IsSegment : List ℕ → Segment → Type 0
IsSegment text s = (attributes : List Attribute) × (inside : List ℕ) × IsElement segment_checks (codes "segment") text attributes inside
    × IsTrue (has_attribute (codes "number") attributes) × (s.number ≡ number_of (codes "number") attributes) × (s.bytes ≡ number_of (codes "bytes") attributes)
    × IsElementText inside s.id × IsTrue (is_message_id s.id)

abbrev pub IsSegments : List ℕ → List Segment → Type 0
IsSegments text segments = (attributes : List Attribute) × (inside : List ℕ) × IsElement unchecked (codes "segments") text attributes inside × AreElements IsSegment inside segments

-- what stands in a file: groups or segments
pub data Listed : Type 0 where
  groups : List (List ℕ) → Listed
  segments : List Segment → Listed

abbrev pub Lists : List ℕ → Listed → Type 0
Lists text (groups gs) = IsGroups text gs
Lists text (segments ss) = IsSegments text ss

abbrev pub groups_in : Listed → List (List ℕ)
groups_in (groups gs) = gs
groups_in (segments ss) = []

abbrev pub segments_in : Listed → List Segment
segments_in (groups gs) = []
segments_in (segments ss) = ss

abbrev pub file_checks : AttributeChecks
file_checks name value = if bytes_eq name (codes "date") then is_some (within 0 LAST_MOMENT (decimal_of value)) else true

abbrev pub IsFile : List ℕ → FileEntry → Type 0
IsFile text f = (attributes : List Attribute) × (inside : List ℕ) × (parts : List Listed) × IsElement file_checks (codes "file") text attributes inside × AreElements Lists inside parts
    × (f.poster ≡ or_nothing (attribute (codes "poster") attributes)) × (f.subject ≡ or_nothing (attribute (codes "subject") attributes)) × (f.date ≡ number_of (codes "date") attributes)
    × (f.groups ≡ flat_map groups_in parts) × (f.segments ≡ flat_map segments_in parts)

-- what stands in the root: a head or a file
pub data Entry : Type 0 where
  head : List Meta → Entry
  file : FileEntry → Entry

abbrev pub IsEntry : List ℕ → Entry → Type 0
IsEntry text (head metas) = IsHead text metas
IsEntry text (file f) = IsFile text f

abbrev pub metas_in : Entry → List Meta
metas_in (head metas) = metas
metas_in (file f) = []

abbrev pub files_in : Entry → List FileEntry
files_in (head metas) = []
files_in (file f) = f ∷ []

abbrev pub IsRoot : List ℕ → Index → Type 0
IsRoot text i = (attributes : List Attribute) × (inside : List ℕ) × (entries : List Entry) × IsElement unchecked (codes "nzb") text attributes inside × AreElements IsEntry inside entries
    × (i.metas ≡ flat_map metas_in entries) × (i.files ≡ flat_map files_in entries)

-- ---- the whole text

abbrev pub IsMark : List ℕ → Type 0
IsMark text = (text ≡ []) ⊎ (text ≡ 0xEF ∷ 0xBB ∷ 0xBF ∷ [])

abbrev pub IsDeclaration : List ℕ → Type 0
IsDeclaration text = (text ≡ []) ⊎ ((w : ℕ) × (rest : List ℕ) × IsTrue (is_white w) × (text ≡ codes "<?xml" ++ w ∷ rest) × EndsAtFirst rest (codes "?>"))

abbrev pub IsDocumentType : List ℕ → Type 0
IsDocumentType text = (text ≡ []) ⊎ ((w : ℕ) × (inside behind : List ℕ) × IsTrue (is_white w) × IsFalse (list_any (λ b. b == 62 || b == 91 || is_control b) inside)
    × IsBetween behind × (text ≡ codes "<!DOCTYPE" ++ w ∷ inside ++ codes ">" ++ behind))

abbrev pub segment_count : Index → ℕ
segment_count i = sum_by (λ f. length f.segments) i.files

pub record IsNzb (text : List ℕ) (i : Index) : Type 0 where
  pub mark : List ℕ
  pub declaration : List ℕ
  pub between : List ℕ
  pub document_type : List ℕ
  pub root : List ℕ
  pub behind : List ℕ
  pub text_is : text ≡ mark ++ declaration ++ between ++ document_type ++ root ++ behind
  pub is_mark : IsMark mark
  pub is_declaration : IsDeclaration declaration
  pub is_between : IsBetween between
  pub is_document_type : IsDocumentType document_type
  pub is_root : IsRoot root i
  pub is_behind : IsBetween behind
  pub short : length text ≤ MOST_TEXT_BYTES
  pub few_files : length i.files ≤ MOST_FILES
  pub few_segments : segment_count i ≤ MOST_SEGMENTS
