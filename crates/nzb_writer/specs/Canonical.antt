-- The one canonical text of an index, and which indexes have one that is read again.
use Rattle.std.specs.Prelude.{◌≡◌, ℕ, ◌≤◌, Bool, ◌==◌, if◌then◌else◌, List, [], ◌∷◌, ◌++◌, length, codes, decimal, IsTrue}
use Rattle.std.specs.List.{flat_map, AllByRecursion}
use Rattle.nzb_writer.specs.Markup.{IsTextBytes, is_message_id, trimmed}
use Rattle.nzb_writer.specs.Nzb.{segment_count}
use Rattle.nzb_writer.specs.declared.index.Meta.{Meta}
use Rattle.nzb_writer.specs.declared.index.Segment.{Segment}
use Rattle.nzb_writer.specs.declared.index.FileEntry.{FileEntry}
use Rattle.nzb_writer.specs.declared.index.Index.{Index}
use Rattle.limits.specs.declared.TheConstants.{LAST_MOMENT, MOST_FILES, MOST_OCTETS, MOST_SEGMENTS}

-- ---- the canonical text

-- the reference that a byte is written as, or nothing for one that is written as it is
abbrev pub reference_of : ℕ → List ℕ
reference_of b =
    if b == 38 then codes "&amp;" else if b == 60 then codes "&lt;" else if b == 62 then codes "&gt;" else if b == 34 then codes "&quot;"
    else if b == 39 then codes "&apos;" else if b == 9 then codes "&#9;" else if b == 10 then codes "&#10;" else if b == 13 then codes "&#13;" else []

abbrev pub is_plain : ℕ → Bool
is_plain b = length (reference_of b) == 0

abbrev pub escaped_byte : ℕ → List ℕ
escaped_byte b = if is_plain b then b ∷ [] else reference_of b

abbrev pub escaped : List ℕ → List ℕ
escaped text = flat_map escaped_byte text

abbrev pub meta_text : Meta → List ℕ
meta_text m = codes "<meta type=\"" ++ escaped m.kind ++ codes "\">" ++ escaped m.text ++ codes "</meta>\n"

abbrev pub group_text : List ℕ → List ℕ
group_text g = codes "<group>" ++ escaped g ++ codes "</group>\n"

abbrev pub segment_text : Segment → List ℕ
segment_text s = codes "<segment bytes=\"" ++ decimal s.bytes ++ codes "\" number=\"" ++ decimal s.number ++ codes "\">" ++ escaped s.id ++ codes "</segment>\n"

abbrev pub file_tag : FileEntry → List ℕ
file_tag f = codes "<file poster=\"" ++ escaped f.poster ++ codes "\" date=\"" ++ decimal f.date ++ codes "\" subject=\"" ++ escaped f.subject ++ codes "\">\n"

abbrev pub file_text : FileEntry → List ℕ
file_text f = file_tag f ++ codes "<groups>\n" ++ flat_map group_text f.groups ++ codes "</groups>\n<segments>\n" ++ flat_map segment_text f.segments ++ codes "</segments>\n</file>\n"

abbrev pub head_text : List Meta → List ℕ
head_text [] = []
head_text (m ∷ metas) = codes "<head>\n" ++ flat_map meta_text (m ∷ metas) ++ codes "</head>\n"

unfoldable pub nzb_text : Index → List ℕ
nzb_text i = codes "<?xml version=\"1.0\" encoding=\"UTF-8\"?>\n<!DOCTYPE nzb PUBLIC \"-//newzBin//DTD NZB 1.1//EN\" \"http://www.newzbin.com/DTD/nzb/nzb-1.1.dtd\">\n<nzb xmlns=\"http://www.newzbin.com/DTD/2003/nzb\">\n"
    ++ head_text i.metas ++ flat_map file_text i.files ++ codes "</nzb>\n"

-- what has a canonical text that is read again
pub record IsValidFile (f : FileEntry) : Type 0 where
  pub poster : IsTextBytes f.poster
  pub subject : IsTextBytes f.subject
  pub date : f.date ≤ LAST_MOMENT
  pub groups : AllByRecursion (λ g. IsTextBytes g × (trimmed g ≡ g)) f.groups
  pub segments : AllByRecursion (λ s. (1 ≤ s.number) × (s.number ≤ 4294967295) × (s.bytes ≤ MOST_OCTETS) × IsTrue (is_message_id s.id)) f.segments

pub record IsValidIndex (i : Index) : Type 0 where
  pub metas : AllByRecursion (λ m. IsTextBytes m.kind × IsTextBytes m.text × (trimmed m.text ≡ m.text)) i.metas
  pub files : AllByRecursion IsValidFile i.files
  pub few_files : length i.files ≤ MOST_FILES
  pub few_segments : segment_count i ≤ MOST_SEGMENTS
