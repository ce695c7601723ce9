-- ValueRead an NZB text from left to right, on lists: its index, or the refusal that is known first.
use Rattle.std.specs.Prelude.{ℕ, suc, ◌+◌, ◌-◌, true, nat_lt, nat_eq, ◌==◌, if◌then◌else◌, List, [], ◌∷◌, ◌++◌, length, Option, Some, None, Result, Ok, Err, codes, bytes_eq}
use Rattle.std.specs.List.{starts_with}
use Rattle.nzb_index.specs.declared.error.NzbReason.TheVariants.{WrongTag, NoNumber, BadId, Subset}
use Rattle.nzb_writer.specs.Markup.{is_control, is_message_id, attribute, has_attribute, or_nothing, number_of, unchecked}
use Rattle.nzb_writer.specs.Nzb.{segment_checks, file_checks, segment_count}
use Rattle.nzb_index.specs.MarkupReading.{Stop, ValueRead, ◌>>=◌, stop_at, unexpected, word, up_to, name_at, one_white, between_or, between, tag_at, parent, leaf, only, no_fault, refused, limit}
use Rattle.nzb_writer.specs.declared.index.Meta.{Meta}
use Rattle.nzb_writer.specs.declared.index.Segment.{Segment}
use Rattle.nzb_writer.specs.declared.index.FileEntry.{FileEntry}
use Rattle.nzb_writer.specs.declared.index.Index.{Index}
use Rattle.nzb_index.specs.declared.error.NzbReason.{NzbReason}
use Rattle.nzb_index.specs.declared.error.NzbLimit.{NzbLimit}
use Rattle.nzb_index.specs.declared.error.NzbLimit.TheVariants as limits
use Rattle.limits.specs.declared.TheConstants.{MOST_FILES, MOST_SEGMENTS, MOST_TEXT_BYTES}

abbrev pub meta_item : List Meta → List ℕ → List ℕ → List ℕ → ValueRead (List Meta)
meta_item metas name from rest = do
  ok ← only (codes "meta") name from
  tag ← tag_at unchecked rest
  text ← leaf (codes "meta") no_fault tag.0 tag.1
  Ok (metas ++ record { kind = or_nothing (attribute (codes "type") tag.0.attributes); text = text.0 } ∷ [], text.1)

abbrev pub group_item : List (List ℕ) → List ℕ → List ℕ → List ℕ → ValueRead (List (List ℕ))
group_item groups name from rest = do
  ok ← only (codes "group") name from
  tag ← tag_at unchecked rest
  text ← leaf (codes "group") no_fault tag.0 tag.1
  Ok (groups ++ text.0 ∷ [], text.1)

abbrev pub bad_id : List ℕ → List ℕ → Option Stop
bad_id from id = if is_message_id id then None else Some (refused (length from) BadId)

-- `earlier` segments stand in the files before this one
abbrev pub segment_item : ℕ → List Segment → List ℕ → List ℕ → List ℕ → ValueRead (List Segment)
segment_item earlier segments name from rest = do
  ok ← only (codes "segment") name from
  room ← if nat_lt (earlier + length segments) MOST_SEGMENTS then Ok true else Err (limit limits.Segments)
  tag ← tag_at segment_checks rest
  has ← if has_attribute (codes "number") tag.0.attributes then Ok true else stop_at from NoNumber
  id ← leaf (codes "segment") (bad_id from) tag.0 tag.1
  Ok (segments ++ record { number = number_of (codes "number") tag.0.attributes; bytes = number_of (codes "bytes") tag.0.attributes; id = id.0 } ∷ [], id.1)

abbrev pub file_part : ℕ → FileEntry → List ℕ → List ℕ → List ℕ → ValueRead FileEntry
file_part earlier f name from rest =
    if bytes_eq name (codes "groups")
    then (tag_at unchecked rest >>= λ tag. parent group_item (codes "groups") tag.0 f.groups tag.1 >>= λ g. Ok (record f { groups = g.0 }, g.1))
    else if bytes_eq name (codes "segments")
    then (tag_at unchecked rest >>= λ tag. parent (segment_item earlier) (codes "segments") tag.0 f.segments tag.1 >>= λ s. Ok (record f { segments = s.0 }, s.1))
    else stop_at from WrongTag

abbrev pub with_file : Index → FileEntry → Index
with_file i f = record i { files = i.files ++ f ∷ [] }

abbrev pub entry_item : Index → List ℕ → List ℕ → List ℕ → ValueRead Index
entry_item i name from rest =
    if bytes_eq name (codes "head")
    then (tag_at unchecked rest >>= λ tag. parent meta_item (codes "head") tag.0 i.metas tag.1 >>= λ m. Ok (record i { metas = m.0 }, m.1))
    else if bytes_eq name (codes "file")
    then ((if nat_lt (length i.files) MOST_FILES then Ok true else Err (limit limits.Files)) >>= λ room. tag_at file_checks rest >>= λ tag.
    parent (file_part (segment_count i)) (codes "file") tag.0 (record {
      poster = or_nothing (attribute (codes "poster") tag.0.attributes);
      date = number_of (codes "date") tag.0.attributes;
      subject = or_nothing (attribute (codes "subject") tag.0.attributes);
      groups = [];
      segments = [];
    }) tag.1 >>= λ f.
    Ok (with_file i f.0, f.1))
    else stop_at from WrongTag

-- ---- the whole text

-- the bytes of the mark, if the first of them is there
abbrev pub behind_mark : List ℕ → Result (List ℕ) Stop
behind_mark text = if starts_with nat_eq text (0xEF ∷ []) then word (0xEF ∷ 0xBB ∷ 0xBF ∷ []) text else Ok text

abbrev pub behind_declaration : List ℕ → Result (List ℕ) Stop
behind_declaration text =
    if starts_with nat_eq text (codes "<?") then (word (codes "<?xml") text >>= λ name. one_white name >>= λ inside. up_to (codes "?>") inside) else Ok text

-- a document type up to its `>`
abbrev pub type_end : List ℕ → Result (List ℕ) Stop
type_end [] = unexpected []
type_end (x ∷ rest) =
    if x == 62 then Ok rest else if x == 91 then stop_at (x ∷ rest) Subset else if is_control x then unexpected (x ∷ rest) else type_end rest

-- behind `<!`, where no comment begins
abbrev pub behind_type : List ℕ → Result (List ℕ) Stop
behind_type rest = word (codes "DOCTYPE") rest >>= λ name. one_white name >>= λ inside. type_end inside >>= λ behind. between behind

-- behind the root, where white and comments are taken away: another byte is the first that begins no comment, or goes on with none
abbrev pub nothing_behind : List ℕ → Result (List ℕ) Stop
nothing_behind [] = Ok []
nothing_behind (x ∷ rest) = word (codes "<!--") (x ∷ rest) >>= unexpected

abbrev pub index_at : List ℕ → Result Index Stop
index_at text = do
  marked ← behind_mark text
  declared ← behind_declaration marked
  here ← between_or behind_type (suc (length text)) declared
  inside ← word (codes "<") here
  name ← name_at inside
  ok ← only (codes "nzb") name.0 here
  tag ← tag_at unchecked name.1
  index ← parent entry_item (codes "nzb") tag.0 (record { metas = []; files = [] }) tag.1
  behind ← between index.1
  nothing ← nothing_behind behind
  Ok index.0

-- why a text has no index: a reason at a place, from 0, or a limit
pub data Refusal : Type 0 where
  refused_at : ℕ → NzbReason → Refusal
  past : NzbLimit → Refusal

abbrev pub with_place : ℕ → Result Index Stop → Result Index Refusal
with_place total (Ok i) = Ok i
with_place total (Err (refused left reason)) = Err (refused_at (total - left) reason)
with_place total (Err (limit l)) = Err (past l)

unfoldable pub nzb_of : List ℕ → Result Index Refusal
nzb_of text = if nat_lt MOST_TEXT_BYTES (length text) then Err (past limits.TextBytes) else with_place (length text) (index_at text)
