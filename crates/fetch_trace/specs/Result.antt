-- What a fetch gives at its end: of each segment the part that its article is, and of each file its bytes (yEnc draft 1.3).
use Rattle.std.specs.Prelude.{◌≡◌, ◌≤◌, ◌-◌, ℕ, false, List, Option, Some, None, length, slice_get, slice_index_or}
use Rattle.yenc_body.specs.declared.part.Part.{Part}
use Rattle.range_assembler.specs.declared.assembler.Entry.{Entry}
use Rattle.range_assembler.specs.declared.assembler.Hold.TheVariants.{Accepted as Kept}
use Rattle.fetch_trace.specs.Setting.{Setting}
use Rattle.range_assembler.specs.Entries.{kept_size}
use Rattle.range_assembler.specs.Missing.{is_covered}
use Rattle.fetch_trace.specs.Verdicts.{Verdict}
use Rattle.fetch_trace.specs.Verdicts.Verdict.{Accepted, Absent, Refused, Clashes, OtherSize}
use Rattle.fetch_trace.specs.Standing.{Standing}

-- the part that a segment gave
abbrev pub part_by : Option (Option Verdict) → Option Part
part_by (Some (Some (Accepted part whole))) = Some part
part_by (Some (Some (Absent code))) = None
part_by (Some (Some (Refused fault))) = None
part_by (Some (Some (Clashes clash))) = None
part_by (Some (Some (OtherSize kept))) = None
part_by (Some None) = None
part_by None = None

abbrev pub part_of : Standing → ℕ → Option Part
part_of s segment = part_by (slice_get s.ends segment)

-- the CRC-32 of the whole file that its article's end line gave (yEnc draft 1.3, "Multi-part Encoded Binaries")
abbrev pub whole_by : Option (Option Verdict) → Option ℕ
whole_by (Some (Some (Accepted part whole))) = whole
whole_by other = None

abbrev pub whole_at : Standing → ℕ → Option ℕ
whole_at s segment = whole_by (slice_get s.ends segment)

-- the size of a file: that of its accepted parts, or 0 where there is none
abbrev pub size_or_none : Option ℕ → ℕ
size_or_none (Some size) = size
size_or_none None = 0

-- A file as a fetch leaves it that began with these bytes of it (none, where nothing was kept of an earlier run): the byte at an
-- offset in the range of a part that was accepted is that part's, in a range that was accepted from the start it is the byte that
-- the file had, or 0 past its end, and any other one is 0 where it was so or the file had ended.
pub record IsRebuilt (setting : Setting) (base : List ℕ) (s : Standing) (file : ℕ) (bytes : List ℕ) : Type 0 where
  pub long : length bytes ≡ size_or_none (kept_size file s.entries)
  pub parts : (segment : ℕ) (entry : Entry) (part : Part) (offset : ℕ) → slice_get s.entries segment ≡ Some entry → entry.file ≡ file → part_of s segment ≡ Some part →
      part.first ≤ offset → offset ≤ part.last → slice_get bytes (offset - 1) ≡ slice_get part.content (offset - part.first)
  pub kept : (segment size : ℕ) (entry : Entry) (offset : ℕ) → slice_get setting.entries segment ≡ Some entry → entry.file ≡ file → entry.hold ≡ Kept size →
      entry.first ≤ offset → offset ≤ entry.last → slice_get bytes (offset - 1) ≡ Some (slice_index_or base (offset - 1) 0)
  pub zeros : (offset : ℕ) → 1 ≤ offset → offset ≤ length bytes → is_covered file s.entries offset ≡ false → slice_index_or base (offset - 1) 0 ≡ 0 → slice_get bytes (offset - 1) ≡ Some 0
