-- The offsets that no accepted range has, as ranges in order.
use Rattle.std.specs.Prelude.{zero, suc, ◌≡◌, ◌<◌, ◌≤◌, ◌+◌, ◌-◌, ◌⊎◌, ◌&&◌, ◌==◌, ℕ, true, false, List, [], ◌∷◌, Option, Some, None, length, nat_le, nat_lt, set, remove, slice_get, if◌then◌else◌}
use Rattle.range_assembler.specs.declared.assembler.Entry.{Entry}
use Rattle.range_assembler.specs.declared.sequence.Range.{Range}
use Rattle.range_assembler.specs.Entries.{is_accepted}
use Rattle.range_assembler.specs.Missing.{is_covered}
use Rattle.range_assembler.specs.Order.{with_range}
use Rattle.limits.specs.declared.TheConstants.{MOST_FILES}

-- an offset stands between the two
abbrev pub Leaves : Range → Range → Type 0
Leaves one other = (one.file < other.file) ⊎ ((one.file ≡ other.file) × (one.last + 1 < other.first))

pub record IsGap (files : ℕ) (range : Range) : Type 0 where
  pub its : range.file < files
  pub low : 1 ≤ range.first
  pub some : range.first ≤ range.last
  pub high : range.last ≤ 18446744073709551615

pub record HasOffset (file offset : ℕ) (ranges : List Range) : Type 0 where
  pub place : ℕ
  pub range : Range
  pub there : slice_get ranges place ≡ Some range
  pub its : range.file ≡ file
  pub low : range.first ≤ offset
  pub high : offset ≤ range.last

-- the greatest ranges of the offsets of each file that are bare, in order
pub record IsGaps (bare : ℕ → ℕ → Type 0) (files : ℕ) (ranges : List Range) : Type 0 where
  pub apart : (j k : ℕ) (one other : Range) → j < k → slice_get ranges j ≡ Some one → slice_get ranges k ≡ Some other → Leaves one other
  pub each : (k : ℕ) (range : Range) → slice_get ranges k ≡ Some range → IsGap files range
  pub sound : (k : ℕ) (range : Range) (offset : ℕ) → slice_get ranges k ≡ Some range → range.first ≤ offset → offset ≤ range.last → bare range.file offset
  pub whole : (file offset : ℕ) → file < files → 1 ≤ offset → offset ≤ 18446744073709551615 → bare file offset → HasOffset file offset ranges

abbrev pub IsBare : List Entry → ℕ → ℕ → Type 0
IsBare entries file offset = is_covered file entries offset ≡ false

pub record IsAcceptedAt (entries : List Entry) (segment : ℕ) : Type 0 where
  pub entry : Entry
  pub there : slice_get entries segment ≡ Some entry
  pub accepted : is_accepted entry.hold ≡ true

abbrev pub count_accepted : List Entry → ℕ
count_accepted [] = 0
count_accepted (entry ∷ entries) = if is_accepted entry.hold then suc (count_accepted entries) else count_accepted entries

-- the gaps are those of the entries, and each is known by a file or by an accepted segment
pub record IsGapped (entries : List Entry) (gaps : List Range × ℕ) (files : ℕ) : Type 0 where
  pub gaps_are : IsGaps (IsBare entries) files gaps.0
  pub few : files ≤ MOST_FILES
  pub many : length gaps.0 ≤ files + count_accepted entries
  pub sides : gaps.1 ≡ length entries + files
  pub ids : (k : ℕ) (range : Range) → slice_get gaps.0 k ≡ Some range → ((length entries ≤ range.segment) × (range.segment < length entries + files)) ⊎ IsAcceptedAt entries range.segment

-- the gap at the place ends before the offset, and is left out where nothing of it remains
abbrev pub trimmed : ℕ → Range → ℕ → List Range → List Range
trimmed place gap first ranges = if nat_lt gap.first first then set ranges place record { file = gap.file; segment = gap.segment; first = gap.first; last = first - 1 } else remove ranges place

abbrev pub next_place : ℕ → Range → ℕ → ℕ
next_place place gap first = if nat_lt gap.first first then place + 1 else place

abbrev pub rest_of : Range → Range → Range
rest_of gap range = record { file = gap.file; segment = range.segment; first = range.last + 1; last = gap.last }

-- the offsets of a range taken out of the gap at the place
abbrev pub carved : ℕ → Option Range → Range → List Range → List Range
carved place None range ranges = ranges
carved place (Some gap) range ranges =
    if nat_le range.first range.last
    then with_range (next_place place gap range.first) (rest_of gap range) (trimmed place gap range.first ranges)
    else ranges

-- the part of a gap up to the size
abbrev pub gap_upto : ℕ → ℕ → Option Range → Option (ℕ × ℕ)
gap_upto file size None = None
gap_upto file size (Some gap) = if (gap.file == file) && nat_le gap.first size then Some (gap.first, if nat_le gap.last size then gap.last else size) else None

-- the gap of all offsets for each file from this one on
abbrev pub first_gaps : ℕ → ℕ → ℕ → List Range
first_gaps segments file zero = []
first_gaps segments file (suc files) = record { file = file; segment = segments + file; first = 1; last = 18446744073709551615 } ∷ first_gaps segments (file + 1) files
