-- The ranges of all files in order, and what they say of the entries.
use Rattle.std.specs.Prelude.{suc, ◌≡◌, ◌≢◌, ◌<◌, ◌⊎◌, ℕ, Bool, true, ◌&&◌, ◌==◌, List, [], ◌∷◌, Option, Some, None, length, nat_le, if◌then◌else◌, slice_get, insert, remove}
use Rattle.range_assembler.specs.declared.assembler.Entry.{Entry}
use Rattle.range_assembler.specs.declared.assembler.Clash.{Clash}
use Rattle.range_assembler.specs.declared.sequence.Range.{Range}
use Rattle.range_assembler.specs.Entries.{is_taken, kept_size}
use Rattle.range_assembler.specs.Sound.{AreSoundRanges}

-- a range of an earlier file, or one that ends before the other begins
abbrev pub Precedes : Range → Range → Type 0
Precedes one other = (one.file < other.file) ⊎ ((one.file ≡ other.file) × (one.last < other.first))

abbrev pub range_of : ℕ → Entry → Range
range_of segment entry = record { file = entry.file; segment = segment; first = entry.first; last = entry.last }

-- an entry whose range is held or accepted, and not empty
abbrev pub is_shown : Entry → Bool
is_shown entry = is_taken entry.hold && nat_le entry.first entry.last

abbrev pub count_shown : List Entry → ℕ
count_shown [] = 0
count_shown (entry ∷ entries) = if is_shown entry then suc (count_shown entries) else count_shown entries

pub record IsOfEntry (entries : List Entry) (range : Range) : Type 0 where
  pub entry : Entry
  pub there : slice_get entries range.segment ≡ Some entry
  pub shown : is_shown entry ≡ true
  pub same : range ≡ range_of range.segment entry

pub record IsAmongRanges (ranges : List Range) (range : Range) : Type 0 where
  pub place : ℕ
  pub there : slice_get ranges place ≡ Some range

-- the ranges that are held or accepted and not empty, in order
pub record IsOrder (entries : List Entry) (ranges : List Range) : Type 0 where
  pub rising : (j k : ℕ) (one other : Range) → j < k → slice_get ranges j ≡ Some one → slice_get ranges k ≡ Some other → Precedes one other
  pub sound : (k : ℕ) (range : Range) → slice_get ranges k ≡ Some range → IsOfEntry entries range
  pub whole : (segment : ℕ) (entry : Entry) → slice_get entries segment ≡ Some entry → is_shown entry ≡ true → IsAmongRanges ranges (range_of segment entry)

-- the clash with this range, if it shares an offset
abbrev pub clash_with : ℕ → ℕ → ℕ → Option Range → Option Clash
clash_with file first last None = None
clash_with file first last (Some range) =
    if (range.file == file) && nat_le range.first last && nat_le first last then Some record { other = range.segment; first = range.first; last = range.last } else None

-- no range is that of the segment
abbrev pub IsAbsent : ℕ → List Range → Type 0
IsAbsent segment ranges = (k : ℕ) (range : Range) → slice_get ranges k ≡ Some range → range.segment ≢ segment

-- a range at its place, unless it is empty
abbrev pub with_range : ℕ → Range → List Range → List Range
with_range place range ranges = if nat_le range.first range.last then insert ranges place range else ranges

abbrev pub without_place : ℕ → Bool → List Range → List Range
without_place place shown ranges = if shown then remove ranges place else ranges

-- the size of a file, unless it isn't known, or there is no such file
abbrev pub size_read : Option (Option ℕ) → Option ℕ
size_read (Some size) = size
size_read None = None

-- the order, the number of segments that it has room for, and the sizes of the files are those of the entries
pub record IsIndexed (entries : List Entry) (order : List Range × ℕ) (sizes : List (Option ℕ)) : Type 0 where
  pub sound : AreSoundRanges entries
  pub ordered : IsOrder entries order.0
  pub many : length order.0 ≡ count_shown entries
  pub sides : order.1 ≡ length entries
  pub files : (k : ℕ) (entry : Entry) → slice_get entries k ≡ Some entry → entry.file < length sizes
  pub known : (file : ℕ) → file < length sizes → slice_get sizes file ≡ Some (kept_size file entries)
