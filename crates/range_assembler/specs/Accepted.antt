-- The accepted ranges of a file in ascending order.
use Rattle.std.specs.Prelude.{◌≡◌, ◌<◌, ◌≤◌, ◌==◌, ℕ, Bool, true, false, List, Option, Some, None, slice_get, take_while, filter, map}
use Rattle.range_assembler.specs.declared.assembler.Entry.{Entry}
use Rattle.range_assembler.specs.declared.sequence.Range.{Range}
use Rattle.range_assembler.specs.Entries.{is_accepted}

-- the segment has an accepted range of the file, and the range isn't empty
pub record HasAcceptedRange (file : ℕ) (entries : List Entry) (segment : ℕ) : Type 0 where
  pub entry : Entry
  pub there : slice_get entries segment ≡ Some entry
  pub its : entry.file ≡ file
  pub accepted : is_accepted entry.hold ≡ true
  pub some : entry.first ≤ entry.last

pub record IsAmong (segment : ℕ) (segments : List ℕ) : Type 0 where
  pub place : ℕ
  pub there : slice_get segments place ≡ Some segment

-- the segments with such a range, in ascending order of their ranges
pub record AreParts (file : ℕ) (entries : List Entry) (segments : List ℕ) : Type 0 where
  pub each : (k segment : ℕ) → slice_get segments k ≡ Some segment → HasAcceptedRange file entries segment
  pub all : (segment : ℕ) → HasAcceptedRange file entries segment → IsAmong segment segments
  pub rising : (j k : ℕ) (one other : ℕ) → j < k → slice_get segments j ≡ Some one → slice_get segments k ≡ Some other →
      (former latter : Entry) → slice_get entries one ≡ Some former → slice_get entries other ≡ Some latter → former.last < latter.first

-- the k-th of them, from 0, if there are more than k
pub record IsKthPart (file k : ℕ) (entries : List Entry) (answer : Option ℕ) : Type 0 where
  pub segments : List ℕ
  pub are : AreParts file entries segments
  pub answer_is : answer ≡ slice_get segments k

-- ---- the same by ranges in order

abbrev pub is_accepted_entry : Option Entry → Bool
is_accepted_entry (Some entry) = is_accepted entry.hold
is_accepted_entry None = false

abbrev pub is_accepted_at : List Entry → ℕ → Bool
is_accepted_at entries segment = is_accepted_entry (slice_get entries segment)

-- the ranges at the front that are of the file
abbrev pub front_of_file : ℕ → List Range → List Range
front_of_file file ranges = take_while (λ range. range.file == file) ranges

-- the accepted ones of these ranges, up to the first of another file
abbrev pub accepted_front : ℕ → List Entry → List Range → List Range
accepted_front file entries ranges = filter (λ range. is_accepted_at entries range.segment) (front_of_file file ranges)

-- the segment with the k-th of those, from 0
abbrev pub kth_from : ℕ → List Entry → List Range → ℕ → Option ℕ
kth_from file entries ranges k = slice_get (map (λ (range : Range). range.segment) (accepted_front file entries ranges)) k
