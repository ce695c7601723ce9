-- The files of a fetch while parts are written to them.
use Rattle.std.specs.Prelude.{◌≡◌, ◌<◌, ◌≤◌, ◌+◌, ◌-◌, ◌==◌, ℕ, true, false, List, [], Option, Some, None, if◌then◌else◌, length, slice_get}
use Rattle.io_traits.specs.Store.{Shelf, Stored}
use Rattle.range_assembler.specs.declared.assembler.Entry.{Entry}
use Rattle.range_assembler.specs.declared.assembler.Hold.TheVariants.{Accepted}
use Rattle.range_assembler.specs.Entries.{is_taken, kept_size}
use Rattle.range_assembler.specs.Missing.{is_covered}

-- a segment whose range is held or accepted in the file
pub record IsPartOf (file : ℕ) (entries : List Entry) (segment : ℕ) (entry : Entry) : Type 0 where
  pub here : slice_get entries segment ≡ Some entry
  pub file_is : entry.file ≡ file
  pub taken : is_taken entry.hold ≡ true

-- the bytes that a part gave so far have room in its range
abbrev pub HaveRoom : List Entry → (ℕ → List ℕ) → Type 0
HaveRoom entries given = (segment : ℕ) (entry : Entry) → slice_get entries segment ≡ Some entry → is_taken entry.hold ≡ true → entry.first + length (given segment) ≤ entry.last + 1

-- a segment without a range gave nothing
abbrev pub NoneGiven : List Entry → (ℕ → List ℕ) → Type 0
NoneGiven entries given = (segment : ℕ) (entry : Entry) → slice_get entries segment ≡ Some entry → is_taken entry.hold ≡ false → given segment ≡ []

-- the place, counted from 0, is one to which a part of the file gave a byte
pub record IsGivenAt (file : ℕ) (entries : List Entry) (given : ℕ → List ℕ) (place : ℕ) : Type 0 where
  pub segment : ℕ
  pub entry : Entry
  pub part : IsPartOf file entries segment entry
  pub low : entry.first ≤ place + 1
  pub high : place + 1 < entry.first + length (given segment)

-- The bytes of a file: what its parts gave so far stands from the first offset of each part's range on, and every other byte is zero.
pub record HoldsGiven (file : ℕ) (entries : List Entry) (given : ℕ → List ℕ) (bytes : List ℕ) : Type 0 where
  pub parts : (segment k : ℕ) (entry : Entry) → IsPartOf file entries segment entry → k < length (given segment) → slice_get bytes (entry.first - 1 + k) ≡ slice_get (given segment) k
  pub zeros : (place : ℕ) → place < length bytes → (IsGivenAt file entries given place → ⊥) → slice_get bytes place ≡ Some 0

-- a file with this name and such bytes
pub record IsFilled (file : ℕ) (name : List ℕ) (entries : List Entry) (given : ℕ → List ℕ) (held : Option Stored) : Type 0 where
  pub stored : Stored
  pub there : held ≡ Some stored
  pub named : stored.name ≡ name
  pub holds : HoldsGiven file entries given stored.bytes

-- so it is of each of the first `count` files
abbrev pub AreFilled : ℕ → (ℕ → List ℕ) → List Entry → (ℕ → List ℕ) → Shelf → Type 0
AreFilled count name entries given shelf = (file : ℕ) → file < count → IsFilled file (name file) entries given (shelf file)

-- what the segments gave, where one of them gave this instead
abbrev pub with_given : ℕ → List ℕ → (ℕ → List ℕ) → ℕ → List ℕ
with_given segment bytes given k = if k == segment then bytes else given k

-- the size of a file at the end: that of its accepted parts, or 0 where there is none
abbrev pub final_size : Option ℕ → ℕ
final_size (Some size) = size
final_size None = 0

-- A file at the end: it has its size, the bytes that each accepted part gave, and zeros at the offsets in none of their ranges.
pub record IsFinal (file : ℕ) (entries : List Entry) (given : ℕ → List ℕ) (bytes : List ℕ) : Type 0 where
  pub long : length bytes ≡ final_size (kept_size file entries)
  pub parts : (segment size offset : ℕ) (entry : Entry) → slice_get entries segment ≡ Some entry → entry.file ≡ file → entry.hold ≡ Accepted size →
      entry.first ≤ offset → offset ≤ entry.last → slice_get bytes (offset - 1) ≡ slice_get (given segment) (offset - entry.first)
  pub zeros : (offset : ℕ) → 1 ≤ offset → offset ≤ length bytes → is_covered file entries offset ≡ false → slice_get bytes (offset - 1) ≡ Some 0

-- a file with this name that is as it is at the end
pub record IsFinalFile (file : ℕ) (name : List ℕ) (entries : List Entry) (given : ℕ → List ℕ) (held : Option Stored) : Type 0 where
  pub stored : Stored
  pub there : held ≡ Some stored
  pub named : stored.name ≡ name
  pub final : IsFinal file entries given stored.bytes

-- so it is of each of the first `count` files
abbrev pub AreFinal : ℕ → (ℕ → List ℕ) → List Entry → (ℕ → List ℕ) → Shelf → Type 0
AreFinal count name entries given shelf = (file : ℕ) → file < count → IsFinalFile file (name file) entries given (shelf file)
