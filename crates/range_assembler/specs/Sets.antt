-- The same as sets of offsets.
use Rattle.std.specs.Prelude.{◌≡◌, ◌≤◌, ℕ, true, List, Some, slice_get}
use Rattle.range_assembler.specs.declared.assembler.Entry.{Entry}
use Rattle.range_assembler.specs.declared.assembler.Clash.{Clash}
use Rattle.range_assembler.specs.Entries.{is_taken, kept_size}
use Rattle.range_assembler.specs.Missing.{is_covered}

-- the entry has a range of the file, held or accepted, and the offset is in it
pub record Takes (file offset : ℕ) (entry : Entry) : Type 0 where
  pub its : entry.file ≡ file
  pub taken : is_taken entry.hold ≡ true
  pub low : entry.first ≤ offset
  pub high : offset ≤ entry.last

-- no offset of a file is in two ranges
abbrev pub ShareNothing : List Entry → Type 0
ShareNothing entries = (j k file offset : ℕ) (entry other : Entry) → slice_get entries j ≡ Some entry → slice_get entries k ≡ Some other → Takes file offset entry → Takes file offset other → j ≡ k

-- no offset from `first` to `last` is in a range of the file
abbrev pub IsApart : ℕ → ℕ → ℕ → List Entry → Type 0
IsApart file first last entries = (k offset : ℕ) (entry : Entry) → slice_get entries k ≡ Some entry → first ≤ offset → offset ≤ last → Takes file offset entry → ⊥

-- the range that is named has an offset from `first` to `last`, and none that has one begins before it
pub record NamesLeast (file first last : ℕ) (entries : List Entry) (clash : Clash) : Type 0 where
  pub entry : Entry
  pub there : slice_get entries clash.other ≡ Some entry
  pub begins : entry.first ≡ clash.first
  pub ends : entry.last ≡ clash.last
  pub offset : ℕ
  pub low : first ≤ offset
  pub high : offset ≤ last
  pub takes : Takes file offset entry
  pub least : (k shared : ℕ) (other : Entry) → slice_get entries k ≡ Some other → first ≤ shared → shared ≤ last → Takes file shared other → clash.first ≤ other.first

-- the size of the file is known, and each offset up to it is in an accepted range
pub record IsWholeFile (file : ℕ) (entries : List Entry) : Type 0 where
  pub size : ℕ
  pub known : kept_size file entries ≡ Some size
  pub covered : (offset : ℕ) → 1 ≤ offset → offset ≤ size → is_covered file entries offset ≡ true
