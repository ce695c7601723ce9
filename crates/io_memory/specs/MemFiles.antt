-- The files that a store in memory holds.
use Rattle.std.specs.Prelude.{◌≡◌, ◌<◌, ℕ, List, [], ◌∷◌, length, take, get_or, ◌==◌, if◌then◌else◌, Option, Some, None}
use Rattle.io_traits.specs.Store.{Shelf, Stored}
use Rattle.io_memory.specs.declared.mem_files.MemFile.{MemFile}

-- what a file holds
abbrev pub stored : MemFile → Stored
stored file = record { name = file.name; bytes = file.bytes.items }

-- the files by their numbers
abbrev pub shelf_of : List MemFile → ℕ → Option Stored
shelf_of [] k = None
shelf_of (file ∷ files) k = if k == file.number then Some (stored file) else shelf_of files k

-- the numbers of the files
abbrev pub numbers_of : List MemFile → List ℕ
numbers_of [] = []
numbers_of (file ∷ files) = file.number ∷ numbers_of files

-- the first file of a number stands at this place
pub record IsFirst (files : List MemFile) (file place : ℕ) : Type 0 where
  pub inside : place < length files
  pub here : (x : MemFile) → x ≡ get_or files place x → x.number ≡ file
  pub earlier : shelf_of (take place files) file ≡ None

-- every file holds what it held
abbrev pub SameShelf : Shelf → Shelf → Type 0
SameShelf before now = (k : ℕ) → now k ≡ before k
