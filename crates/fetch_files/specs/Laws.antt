-- What keeps the files of a fetch filled with what their parts gave.
use Rattle.std.specs.Prelude.{◌≡◌, ◌<◌, ◌≤◌, ◌+◌, ◌-◌, ℕ, true, List, [], ◌++◌, Some, length, slice_get}
use Rattle.std.specs.Option.{option_map}
use Rattle.io_traits.specs.Store.{Shelf, Puts, resized, with_bytes, written_at}
use Rattle.range_assembler.specs.declared.assembler.Entry.{Entry}
use Rattle.range_assembler.specs.declared.assembler.Hold.TheVariants.{Accepted}
use Rattle.range_assembler.specs.Claims.{is_free_at, is_held, is_held_at}
use Rattle.range_assembler.specs.Entries.{entries_of, is_taken, kept_size, with_accept, with_claim, with_release}
use Rattle.range_assembler.specs.Sound.{AreSoundRanges}
use Rattle.fetch_files.specs.Calls.{PutsFirst, empty_file, zeroed}
use Rattle.fetch_files.specs.Filled.{AreFilled, AreFinal, HaveRoom, HoldsGiven, IsFinal, NoneGiven, final_size, with_given}

-- ---- the begin

-- each of the first `count` files has its name and no byte
abbrev pub AreEmpty : ℕ → (ℕ → List ℕ) → Shelf → Type 0
AreEmpty count name shelf = (file : ℕ) → file < count → shelf file ≡ Some (empty_file (name file))

-- no segment that has a range gave a byte
abbrev pub NothingGiven : List Entry → (ℕ → List ℕ) → Type 0
NothingGiven entries given = (segment : ℕ) (entry : Entry) → slice_get entries segment ≡ Some entry → is_taken entry.hold ≡ true → given segment ≡ []

-- before a range was claimed, segments that gave nothing have room
abbrev pub FirstHasRoom : Type 0
FirstHasRoom = (file : ℕ) (counts : List ℕ) → HaveRoom (entries_of file counts) (λ segment. []) × NoneGiven (entries_of file counts) (λ segment. []) × NothingGiven (entries_of file counts) (λ segment. [])

abbrev pub FilesAreMade : Type 0
FilesAreMade = (count : ℕ) (name : ℕ → List ℕ) (entries : List Entry) (given : ℕ → List ℕ) (shelf : Shelf) → AreEmpty count name shelf → NothingGiven entries given → AreFilled count name entries given shelf

-- ---- a part gives a piece

-- a piece that has room in the range of its segment goes on what the segment gave
abbrev pub PieceHasRoom : Type 0
PieceHasRoom = (entries : List Entry) (given : ℕ → List ℕ) (segment : ℕ) (entry : Entry) (piece : List ℕ)
    → HaveRoom entries given → NoneGiven entries given
    → slice_get entries segment ≡ Some entry → is_taken entry.hold ≡ true → entry.first + length (given segment) + length piece ≤ entry.last + 1
    → HaveRoom entries (with_given segment (given segment ++ piece) given) × NoneGiven entries (with_given segment (given segment ++ piece) given)

abbrev pub PieceIsWritten : Type 0
PieceIsWritten = (count : ℕ) (name : ℕ → List ℕ) (entries : List Entry) (given : ℕ → List ℕ) (segment : ℕ) (entry : Entry) (piece : List ℕ) (old new : Shelf)
    → AreSoundRanges entries → HaveRoom entries given
    → slice_get entries segment ≡ Some entry → is_taken entry.hold ≡ true → entry.first + length (given segment) + length piece ≤ entry.last + 1
    → AreFilled count name entries given old
    → Puts entry.file (option_map (with_bytes (written_at (entry.first - 1 + length (given segment)) piece)) (old entry.file)) old new
    → AreFilled count name entries (with_given segment (given segment ++ piece) given) new

-- ---- a part is given up

-- what is true of the files and of what the segments gave stays true where the entries become these
pub record StaysFilled (given : ℕ → List ℕ) (entries after : List Entry) : Type 0 where
  pub filled : (count : ℕ) (name : ℕ → List ℕ) (shelf : Shelf) → AreFilled count name entries given shelf → AreFilled count name after given shelf
  pub room : HaveRoom entries given → HaveRoom after given
  pub none : NoneGiven entries given → NoneGiven after given

-- a segment takes back what it gave, and can then be released
abbrev pub ClearedHasRoom : Type 0
ClearedHasRoom = (entries : List Entry) (given : ℕ → List ℕ) (segment : ℕ) → HaveRoom entries given → NoneGiven entries given
    → HaveRoom entries (with_given segment [] given) × NoneGiven entries (with_given segment [] given) × StaysFilled (with_given segment [] given) entries (with_release segment entries)

abbrev pub PartIsCleared : Type 0
PartIsCleared = (count : ℕ) (name : ℕ → List ℕ) (entries : List Entry) (given : ℕ → List ℕ) (segment : ℕ) (entry : Entry) (old new : Shelf)
    → AreSoundRanges entries → HaveRoom entries given
    → slice_get entries segment ≡ Some entry → is_taken entry.hold ≡ true
    → AreFilled count name entries given old
    → Puts entry.file (option_map (with_bytes (zeroed (entry.first - 1) (length (given segment)))) (old entry.file)) old new
    → AreFilled count name entries (with_given segment [] given) new × AreFilled count name (with_release segment entries) (with_given segment [] given) new

-- ---- the entries change

abbrev pub FreeGaveNothing : Type 0
FreeGaveNothing = (entries : List Entry) (given : ℕ → List ℕ) (segment : ℕ) → NoneGiven entries given → is_free_at entries segment ≡ true → given segment ≡ []

abbrev pub ClaimFills : Type 0
ClaimFills = (entries : List Entry) (given : ℕ → List ℕ) (segment first last : ℕ) → given segment ≡ [] → first ≤ last + 1 → StaysFilled given entries (with_claim segment first last entries)

abbrev pub AcceptFills : Type 0
AcceptFills = (entries : List Entry) (given : ℕ → List ℕ) (segment size : ℕ) → is_held_at entries segment ≡ true → StaysFilled given entries (with_accept segment size entries)

abbrev pub ReleaseFills : Type 0
ReleaseFills = (entries : List Entry) (given : ℕ → List ℕ) (segment : ℕ) → given segment ≡ [] → StaysFilled given entries (with_release segment entries)

-- ---- the end

-- no range is held
abbrev pub NoneHeld : List Entry → Type 0
NoneHeld entries = (segment : ℕ) (entry : Entry) → slice_get entries segment ≡ Some entry → is_held entry.hold ≡ true → ⊥

-- each segment with an accepted range gave all its bytes
abbrev pub GaveWhole : List Entry → (ℕ → List ℕ) → Type 0
GaveWhole entries given = (segment size : ℕ) (entry : Entry) → slice_get entries segment ≡ Some entry → entry.hold ≡ Accepted size → length (given segment) ≡ entry.last + 1 - entry.first

abbrev pub FilesAreFinal : Type 0
FilesAreFinal = (file : ℕ) (entries : List Entry) (given : ℕ → List ℕ) (bytes : List ℕ) → AreSoundRanges entries → NoneHeld entries → GaveWhole entries given
    → HoldsGiven file entries given bytes → IsFinal file entries given (resized (final_size (kept_size file entries)) bytes)

-- the same of all files, after each got its size
abbrev pub ShelfIsFinal : Type 0
ShelfIsFinal = (count : ℕ) (name : ℕ → List ℕ) (entries : List Entry) (given : ℕ → List ℕ) (old new : Shelf) → AreSoundRanges entries → NoneHeld entries → GaveWhole entries given
    → AreFilled count name entries given old
    → PutsFirst count (λ file. option_map (with_bytes (resized (final_size (kept_size file entries)))) (old file)) old new
    → AreFinal count name entries given new
