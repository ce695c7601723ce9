-- What is seen of an input before a call that reads a file, or a piece of it, and after it.
use Rattle.std.specs.Prelude.{◌≡◌, ◌≤◌, ◌<◌, ◌+◌, ℕ, List, length, take, drop, Option, Some, None, Result, Ok, Err, IsSomeAnd, IfSome, OnSome, ⊤}
use Rattle.io_traits.specs.Causes.{Rose}
use Rattle.io_traits.specs.Input.{file_of}
use Rattle.io_traits.specs.declared.blame.Blame.{Blame}
use Rattle.io_traits.specs.declared.blame.Blame.TheVariants.{Read, Open}
use Rattle.io_traits.specs.declared.input.Input.{Ghosts as Source}
use Rattle.input_files.specs.declared.reading.ReadError.{ReadError}
use Rattle.input_files.specs.declared.reading.ReadError.TheVariants.{Memory, Fault, Short, TooLong}
use Rattle.limits.specs.declared.TheConstants.{MOST_TEXT_BYTES}

-- the counts of an input before and after, the place of its last short read, its current file's length, and its blame
pub record Reading : Type 0 where
  pub faults_before : ℕ
  pub faults_now : ℕ
  pub shorts_before : ℕ
  pub shorts_now : ℕ
  pub short_place : ℕ
  pub current : Option ℕ
  pub blame_before : Option (Option Blame)
  pub blame_now : Option (Option Blame)

-- the same, of an input
abbrev pub reading : {S : Type 0} → Source S → S → S → Reading
reading input before now = record {
  faults_before = input.faults before;
  faults_now = input.faults now;
  shorts_before = input.shorts before;
  shorts_now = input.shorts now;
  short_place = input.short_place now;
  current = input.current now;
  blame_before = input.blame before;
  blame_now = input.blame now;
}

-- no call failed, and no read gave nothing
pub record IsFaultless (r : Reading) : Type 0 where
  pub faults : r.faults_now ≡ r.faults_before
  pub shorts : r.shorts_now ≡ r.shorts_before

-- a read gave no byte at this place, and no call failed
pub record IsShortAt (place : ℕ) (r : Reading) : Type 0 where
  pub faults : r.faults_now ≡ r.faults_before
  pub shorts : Rose r.shorts_before r.shorts_now
  pub place_is : r.short_place ≡ place

-- a call failed, it is told to be one of these where that is told, and no read gave nothing
pub record HasFailed (allowed : Option Blame → Type 0) (r : Reading) : Type 0 where
  pub faults : Rose r.faults_before r.faults_now
  pub shorts : r.shorts_now ≡ r.shorts_before
  pub blamed : OnSome r.blame_before (IfSome r.blame_now allowed)

-- a file of this length, if there is one, has at most so many bytes
abbrev pub Fits : ℕ → Option ℕ → Type 0
Fits most current = IfSome current (λ len. len ≤ most)

-- there is a file of this length, and it has more bytes than that
abbrev pub Exceeds : ℕ → Option ℕ → Type 0
Exceeds most current = IsSomeAnd current (λ len. most < len)

-- a place is one of so many from a place on
abbrev pub IsIn : (place len at : ℕ) → Type 0
IsIn place len at = (place ≤ at) × (at < place + len)

-- nothing is told of the failed call, or that it was a read at one of so many places from a place on
abbrev pub IsReadIn : (place len : ℕ) → Option Blame → Type 0
IsReadIn place len None = ⊤
IsReadIn place len (Some (Read at)) = IsIn place len at
IsReadIn place len (Some other) = ⊥

-- nothing is told of the failed call, or that it was a read or the opening of this path
abbrev pub IsReadOrOpen : List ℕ → Option Blame → Type 0
IsReadOrOpen path None = ⊤
IsReadOrOpen path (Some (Read place)) = ⊤
IsReadOrOpen path (Some (Open name)) = name ≡ path
IsReadOrOpen path (Some other) = ⊥

-- the bytes are those of the file with this path, where the input tells its files
abbrev pub IsFileAt : List ℕ → Option (List (List ℕ × List ℕ)) → List ℕ → Type 0
IsFileAt path None bytes = ⊤
IsFileAt path (Some files) bytes = file_of path files ≡ Some bytes

-- how many bytes a saved text may have
abbrev pub most_text : ℕ
most_text = MOST_TEXT_BYTES

-- The text that the input tells at a path, as many bytes as the opened file has.
pub record IsSaved (path : List ℕ) (files : Option (List (List ℕ × List ℕ))) (current : Option ℕ) (text : List ℕ) : Type 0 where
  pub told : IsFileAt path files text
  pub size : current ≡ Some (length text)

-- the bytes are those of the current file from a place on, where the input tells these
abbrev pub IsPiece : Option (List ℕ) → ℕ → List ℕ → Type 0
IsPiece None place bytes = ⊤
IsPiece (Some content) place bytes = bytes ≡ take (length bytes) (drop place content)

-- the bytes are those from a place on of the file with this path, which has this length, where the input tells its files
abbrev pub IsPieceAt : List ℕ → Option (List (List ℕ × List ℕ)) → ℕ → ℕ → List ℕ → Type 0
IsPieceAt path None size place bytes = ⊤
IsPieceAt path (Some files) size place bytes =
    (content : List ℕ) × (file_of path files ≡ Some content) × (length content ≡ size) × (bytes ≡ take (length bytes) (drop place content))

-- there is a file of this length, and the place is in it
abbrev pub IsBelow : Option ℕ → ℕ → Type 0
IsBelow current place = IsSomeAnd current (λ len. place < len)

-- how the reading of a file of at most so many bytes ends
abbrev pub ReadEnds : ℕ → (Option Blame → Type 0) → Reading → Result (List ℕ) ReadError → Type 0
ReadEnds most allowed r (Ok bytes) = IsFaultless r × (r.current ≡ Some (length bytes)) × (length bytes ≤ most)
ReadEnds most allowed r (Err Memory) = IsFaultless r × Fits most r.current
ReadEnds most allowed r (Err Fault) = HasFailed allowed r × Fits most r.current
ReadEnds most allowed r (Err (Short place)) = IsShortAt place r × Fits most r.current × IsBelow r.current place
ReadEnds most allowed r (Err TooLong) = IsFaultless r × Exceeds most r.current

-- how the reading of so many bytes of the current file, from a place on, ends
abbrev pub PieceEnds : {T : Type 0} → (place len : ℕ) → Reading → Result T ReadError → Type 0
PieceEnds place len r (Ok _) = IsFaultless r × (r.blame_now ≡ r.blame_before)
PieceEnds place len r (Err Memory) = IsFaultless r
PieceEnds place len r (Err Fault) = HasFailed (IsReadIn place len) r
PieceEnds place len r (Err (Short at)) = IsShortAt at r × IsIn place len at
PieceEnds place len r (Err TooLong) = ⊥
