-- What the calls on a store do to the files that it holds.
use Rattle.std.specs.Prelude.{◌≡◌, ◌≢◌, ◌+◌, ◌-◌, ◌==◌, ℕ, Bool, true, ◌&&◌, List, [], ◌∷◌, ◌++◌, length, take, drop, replicate, if◌then◌else◌, is_ok, Option, Some, None, Result, Ok, Err, ⊤}
use Rattle.std.specs.Option.{option_map}
use Rattle.std.specs.List.{list_any}

-- a file that a store holds
pub record Stored : Type 0 where
  pub name : List ℕ
  pub bytes : List ℕ

-- the files that a store holds, by their numbers
abbrev pub Shelf : Type 0
Shelf = ℕ → Option Stored

-- bytes filled up with zeros to a length
abbrev pub filled : ℕ → List ℕ → List ℕ
filled len bytes = bytes ++ replicate (len - length bytes) 0

-- bytes with a piece written at a place, and zeros in a gap before it; a piece of no byte leaves no gap
abbrev pub written_at : ℕ → List ℕ → List ℕ → List ℕ
written_at place [] bytes = bytes
written_at place (byte ∷ piece) bytes = take place (filled place bytes) ++ byte ∷ piece ++ drop (place + length (byte ∷ piece)) bytes

-- bytes cut to a length, or filled up to it with zeros
abbrev pub resized : ℕ → List ℕ → List ℕ
resized len bytes = take len (filled len bytes)

-- a file whose bytes were changed
abbrev pub with_bytes : (List ℕ → List ℕ) → Stored → Stored
with_bytes change file = record { name = file.name; bytes = change file.bytes }

-- one file is now this, and all others are as they were
pub record Puts (file : ℕ) (now_holds : Option Stored) (before now : Shelf) : Type 0 where
  pub changed : now file ≡ now_holds
  pub others : (k : ℕ) → k ≢ file → now k ≡ before k

-- all files but one are as they were, and of that one nothing is said
abbrev pub Spares : ℕ → Shelf → Shelf → Type 0
Spares file before now = (k : ℕ) → k ≢ file → now k ≡ before k

-- all files but one are as they were, and that one keeps its name, with any bytes
pub record Spoils (file : ℕ) (before now : Shelf) : Type 0 where
  pub named : option_map (λ held. held.name) (now file) ≡ option_map (λ held. held.name) (before file)
  pub others : Spares file before now

-- a fact about the files before and after a call, where they are told; an object tells them always or never
abbrev pub WhereTold : Option Shelf → Option Shelf → (Shelf → Shelf → Type 0) → Type 0
WhereTold None None P = ⊤
WhereTold None (Some now) P = ⊥
WhereTold (Some before) None P = ⊥
WhereTold (Some before) (Some now) P = P before now

-- whether the file of this number was created
abbrev pub is_created : List ℕ → ℕ → Bool
is_created numbers file = list_any (λ k. k == file) numbers

-- which files were created, after a call that makes one: that one where it was made, and the others as before
abbrev pub Creates : {T E : Type 0} → List ℕ → List ℕ → ℕ → Result T E → Type 0
Creates before now file result = (k : ℕ) → is_created now k ≡ (if k == file then is_ok result else is_created before k)

-- which files were created, after a call that takes one over: that one too where it was, and the others as before
abbrev pub Keeps : {T E : Type 0} → List ℕ → List ℕ → ℕ → Result T E → Type 0
Keeps before now file result = (k : ℕ) → is_created now k ≡ (if k == file && is_ok result then true else is_created before k)

-- a file of this number is there under this name, where the files are told
abbrev pub HoldsNamed : Option Shelf → ℕ → List ℕ → Type 0
HoldsNamed None file name = ⊤
HoldsNamed (Some shelf) file name = option_map (λ held. held.name) (shelf file) ≡ Some name

-- what the making of a file leaves: the file with no byte, or after an error no file of that number
abbrev pub LeavesMade : {T E : Type 0} → Option Shelf → Option Shelf → ℕ → List ℕ → Result T E → Type 0
LeavesMade before now file name (Ok value) = WhereTold before now (Puts file (Some (record { name = name; bytes = [] })))
LeavesMade before now file name (Err e) = WhereTold before now (Puts file None)

-- what a change of a file's bytes leaves: the file with its bytes changed so, or after an error with any bytes
abbrev pub LeavesChanged : {T E : Type 0} → Option Shelf → Option Shelf → ℕ → (List ℕ → List ℕ) → Result T E → Type 0
LeavesChanged before now file change (Ok value) = WhereTold before now (λ old new. Puts file (option_map (with_bytes change) (old file)) old new)
LeavesChanged before now file change (Err e) = WhereTold before now (Spoils file)
