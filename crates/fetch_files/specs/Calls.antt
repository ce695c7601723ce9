-- What a row of calls leaves in a store. It ends with the first call that fails.
use Rattle.std.specs.Prelude.{◌≡◌, ◌<◌, ◌≤◌, ◌+◌, ◌==◌, ℕ, Bool, true, false, List, [], Option, Some, Result, Ok, Err, IsTrue, if◌then◌else◌, replicate}
use Rattle.std.specs.Option.{option_map}
use Rattle.io_traits.specs.Causes.{BlamesNamed}
use Rattle.io_traits.specs.Store.{Shelf, Stored, WhereTold, is_created, resized, with_bytes, written_at}
use Rattle.io_traits.specs.declared.blame.Blame.{Blame}
use Rattle.io_traits.specs.declared.blame.Blame.TheVariants.{Create, Write, SetLen}

-- bytes with so many zeros written at a place
abbrev pub zeroed : ℕ → ℕ → List ℕ → List ℕ
zeroed place count bytes = written_at place (replicate count 0) bytes

-- whether the last call failed: after a row without a call it is as it was
abbrev pub failed_after : {T E : Type 0} → Bool → ℕ → Result T E → Bool
failed_after before calls (Ok value) = if calls == 0 then before else false
failed_after before calls (Err e) = true

-- ---- which files were created

-- each of the first `count` files was
abbrev pub AreCreated : ℕ → List ℕ → Type 0
AreCreated count numbers = (file : ℕ) → file < count → IsTrue (is_created numbers file)

-- of the files from this number on the same were created as before
abbrev pub CreatesNoneFrom : ℕ → List ℕ → List ℕ → Type 0
CreatesNoneFrom count before now = (file : ℕ) → count ≤ file → is_created now file ≡ is_created before file

-- ---- what the files hold, where they are told

-- the first `count` files are now these, and all others are as they were
pub record PutsFirst (count : ℕ) (now_holds : ℕ → Option Stored) (before now : Shelf) : Type 0 where
  pub changed : (file : ℕ) → file < count → now file ≡ now_holds file
  pub others : (file : ℕ) → count ≤ file → now file ≡ before file

-- all files but the first `count` are as they were, and of those nothing is said
abbrev pub SparesFrom : ℕ → Shelf → Shelf → Type 0
SparesFrom count before now = (file : ℕ) → count ≤ file → now file ≡ before file

-- the first `count` files keep their names, with any bytes, and all others are as they were
pub record SpoilsFirst (count : ℕ) (before now : Shelf) : Type 0 where
  pub named : (file : ℕ) → file < count → option_map (λ held. held.name) (now file) ≡ option_map (λ held. held.name) (before file)
  pub others : SparesFrom count before now

-- a file that was just made
abbrev pub empty_file : List ℕ → Stored
empty_file name = record { name = name; bytes = [] }

-- what the making of the first `count` files leaves: each with its name and no byte, or after an error any of them in any state
abbrev pub LeavesFirstMade : {T E : Type 0} → Option Shelf → Option Shelf → ℕ → (ℕ → List ℕ) → Result T E → Type 0
LeavesFirstMade before now count name (Ok value) = WhereTold before now (PutsFirst count (λ file. Some (empty_file (name file))))
LeavesFirstMade before now count name (Err e) = WhereTold before now (SparesFrom count)

-- what giving the first `count` files these sizes leaves: each with its size, or after an error any of them with any bytes
abbrev pub LeavesFirstSized : {T E : Type 0} → Option Shelf → Option Shelf → ℕ → (ℕ → ℕ) → Result T E → Type 0
LeavesFirstSized before now count size (Ok value) = WhereTold before now (λ old new. PutsFirst count (λ file. option_map (with_bytes (resized (size file))) (old file)) old new)
LeavesFirstSized before now count size (Err e) = WhereTold before now (SpoilsFirst count)

-- ---- the call that failed, where it is told

-- it was a write to the file of a piece between `place` and the place so many bytes behind it
pub record BlamesWrite (file place count : ℕ) (before now : Option (Option Blame)) : Type 0 where
  pub at : ℕ
  pub len : ℕ
  pub from : place ≤ at
  pub upto : at + len ≤ place + count
  pub blame : now ≡ option_map (λ _. Some (Write file at len)) before

-- it was the making of one of the first `count` files under its name
pub record BlamesCreate {T E : Type 0} (count : ℕ) (name : ℕ → List ℕ) (before now : Option (Option Blame)) (result : Result T E) : Type 0 where
  pub file : ℕ
  pub below : file < count
  pub blame : BlamesNamed before now (Create file (name file)) result

-- it was a change of the length of one of the first `count` files to its size
pub record BlamesSetLen (count : ℕ) (size : ℕ → ℕ) (before now : Option (Option Blame)) : Type 0 where
  pub file : ℕ
  pub below : file < count
  pub blame : now ≡ option_map (λ _. Some (SetLen file (size file))) before
