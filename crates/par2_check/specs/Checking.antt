-- A check under way.
use Rattle.std.specs.Prelude.{if◌then◌else◌, slice_get, ◌≡◌, ◌≤◌, ◌<◌, ◌+◌, ◌*◌, ℕ, List, length, take, Result, Ok, Err}
use Rattle.md5.specs.Md5.{Holds, md5}
use Rattle.input_files.specs.Reading.{Reading, HasFailed, IsFaultless, IsReadIn, IsShortAt}
use Rattle.par2_check.specs.Bodies.{slice_count}
use Rattle.par2_check.specs.Packets.{part}
use Rattle.par2_check.specs.Runs.{AreRuns, with_number}
use Rattle.par2_check.specs.Damage.{is_damaged, is_entry}
use Rattle.par2_check.specs.declared.check.CheckError.{CheckError}
use Rattle.par2_check.specs.declared.check.CheckError.TheVariants.{Memory, Input, Short}
use Rattle.par2_check.specs.declared.checking.Checking.{Checking}
use Rattle.par2_check.specs.declared.set.ParFile.{ParFile}
use Rattle.par2_check.specs.declared.slices.Slices.{Slices}

-- how many bytes came, and in which slice the next one stands
pub record IsCounted (slice : ℕ) (slices : Slices) : Type 0 where
  pub taken : slices.taken ≡ slices.closed * slice + slices.filled
  pub less : slices.filled < slice

-- what is known of the slices of contents whose first bytes came
pub record StandsFor (slice : ℕ) (file : ParFile) (content : List ℕ) (slices : Slices) : Type 0 where
  pub inside : slices.taken ≤ length content
  pub part_holds : Holds slices.part (part (slices.closed * slice) slices.filled content)
  pub damaged : AreRuns (is_damaged slice file content) slices.closed slices.damaged

-- all bytes of contents came, which are fewer than a file with these slices has
pub record IsCutShort (slice : ℕ) (file : ParFile) (content : List ℕ) (slices : Slices) : Type 0 where
  pub counted : IsCounted slice slices
  pub entries : length file.slices ≡ slice_count slice file.size
  pub fewer : slices.taken < file.size
  pub all : length content ≡ slices.taken

-- bytes are those of contents from a place on
pub record IsNextPiece (content : List ℕ) (at : ℕ) (bytes : List ℕ) : Type 0 where
  pub inside : at + length bytes ≤ length content
  pub same : bytes ≡ part at (length bytes) content

-- the damaged slices, once the next one is judged by these bytes, with their zeros
abbrev pub judged : List (List ℕ) → ℕ → List ℕ → List (ℕ × ℕ) → List (ℕ × ℕ)
judged entries closed bytes damaged = if is_entry (md5 bytes) (slice_get entries closed) then damaged else with_number (closed + 1) damaged

-- what is known of contents whose first bytes came
pub record Knows (slice : ℕ) (file : ParFile) (checking : Checking) (content : List ℕ) : Type 0 where
  pub slices : StandsFor slice file content checking.slices
  pub whole : Holds checking.whole (take checking.slices.taken content)

-- how the reading of so many bytes of the current file, from its first one on, ends
abbrev pub CheckEnds : {T : Type 0} → ℕ → Reading → Result T CheckError → Type 0
CheckEnds len r (Ok _) = IsFaultless r × (r.blame_now ≡ r.blame_before)
CheckEnds len r (Err Memory) = IsFaultless r
CheckEnds len r (Err Input) = HasFailed (IsReadIn 0 len) r
CheckEnds len r (Err (Short place)) = IsShortAt place r × (place < len)
