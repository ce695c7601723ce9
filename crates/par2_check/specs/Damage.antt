-- Which slices of a file are damaged.
use Rattle.std.specs.Prelude.{◌≡◌, ◌↔◌, ℕ, ◌+◌, ◌-◌, ◌*◌, ◌&&◌, Bool, false, not, nat_le, min, IsTrue, List, ◌++◌, length, replicate, slice_get, Option, Some, None}
use Rattle.std.specs.Str.{bytes_eq}
use Rattle.md5.specs.Md5.{md5}
use Rattle.par2_check.specs.Packets.{part}
use Rattle.par2_check.specs.Runs.{AreRuns}
use Rattle.par2_check.specs.declared.check.Checked.{Checked}
use Rattle.par2_check.specs.declared.set.ParFile.{ParFile}

-- how many bytes a slice of a file has that begins at a place, counted from 0: the last one may have fewer than the others
abbrev pub slice_len : (slice size start : ℕ) → ℕ
slice_len slice size start = min slice (size - start)

-- bytes with zeros behind them, up to the size of a slice
abbrev pub padded : ℕ → List ℕ → List ℕ
padded slice bytes = bytes ++ replicate (slice - length bytes) 0

-- an entry, if there is one, is this MD5
abbrev pub is_entry : List ℕ → Option (List ℕ) → Bool
is_entry digest None = false
is_entry digest (Some entry) = bytes_eq digest entry

-- A slice, from the place where it begins, is sound: contents have all its bytes, and their MD5, with zeros behind them, is the
-- entry's.
abbrev pub is_sound_at : (slice size start : ℕ) → Option (List ℕ) → List ℕ → Bool
is_sound_at slice size start entry content =
    nat_le (start + slice_len slice size start) (length content) && is_entry (md5 (padded slice (part start (slice_len slice size start) content))) entry

-- the slice of this number, counted from 1, is damaged
abbrev pub is_damaged : ℕ → ParFile → List ℕ → ℕ → Bool
is_damaged slice file content number = not (is_sound_at slice file.size ((number - 1) * slice) (slice_get file.slices (number - 1)) content)

-- contents have the length and the MD5 of a file
pub record IsWhole (file : ParFile) (content : List ℕ) : Type 0 where
  pub size : length content ≡ file.size
  pub digest : md5 content ≡ file.md5

-- what is found of contents: the greatest runs of damaged slices, and whether they are whole
pub record IsChecked (slice : ℕ) (file : ParFile) (content : List ℕ) (checked : Checked) : Type 0 where
  pub damaged : AreRuns (is_damaged slice file content) (length file.slices) checked.damaged
  pub whole : IsTrue checked.whole ↔ IsWhole file content
