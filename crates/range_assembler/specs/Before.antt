-- Which ranges stand before an offset of a file.
use Rattle.std.specs.Prelude.{◌≡◌, ◌≤◌, ◌+◌, ℕ, Bool, true, false, List, Some, length, ◌==◌, ◌&&◌, ◌||◌, nat_lt, slice_get}
use Rattle.range_assembler.specs.declared.sequence.Range.{Range}

-- a range of an earlier file, or one that ends before the offset
abbrev pub is_before : ℕ → ℕ → Range → Bool
is_before file offset range = nat_lt range.file file || ((range.file == file) && nat_lt range.last offset)

-- the range just before this place stands before the offset, and that at the place doesn't
pub record IsPlace (file offset : ℕ) (ranges : List Range) (place : ℕ) : Type 0 where
  pub within : place ≤ length ranges
  pub below : (k : ℕ) (range : Range) → k + 1 ≡ place → slice_get ranges k ≡ Some range → is_before file offset range ≡ true
  pub from : (range : Range) → slice_get ranges place ≡ Some range → is_before file offset range ≡ false
