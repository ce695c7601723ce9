-- What the landing of spellings leaves in a buffer.
use Rattle.std.specs.Prelude.{◌≡◌, ℕ, ◌+◌, ◌<◌, ◌≤◌, List, length, take, drop, slice_index}
use Rattle.yenc_bytes.specs.DataLine.{SpellsAll}

-- The `used` characters from `from` on spell the bytes at the `landed` places from `to` on. Every place before these, and behind
-- the characters, is as it was.
pub record LandsSpellings (old new : List ℕ) (from to used landed : ℕ) : Type 0 where
  pub spelled : SpellsAll (take landed (drop to new)) (take used (drop from old))
  pub below : (k : ℕ) → k < to → slice_index new k ≡ slice_index old k
  pub above : (k : ℕ) → from + used ≤ k → slice_index new k ≡ slice_index old k
  pub long : length new ≡ length old
