-- A block of characters with one escape in it, and its bytes (yEnc draft 1.3, "Encoding Principle", read backwards).
use Rattle.std.specs.Prelude.{◌≡◌, ◌≢◌, ℕ, ◌+◌, ◌-◌, ◌%◌, ◌<◌, ◌≤◌, false, ◌==◌, nat_lt, if◌then◌else◌, List, slice_index}
use Rattle.yenc_bytes.specs.DataLineReading.{is_stray}
use Rattle.landing_kernel.specs.Characters.{lowered}

-- The 32 characters are plain, but for an escape at place `gap` with its second character behind it. There is none where `gap`
-- is 32.
pub record HasOneEscape (block : List ℕ) (gap : ℕ) : Type 0 where
  pub within : (gap ≤ 32) × (gap ≢ 31)
  pub escape : gap < 32 → slice_index block gap ≡ 61
  pub plain : (i : ℕ) → i < 32 → is_stray (slice_index block i) ≡ false
  pub other : (i : ℕ) → i < 32 → i ≢ gap → slice_index block i ≢ 61

-- the byte at a place of such a block, by the character there and the one behind it
abbrev pub byte_at : ℕ → ℕ → ℕ → ℕ → ℕ
byte_at gap i here next = if nat_lt i gap then lowered here else if i == gap then (next + (256 - 106)) % 256 else lowered next
