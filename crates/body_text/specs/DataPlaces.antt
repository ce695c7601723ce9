-- What the decoding of a data line where it stands leaves in a buffer.
use Rattle.std.specs.Prelude.{◌≡◌, ℕ, ◌+◌, ◌-◌, ◌≤◌, List, ◌++◌, length, take, drop, Result, Ok, Err}
use Rattle.yenc_bytes.specs.DataLine.{SpellsAll}
use Rattle.yenc_body.specs.FirstFault.{PartDataFault}
use Rattle.yenc_body.specs.declared.stage.Refusal.{Refusal}

-- the characters between two places of a buffer
abbrev pub between : List ℕ → ℕ → ℕ → List ℕ
between buf start stop = take (stop - start) (drop start buf)

-- The bytes of a data line, for which there is so much room, stand behind the first bytes of the buffer, and what follows the line is as it was.
pub record IsDecoded (old new : List ℕ) (start stop to room count : ℕ) : Type 0 where
  pub bytes : List ℕ
  pub spelled : SpellsAll bytes (between old start stop)
  pub count_is : length bytes ≡ count
  pub room_is : count ≤ room
  pub put : take (to + count) new ≡ take to old ++ bytes
  pub inside : to + count ≤ stop
  pub rest : drop stop new ≡ drop stop old
  pub long : length new ≡ length old

-- a data line was decoded, or is refused at the column for the reason
abbrev pub DecodesLine : List ℕ → List ℕ → (start stop to room : ℕ) → Result ℕ Refusal → Type 0
DecodesLine old new start stop to room (Ok count) = IsDecoded old new start stop to room count
DecodesLine old new start stop to room (Err r) = PartDataFault room (between old start stop) r.column r.reason
