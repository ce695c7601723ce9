-- The CRC-32 of the whole file that a body of several parts may give in its trailer line (yEnc draft 1.3, "Multi-part Encoded
-- Binaries").
use Rattle.std.specs.Prelude.{◌≡◌, ℕ, Bool, true, false, if◌then◌else◌, List, [], ◌∷◌, Option, Some, None, Result, Ok, Err}
use Rattle.yenc_lines.specs.declared.keyword.EndLine.{EndLine}
use Rattle.yenc_lines.specs.declared.key.KeyFault.{KeyFault}
use Rattle.yenc_lines.specs.Keywords.{end_of}
use Rattle.yenc_body.specs.declared.part.Part.{Part}
use Rattle.yenc_body.specs.declared.place.Place.{Place}
use Rattle.yenc_body.specs.declared.place.Place.TheVariants.{Opening, Opened, Filling, Closed}
use Rattle.yenc_body.specs.Body.{IsBody}
use Rattle.yenc_body.specs.BodyReading.{line_of}

-- the keyword `crc32` of a trailer line represents the CRC-32 of the entire binary: in a single part that is the data's own, and
-- compared with it
abbrev pub file_crc : Option ℕ → Option ℕ → Option ℕ
file_crc None crc = None
file_crc (Some part) crc = crc

-- the trailer line of a body says this of the whole file
pub record GivesWhole (lines : List (List ℕ)) (p : Part) (whole : Option ℕ) : Type 0 where
  pub body : IsBody lines p
  pub trailer : EndLine
  pub reading : end_of body.line ≡ Ok trailer
  pub whole_is : whole ≡ file_crc p.begin.part trailer.crc32

-- ---- the same, read from left to right on lists

-- by what was read of the trailer line
abbrev pub said_in : Option ℕ → Result EndLine KeyFault → Option ℕ
said_in part (Ok e) = file_crc part e.crc32
said_in part (Err k) = None

-- what a line says of it that ends the data
abbrev pub said_at : Place → List ℕ → Option ℕ
said_at Opening line = None
said_at (Opened b n) line = None
said_at (Filling b first last bytes) line = said_in b.part (end_of line)
said_at (Closed p) line = None

abbrev pub is_closed : Place → Bool
is_closed Opening = false
is_closed (Opened b n) = false
is_closed (Filling b first last bytes) = false
is_closed (Closed p) = true

-- what the line says of it that closes the body, where these lines come from a place on and one of them does
unfoldable pub whole_from : List (List ℕ) → Place → Option ℕ
whole_from [] place = None
whole_from (line ∷ lines) place = elim (line_of place line) [ Ok next ↦ if is_closed next then said_at place line else whole_from lines next | Err f ↦ None ]

abbrev pub whole_of : List (List ℕ) → Option ℕ
whole_of lines = whole_from lines Opening
