-- What a reader of a status line stands for, and what its steps say.
use Rattle.std.specs.Prelude.{◌≡◌, ◌+◌, ◌≤◌, ◌<◌, ℕ, List, [], ◌∷◌, Some, None, Ok, take, length}
use Rattle.link_dialog.specs.declared.awaited.Awaited.{Awaited}
use Rattle.link_dialog.specs.declared.reader.Reader.{Reader}
use Rattle.link_dialog.specs.declared.reader.Step.{Step}
use Rattle.link_dialog.specs.declared.reader.Step.TheVariants.{More, Line, Over}
use Rattle.link_dialog.specs.Replies.{first_line, judged, whole_reply, why_of_rest}

-- the bytes that the reader holds
abbrev pub held : Reader → List ℕ
held reader = take reader.len reader.line

-- the reader stands for a rest in which no line is whole
pub record HoldsRest (reader : Reader) (rest : List ℕ) : Type 0 where
  pub bytes : held reader ≡ rest
  pub unfinished : first_line rest ≡ None

-- these bytes are a whole status line that is meant, with its CRLF, and the reader holds it
pub record IsLine (kind : Awaited) (bytes : List ℕ) (code : ℕ) (reader : Reader) : Type 0 where
  pub line : first_line bytes ≡ Some (held reader, [])
  pub code_is : judged kind (held reader) ≡ Ok code
  pub short : length bytes ≤ 512

-- what a step says, once these are the bytes since the last reply
abbrev pub Says : Awaited → List ℕ → Step → Reader → Type 0
Says kind bytes More reader = (whole_reply kind bytes ≡ None) × (why_of_rest (kind ∷ []) bytes ≡ None) × HoldsRest reader bytes
Says kind bytes (Line code) reader = IsLine kind bytes code reader
Says kind bytes (Over reason) reader = (whole_reply kind bytes ≡ None) × (why_of_rest (kind ∷ []) bytes ≡ Some reason)

-- the number of bytes that the reader holds
abbrev pub heard_len : Reader → ℕ
heard_len reader = reader.len

abbrev pub GrowsAtMore : ℕ → ℕ → Step → Type 0
GrowsAtMore before after More = after ≡ before + 1
GrowsAtMore before after (Line code) = after < 512
GrowsAtMore before after (Over reason) = after < 512

-- where the line goes on, each byte of the piece is held
abbrev pub GrowsAtPiece : ℕ → ℕ → ℕ → Step → Type 0
GrowsAtPiece before after n More = after ≡ before + n
GrowsAtPiece before after n (Line code) = Unit {0}
GrowsAtPiece before after n (Over reason) = Unit {0}
