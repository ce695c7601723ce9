-- The text of a body, and of its parts (yEnc draft 1.3, "Headers and Trailers", "Multi-part Encoded Binaries" and "Encoding
-- Technique").
use Rattle.std.specs.Prelude.{◌≡◌, ◌≤◌, ◌==◌, if◌then◌else◌, ℕ, List, [], ◌∷◌, ◌++◌, drop}
use Rattle.std.specs.List.{flat_map}
use Rattle.yenc_bytes.specs.WriterLines.{IsCanonicalData}
use Rattle.yenc_body.specs.Canonical.{header, part_line, trailer, IsCanonicalBody}
use Rattle.yenc_body.specs.declared.spec.BodySpec.{BodySpec}

-- a line with its end, CR LF
abbrev pub ended : List ℕ → List ℕ
ended line = line ++ 13 ∷ 10 ∷ []

-- lines as a text
abbrev pub text_of : List (List ℕ) → List ℕ
text_of lines = flat_map ended lines

-- the text before the data lines
abbrev pub opening : BodySpec → List ℕ → List ℕ
opening spec content =
    if spec.total == 1
    then ended (header spec)
    else ended (header spec) ++ ended (part_line spec content)

-- the text behind the data lines
abbrev pub closing : BodySpec → List ℕ → List ℕ
closing spec content = ended (trailer spec content)

-- the text of the writer's data lines of a part's bytes
abbrev pub IsDataText : ℕ → List ℕ → List ℕ → Type 0
IsDataText line_length bytes text = (lines : List (List ℕ)) × IsCanonicalData line_length bytes lines × (text ≡ text_of lines)

-- a text is that of the first `used` bytes: whatever is the text of those behind them goes on to that of all
abbrev pub IsPiece : ℕ → List ℕ → ℕ → List ℕ → Type 0
IsPiece line_length bytes used text = (more : List ℕ) → IsDataText line_length (drop used bytes) more → IsDataText line_length bytes (text ++ more)

-- the text of the body that a writer makes of a part
abbrev pub IsBodyText : BodySpec → List ℕ → List ℕ → Type 0
IsBodyText spec content text = (lines : List (List ℕ)) × IsCanonicalBody spec content lines × (text ≡ text_of lines)

-- ---- laws

-- a part's bytes have a text, of each line length but none
abbrev pub EachHasText : Type 0
EachHasText = (line_length : ℕ) (bytes : List ℕ) → 1 ≤ line_length → (text : List ℕ) × IsDataText line_length bytes text

-- what stands before the data lines, their text and what stands behind them are the text of the body
abbrev pub TextOfThree : Type 0
TextOfThree = (spec : BodySpec) (content text : List ℕ) → IsDataText spec.line content text → IsBodyText spec content (opening spec content ++ (text ++ closing spec content))
