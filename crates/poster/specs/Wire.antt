-- Lines as they are sent (RFC 3977, 3.1.1), appended to a block that is made.
use Rattle.std.specs.Prelude.{◌≡◌, ℕ, ◌+◌, ◌==◌, if◌then◌else◌, List, [], ◌∷◌, ◌++◌, length, sum_by}
use Rattle.std.specs.List.{flat_map}
use Rattle.dot_blocks.specs.Blocks.{stuffed_line}
use Rattle.yenc_bytes.specs.WriterLines.{IsCanonicalData}
use Rattle.yenc_body.specs.Canonical.{IsCanonicalBody}
use Rattle.yenc_body.specs.declared.spec.BodySpec.{BodySpec}
use Rattle.poster.specs.Article.{Article, IsArticle, lines_of, octets_of_line}
use Rattle.poster.specs.declared.settings.Settings.{Settings}

-- the dot that stands before a line that begins with a dot
abbrev pub dot_before : List ℕ → List ℕ
dot_before [] = []
dot_before (x ∷ line) = if x == 46 then 46 ∷ [] else []

-- a line as it is sent: with one dot more where it begins with a dot, and CRLF
abbrev pub wire_line : List ℕ → List ℕ
wire_line line = stuffed_line line ++ 13 ∷ 10 ∷ []

-- lines as they are sent
abbrev pub wire_of : List (List ℕ) → List ℕ
wire_of lines = flat_map wire_line lines

-- behind the old bytes stand lines as they are sent, with this many dots more
pub record SendsLines (lines : List (List ℕ)) (old new : List ℕ) (dots : ℕ) : Type 0 where
  pub wire_is : new ≡ old ++ wire_of lines
  pub dots_are : length (wire_of lines) ≡ sum_by octets_of_line lines + dots

-- the same of the writer's data lines of a part's bytes
abbrev pub SendsData : ℕ → List ℕ → List ℕ → List ℕ → ℕ → Type 0
SendsData line_length bytes old new dots = (lines : List (List ℕ)) × IsCanonicalData line_length bytes lines × SendsLines lines old new dots

-- the same of the body of a part's bytes
abbrev pub SendsBody : BodySpec → List ℕ → List ℕ → List ℕ → ℕ → Type 0
SendsBody spec bytes old new dots = (lines : List (List ℕ)) × IsCanonicalBody spec bytes lines × SendsLines lines old new dots

-- the bytes are the lines of the article of a part as they are sent, with this many dots more
abbrev pub SendsArticle : Settings → (size part : ℕ) → List ℕ → List ℕ → ℕ → Type 0
SendsArticle s size part bytes new dots = (a : Article) × IsArticle s size part bytes a × SendsLines (lines_of a) [] new dots
