-- A file as a poster cuts it into parts, and the articles that a poster makes of them (yEnc draft 1.3, "Multi-part Encoded Binaries").
use Rattle.std.specs.Prelude.{◌≡◌, ◌<◌, ◌≤◌, ◌^◌, ℕ, List, [], None, Result, Ok, Err, length, All}
use Rattle.limits.specs.declared.TheConstants.{LEAST_LINE, MOST_LINE, MOST_PART_BYTES}
use Rattle.yenc_lines.specs.Name.{IsName}
use Rattle.yenc_body.specs.declared.part.Part.{Part}
use Rattle.yenc_body.specs.declared.fault.Fault.{Fault}
use Rattle.yenc_body.specs.BodyReading.{body_of}
use Rattle.yenc_body.specs.Canonical.{IsCanonicalBody}
use Rattle.yenc_body.specs.Parts.{body_spec, most_bytes, part_bytes, parts_of}
use Rattle.io_traits.specs.declared.links.LinkEvent.{LinkEvent}
use Rattle.fetch_trace.specs.Setting.{Setting}
use Rattle.fetch_trace.specs.Moving.{standing_at}
use Rattle.fetch_trace.specs.HeldRanges.{NoneHeld}
use Rattle.fetch_trace.specs.Headline.{IsOf, IsPosted, AnswersArePosted, IsFresh, IsCompletedAnew}

-- Each segment of the file is one of the parts of these bytes, and the lines of its article are the body that a writer makes of
-- that part; each part has one segment.
pub record IsCut (setting : Setting) (file : ℕ) (bytes name : List ℕ) (line part_size : ℕ) (lines : ℕ → List (List ℕ)) (number : ℕ → ℕ) : Type 0 where
  pub is_name : IsName name
  pub are_bytes : All (λ b. b < 256) bytes
  pub few_bytes : length bytes ≤ most_bytes
  pub few_parts : parts_of (length bytes) part_size < 2 ^ 32
  pub line_least : LEAST_LINE ≤ line
  pub line_most : line ≤ MOST_LINE
  pub part_least : 1 ≤ part_size
  pub part_most : part_size ≤ MOST_PART_BYTES
  pub numbered : (segment : ℕ) → IsOf setting file segment → (1 ≤ number segment) × (number segment ≤ parts_of (length bytes) part_size)
  pub once : (segment other : ℕ) → IsOf setting file segment → IsOf setting file other → number segment ≡ number other → segment ≡ other
  pub each : (part : ℕ) → 1 ≤ part → part ≤ parts_of (length bytes) part_size → (segment : ℕ) × (IsOf setting file segment × (number segment ≡ part))
  pub written : (segment : ℕ) → IsOf setting file segment → IsCanonicalBody (body_spec name line (length bytes) part_size (number segment)) (part_bytes bytes part_size (number segment)) (lines segment)

-- what lines are read as, where they are a body
abbrev pub part_read : Result Part Fault → Part
part_read (Ok part) = part
part_read (Err fault) = record { begin = record { part = None; total = None; line = None; size = 0; name = [] }; first = 1; last = 0; content = [] }

abbrev pub parts_read : (ℕ → List (List ℕ)) → ℕ → Part
parts_read lines segment = part_read (body_of (lines segment))

-- such articles are those of a posted file
abbrev pub CutIsPosted : Type 0
CutIsPosted = (setting : Setting) (file : ℕ) (bytes name : List ℕ) (line part_size : ℕ) (lines : ℕ → List (List ℕ)) (number : ℕ → ℕ) →
    IsCut setting file bytes name line part_size lines number → IsPosted setting file bytes lines (parts_read lines)

-- the headline of a file that a poster cut
abbrev pub CutIsCompleted : Type 0
CutIsCompleted = (setting : Setting) (events : List LinkEvent) (file : ℕ) (bytes name : List ℕ) (line part_size : ℕ) (lines : ℕ → List (List ℕ)) (number : ℕ → ℕ) →
    NoneHeld setting.entries → IsFresh setting file → IsCut setting file bytes name line part_size lines number →
    AnswersArePosted setting file bytes lines (parts_read lines) (standing_at setting events) → IsCompletedAnew setting file bytes (parts_read lines) (standing_at setting events)
