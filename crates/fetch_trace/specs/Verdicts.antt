-- What an answer says of a segment (RFC 3977, 6.2.3, and yEnc draft 1.3).
use Rattle.std.specs.Prelude.{ℕ, ◌==◌, ◌&&◌, Bool, true, false, List, [], ◌∷◌, ◌++◌, Option, Some, None, Result, Ok, Err, if◌then◌else◌}
use Rattle.dot_blocks.specs.BlockReading.{unstuffed}
use Rattle.yenc_body.specs.declared.fault.Fault.{Fault}
use Rattle.yenc_body.specs.declared.part.Part.{Part}
use Rattle.yenc_body.specs.declared.place.Place.{Place}
use Rattle.yenc_body.specs.declared.place.Place.TheVariants as place
use Rattle.yenc_body.specs.BodyReading.{line_of, body_of}
use Rattle.fused_decoder.specs.WholeFile.{whole_of}
use Rattle.link_dialog.specs.Reading.{first_some}
use Rattle.link_dialog.specs.Replies.{Reply, first_line}
use Rattle.nntp_lines.specs.StatusLine.{code_of}
use Rattle.range_assembler.specs.declared.assembler.Clash.{Clash}
use Rattle.range_assembler.specs.Claims.{other_size}
use Rattle.pipeline_core.specs.declared.state.Outcome.{Outcome}
use Rattle.pipeline_core.specs.declared.state.Outcome.TheVariants.{Arrived, NotHere}

-- ---- the range of an article

-- the range of a part within its file, and the size of the file
pub record Range : Type 0 where
  pub size : ℕ
  pub first : ℕ
  pub last : ℕ

abbrev pub range_at : Place → Option Range
range_at place.Opening = None
range_at (place.Opened b n) = None
range_at (place.Filling b first last bytes) = Some (record { size = b.size; first = first; last = last })
range_at (place.Closed p) = Some (record { size = p.begin.size; first = p.first; last = p.last })

-- the range that lines fix, from a place on, where no fault stands before the line that fixes it
abbrev pub range_from : List (List ℕ) → Place → Option Range
range_from [] place = range_at place
range_from (line ∷ lines) place = first_some (range_at place) (elim (line_of place line) [ Ok next ↦ range_from lines next | Err f ↦ None ])

abbrev pub range_in : List (List ℕ) → Option Range
range_in lines = range_from lines place.Opening

-- the whole lines of a block that hasn't ended, without the dots that were put before them; `begun` stands before the bytes
abbrev pub lines_from : List ℕ → List ℕ → List (List ℕ)
lines_from begun [] = []
lines_from begun (x ∷ []) = []
lines_from begun (x ∷ y ∷ more) = if (x == 13) && (y == 10) then unstuffed begun ∷ lines_from [] more else lines_from (begun ++ x ∷ []) (y ∷ more)

-- what follows a status line of an article
abbrev pub block_behind : Option ℕ → List ℕ → Option (List ℕ)
block_behind (Some code) bytes = if code == 222 then Some bytes else None
block_behind None bytes = None

abbrev pub block_of : Option (List ℕ × List ℕ) → Option (List ℕ)
block_of (Some line) = block_behind (code_of line.0) line.1
block_of None = None

abbrev pub range_of_block : Option (List ℕ) → Option Range
range_of_block (Some block) = range_in (lines_from [] block)
range_of_block None = None

-- the range that the bytes of an unfinished answer fix
abbrev pub range_of : List ℕ → Option Range
range_of bytes = range_of_block (block_of (first_line bytes))

-- ---- verdicts

-- What an answer says of its segment. Beside an accepted part stands the CRC-32 of the whole file that its trailer line gave, if it did.
pub data Verdict : Type 0 where
  Accepted : (part : Part) (whole : Option ℕ) → Verdict
  Absent : (code : ℕ) → Verdict
  Refused : (fault : Fault) → Verdict
  Clashes : (clash : Clash) → Verdict
  OtherSize : (kept : ℕ) → Verdict

abbrev pub sized : Part → Option ℕ → Option ℕ → Verdict
sized part whole None = Accepted part whole
sized part whole (Some kept) = OtherSize kept

-- the first of these that applies: a fault without a range, a range that stood against its own, a fault, another size
abbrev pub article_verdict : Option Range → Option Clash → Result Part Fault → Option ℕ → Option ℕ → Verdict
article_verdict None against (Err fault) whole kept = Refused fault
article_verdict None against (Ok part) whole kept = sized part whole (other_size part.begin.size kept)
article_verdict (Some range) (Some clash) body whole kept = Clashes clash
article_verdict (Some range) None (Err fault) whole kept = Refused fault
article_verdict (Some range) None (Ok part) whole kept = sized part whole (other_size part.begin.size kept)

-- of an answer, where this range stood against the article's, and the file's accepted parts have this size
abbrev pub verdict_of : Option Clash → Option ℕ → Reply → Verdict
verdict_of against kept reply =
    if reply.code == 222 then article_verdict (range_in reply.lines) against (body_of reply.lines) (whole_of reply.lines) kept else Absent reply.code

abbrev pub is_accepted : Verdict → Bool
is_accepted (Accepted part whole) = true
is_accepted (Absent code) = false
is_accepted (Refused fault) = false
is_accepted (Clashes clash) = false
is_accepted (OtherSize kept) = false

abbrev pub outcome_by : Bool → Outcome
outcome_by true = Arrived
outcome_by false = NotHere

-- what it says to the core
abbrev pub outcome_of : Verdict → Outcome
outcome_of verdict = outcome_by (is_accepted verdict)
