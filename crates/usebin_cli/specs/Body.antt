-- The text that `encode` writes: the yEnc body of a part of a file (yEnc draft 1.3, "Headers and Trailers", "Multi-part
-- Encoded Binaries" and "Encoding Technique").
use Rattle.std.specs.Prelude.{ℕ, nat_lt, if◌then◌else◌, List, Option, Some, None}
use Rattle.yenc_body.specs.Parts.{body_spec, most_bytes, most_parts, parts_of}
use Rattle.yenc_body.specs.declared.spec.BodySpec.{BodySpec}
use Rattle.command_words.specs.CommandLine.{PartAsked}
use Rattle.run_ends.specs.declared.end.Limit.{Limit}
use Rattle.run_ends.specs.declared.end.Limit.TheVariants.{File, Part, Segments}
use Rattle.yenc_text.specs.Text.{IsBodyText, IsDataText}
use Rattle.usebin_cli.specs.Writing.{Written}

-- ---- what may not be encoded

-- What is wrong with a file, or with the part that is asked of it, if anything is: it has too many bytes, too many parts, or
-- no such part. Of several the first is named.
abbrev pub limit_of : (part_size part size : ℕ) → Option Limit
limit_of part_size part size =
    if nat_lt most_bytes size then Some File
    else if nat_lt most_parts (parts_of size part_size) then Some Segments
    else if nat_lt (parts_of size part_size) part then Some (Part (parts_of size part_size))
    else None

-- ---- the text

-- the asked part of a file of this many bytes, as one of a body
abbrev pub part_spec : PartAsked → ℕ → BodySpec
part_spec asked size = body_spec asked.name asked.line size asked.part_size asked.part

-- the text of a body of a part's bytes was written whole, or only in front of a failed write
abbrev pub WroteBody : (List ℕ → Written → Type 0) → BodySpec → List ℕ → Written → Type 0
WroteBody how spec content w = (text : List ℕ) × IsBodyText spec content text × how text w

-- the same of the text of its data lines alone
abbrev pub WroteData : (List ℕ → Written → Type 0) → ℕ → List ℕ → Written → Type 0
WroteData how line_length content w = (text : List ℕ) × IsDataText line_length content text × how text w
