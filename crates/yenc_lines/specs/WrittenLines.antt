-- What is written as a keyword line is read again (yEnc draft 1.3, "Headers and Trailers" and "Multi-part Encoded Binaries").
use Rattle.std.specs.Prelude.{◌≡◌, ℕ, ◌≤◌, ◌^◌, Option, Some, None, Ok}
use Rattle.yenc_lines.specs.declared.keyword.Begin.{Begin}
use Rattle.yenc_lines.specs.declared.keyword.PartLine.{PartLine}
use Rattle.yenc_lines.specs.declared.keyword.EndLine.{EndLine}
use Rattle.yenc_lines.specs.Name.{IsName}
use Rattle.yenc_lines.specs.KeywordText.{begin_text, part_text, end_text}
use Rattle.yenc_lines.specs.Keywords.{begin_of, part_of, end_of}
use Rattle.limits.specs.declared.TheConstants.{MOST_FILE_BYTES}

-- a number from `low` to `high`, where there is one
abbrev pub IsBetween : ℕ → ℕ → Option ℕ → Type 0
IsBetween low high None = Unit {0}
IsBetween low high (Some n) = (low ≤ n) × (n ≤ high)

-- a header line
abbrev pub HeaderIsRead : Type 0
HeaderIsRead = (b : Begin) → IsBetween 1 4294967295 b.part → IsBetween 0 4294967295 b.total → IsBetween 0 4294967295 b.line →
    b.size ≤ MOST_FILE_BYTES → IsName b.name → begin_of (begin_text b) ≡ Ok b

-- a part line
abbrev pub PartLineIsRead : Type 0
PartLineIsRead = (p : PartLine) → 1 ≤ p.begin → p.begin ≤ MOST_FILE_BYTES → p.end ≤ MOST_FILE_BYTES → part_of (part_text p) ≡ Ok p

-- a trailer line
abbrev pub TrailerIsRead : Type 0
TrailerIsRead = (e : EndLine) → IsBetween 1 4294967295 e.part → IsBetween 0 4294967295 e.pcrc32 → IsBetween 0 4294967295 e.crc32 →
    e.size ≤ MOST_FILE_BYTES → end_of (end_text e) ≡ Ok e
