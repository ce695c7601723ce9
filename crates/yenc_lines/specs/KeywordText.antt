-- Keyword lines as a writer makes them (yEnc draft 1.3, "Headers and Trailers", and for `part`, `total` and `pcrc32`
-- "Multi-part Encoded Binaries").
use Rattle.std.specs.Prelude.{ℕ, List, [], ◌++◌, Option, Some, None, codes, decimal}
use Rattle.crc_field.specs.Hex.{hex_digits}
use Rattle.yenc_lines.specs.declared.keyword.Begin.{Begin}
use Rattle.yenc_lines.specs.declared.keyword.PartLine.{PartLine}
use Rattle.yenc_lines.specs.declared.keyword.EndLine.{EndLine}

-- an item, where it is there: a space, the key, `=` and the value's text
abbrev pub item : List ℕ → (ℕ → List ℕ) → Option ℕ → List ℕ
item key text None = []
item key text (Some n) = codes " " ++ key ++ codes "=" ++ text n

-- the header line of a file, or of one part of several; the name is the last item
unfoldable pub begin_text : Begin → List ℕ
begin_text b = codes "=ybegin" ++ item (codes "part") decimal b.part ++ item (codes "total") decimal b.total ++ item (codes "line") decimal b.line
    ++ item (codes "size") decimal (Some b.size) ++ codes " name=" ++ b.name

-- the line of one part of several, behind its header line
unfoldable pub part_text : PartLine → List ℕ
part_text p = codes "=ypart" ++ item (codes "begin") decimal (Some p.begin) ++ item (codes "end") decimal (Some p.end)

-- the trailer line of a file, or of one part of several (also "Verifying Integrity")
unfoldable pub end_text : EndLine → List ℕ
end_text e = codes "=yend" ++ item (codes "size") decimal (Some e.size) ++ item (codes "part") decimal e.part
    ++ item (codes "pcrc32") (hex_digits 8) e.pcrc32 ++ item (codes "crc32") (hex_digits 8) e.crc32
