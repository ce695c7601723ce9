-- The line that `decode` notes on standard error: the range of a part.
use Rattle.std.specs.Prelude.{ℕ, List, [], ◌∷◌, ◌++◌, codes}
use Rattle.std.specs.Fmt.{decimal}
use Rattle.yenc_body.specs.declared.part.Part.{Part}

-- the line of a part's range: the offsets of its first and its last byte, from 1, and the file's length
unfoldable pub range_line : Part → List ℕ
range_line p = codes "range " ++ decimal p.first ++ codes "-" ++ decimal p.last ++ codes " of " ++ decimal p.begin.size ++ 10 ∷ []
