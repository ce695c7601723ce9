-- The lines that `post` prints on standard error.
use Rattle.std.specs.Prelude.{ℕ, ◌+◌, List, [], ◌∷◌, ◌++◌, codes}
use Rattle.std.specs.Fmt.{decimal}
use Rattle.poster.specs.declared.index.PartEnd.{PartEnd}
use Rattle.poster.specs.declared.index.PartEnd.TheVariants as end
use Rattle.poster.specs.declared.index.Sent.{Sent}
use Rattle.run_ends.specs.Printed.{with_value}

-- what became of a part that isn't posted
abbrev pub end_text : PartEnd → List ℕ
end_text end.Posted = codes "posted"
end_text (end.Refused code) = with_value (codes "refused") (decimal code)
end_text end.Unsure = codes "unsure"
end_text end.NotSent = codes "notsent"

-- the line of a part
unfoldable pub end_line : ℕ → PartEnd → List ℕ
end_line number e = codes "part " ++ decimal number ++ codes " " ++ end_text e ++ 10 ∷ []

-- a part that is posted has no line
abbrev pub part_line : ℕ → PartEnd → List ℕ
part_line number end.Posted = []
part_line number (end.Refused code) = end_line number (end.Refused code)
part_line number end.Unsure = end_line number end.Unsure
part_line number end.NotSent = end_line number end.NotSent

-- the lines of the parts that aren't posted, the first of these parts having this number
abbrev pub part_lines : ℕ → List Sent → List ℕ
part_lines number [] = []
part_lines number (s ∷ sent) = part_line number s.end ++ part_lines (number + 1) sent
