-- The subject of a part's article (yEnc draft 1.3, "Subject Line Conventions"), with the comment in front, the name in double
-- quotes, and the part's number and how many there are, also where there is one alone.
use Rattle.std.specs.Prelude.{ℕ, List, [], ◌∷◌, ◌++◌, codes, decimal}

-- a comment and the space behind it, or nothing where there is no comment
abbrev pub comment_text : List ℕ → List ℕ
comment_text [] = []
comment_text (c ∷ comment) = c ∷ comment ++ codes " "

unfoldable pub subject_text : (comment name : List ℕ) (part total : ℕ) → List ℕ
subject_text comment name part total =
    comment_text comment ++ codes "\"" ++ name ++ codes "\" yEnc (" ++ decimal part ++ codes "/" ++ decimal total ++ codes ")"
