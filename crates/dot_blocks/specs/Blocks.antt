-- Multi-line data blocks (RFC 3977, section 3.1.1), for a reader that takes a NUL, a lone CR and a lone LF as content.
use Rattle.std.specs.Prelude.{◌≡◌, ◌≢◌, ◌<◌, ℕ, List, [], ◌∷◌, ◌++◌, ◌⊎◌, ◌==◌, if◌then◌else◌, length, take, Result, Ok, Err}
use Rattle.dot_blocks.specs.declared.split.BlockError.{BlockError}
use Rattle.dot_blocks.specs.declared.split.BlockError.TheVariants.{Memory, Unfinished, Rest}

-- CR followed by LF stands nowhere in the bytes: nothing else ends a line (rule 1)
abbrev pub HoldsNoLineEnd : List ℕ → Type 0
HoldsNoLineEnd bytes = (a b : List ℕ) → bytes ≢ a ++ 13 ∷ 10 ∷ b

abbrev pub BeginsWithDot : List ℕ → Type 0
BeginsWithDot line = (rest : List ℕ) × (line ≡ 46 ∷ rest)

-- A line, and what stands for it in a block: itself where it doesn't begin with a dot, or the line with a dot before it
-- where it isn't empty (rules 3 and 5). A dot alone stands for no line.
abbrev pub IsWireForm : List ℕ → List ℕ → Type 0
IsWireForm line wire =
    HoldsNoLineEnd line × ((¬ (BeginsWithDot line) × (wire ≡ line)) ⊎ ((line ≢ []) × (wire ≡ 46 ∷ line)))

-- a wire form of each line, with CRLF behind each (rule 1)
abbrev pub AreWireLines : List (List ℕ) → List ℕ → Type 0
AreWireLines [] bytes = bytes ≡ []
AreWireLines (line ∷ lines) bytes =
    (wire rest : List ℕ) × IsWireForm line wire × AreWireLines lines rest × (bytes ≡ wire ++ 13 ∷ 10 ∷ rest)

-- a block of lines: a wire form of each, with CRLF, and then a dot and CRLF (rule 4)
abbrev pub IsBlock : List (List ℕ) → List ℕ → Type 0
IsBlock lines bytes =
    (whole : List ℕ) × AreWireLines lines whole × (bytes ≡ whole ++ 46 ∷ 13 ∷ 10 ∷ [])

-- no block stands at the front of the bytes
abbrev pub BeginsNoBlock : List ℕ → Type 0
BeginsNoBlock bytes =
    (lines : List (List ℕ)) (block rest : List ℕ) → IsBlock lines block → bytes ≢ block ++ rest

-- ---- as a sender makes it

-- the wire form that adds a dot only before a dot (rule 3)
abbrev pub stuffed_line : List ℕ → List ℕ
stuffed_line [] = []
stuffed_line (x ∷ line) = if x == 46 then 46 ∷ x ∷ line else x ∷ line

-- the block that adds a dot only before a dot
abbrev pub stuffed : List (List ℕ) → List ℕ
stuffed [] = 46 ∷ 13 ∷ 10 ∷ []
stuffed (line ∷ lines) = stuffed_line line ++ 13 ∷ 10 ∷ stuffed lines

-- ---- as it is split

-- What bytes are refused for that should be a block. Want of memory says nothing of them.
abbrev pub IsNoBlockFor : List ℕ → BlockError → Type 0
IsNoBlockFor bytes Memory = Unit {0}
IsNoBlockFor bytes Unfinished = BeginsNoBlock bytes
IsNoBlockFor bytes (Rest used) =
    (used < length bytes) × ((lines : List (List ℕ)) × IsBlock lines (take used bytes))

-- what a split answers of bytes that are a block of these lines and then a rest
abbrev pub Splits : List (List ℕ) → List ℕ → List ℕ → Result (List (List ℕ)) BlockError → Type 0
Splits lines block rest (Ok found) = (found ≡ lines) × (rest ≡ [])
Splits lines block rest (Err Memory) = Unit {0}
Splits lines block rest (Err Unfinished) = ⊥
Splits lines block rest (Err (Rest used)) = (used ≡ length block) × (rest ≢ [])
