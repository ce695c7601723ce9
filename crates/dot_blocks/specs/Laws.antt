-- Laws of blocks (RFC 3977, section 3.1.1).
use Rattle.std.specs.Prelude.{◌≡◌, ℕ, List, [], ◌++◌, ◌⊎◌, All}
use Rattle.dot_blocks.specs.Blocks.{HoldsNoLineEnd, IsBlock, BeginsNoBlock, stuffed}
use Rattle.dot_blocks.specs.Heard.{IsHeard}

-- no block is a proper prefix of a block
abbrev pub NoBlockBeginsAnother : Type 0
NoBlockBeginsAnother = (a b : List (List ℕ)) (block rest : List ℕ) →
    IsBlock a block → IsBlock b (block ++ rest) → rest ≡ []

-- a block has one list of lines
abbrev pub OneListOfLines : Type 0
OneListOfLines = (a b : List (List ℕ)) (block : List ℕ) → IsBlock a block → IsBlock b block → a ≡ b

-- stuffing makes a block of the lines
abbrev pub StuffedIsBlock : Type 0
StuffedIsBlock = (lines : List (List ℕ)) → All HoldsNoLineEnd lines → IsBlock lines (stuffed lines)

-- these are the lines of the bytes and what has come of the next one, and no others are
abbrev pub IsHeardAlone : List ℕ → List (List ℕ) → List ℕ → Type 0
IsHeardAlone bytes lines begun =
    IsHeard bytes lines begun
    × ((others : List (List ℕ)) (other : List ℕ) → IsHeard bytes others other → (others ≡ lines) × (other ≡ begun))

-- a block stands at the front of the bytes, and they aren't what is heard of one that hasn't ended
abbrev pub BeginsBlockAlone : List ℕ → Type 0
BeginsBlockAlone bytes =
    ((lines : List (List ℕ)) × (block : List ℕ) × (rest : List ℕ) × IsBlock lines block × (bytes ≡ block ++ rest))
    × ((lines : List (List ℕ)) (begun : List ℕ) → ¬ (IsHeard bytes lines begun))

-- no block stands at their front, and they are lines and what has come of the next one, in one way
abbrev pub AreHeardAlone : List ℕ → Type 0
AreHeardAlone bytes =
    BeginsNoBlock bytes × ((lines : List (List ℕ)) × (begun : List ℕ) × IsHeardAlone bytes lines begun)

-- bytes are one or the other
abbrev pub BlockOrHeard : Type 0
BlockOrHeard = (bytes : List ℕ) → BeginsBlockAlone bytes ⊎ AreHeardAlone bytes
