-- Reading a block from left to right, on lists: the plain program beside the definition of a block (RFC 3977, section 3.1.1).
use Rattle.std.specs.Prelude.{◌≡◌, ◌↔◌, ℕ, Bool, false, ◌&&◌, ◌==◌, if◌then◌else◌, List, [], ◌∷◌, ◌++◌, Option, Some, None}
use Rattle.dot_blocks.specs.Blocks.{IsBlock}

-- a line on the wire without the dot that was put before it
abbrev pub unstuffed : List ℕ → List ℕ
unstuffed [] = []
unstuffed (x ∷ line) = if x == 46 then line else x ∷ line

abbrev pub is_dot : List ℕ → Bool
is_dot [] = false
is_dot (x ∷ []) = x == 46
is_dot (x ∷ y ∷ line) = false

-- one more line before those that were found
abbrev pub with_line : List ℕ → Option (List (List ℕ) × List ℕ) → Option (List (List ℕ) × List ℕ)
with_line line None = None
with_line line (Some found) = Some (line ∷ found.0, found.1)

-- The lines of the block at the front of the bytes, and what follows it, where `begun` stands before them on the same line.
unfoldable pub block_from : List ℕ → List ℕ → Option (List (List ℕ) × List ℕ)
block_from begun [] = None
block_from begun (x ∷ []) = None
block_from begun (x ∷ y ∷ more) =
    if x == 13 && y == 10
    then (if is_dot begun then Some ([], more) else with_line (unstuffed begun) (block_from [] more))
    else block_from (begun ++ x ∷ []) (y ∷ more)

-- the lines of the block at the front of the bytes, and what follows it, where there is one
abbrev pub front_block : List ℕ → Option (List (List ℕ) × List ℕ)
front_block bytes = block_from [] bytes

-- what is read is a block at the front, and each block there is read
abbrev pub ReadsEachBlock : Type 0
ReadsEachBlock = (bytes : List ℕ) (lines : List (List ℕ)) (rest : List ℕ) →
    (front_block bytes ≡ Some (lines, rest)) ↔ ((block : List ℕ) × IsBlock lines block × (bytes ≡ block ++ rest))
