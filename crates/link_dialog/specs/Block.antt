-- The block behind a status line, as it is heard (RFC 3977, 3.1.1).
use Rattle.std.specs.Prelude.{◌≡◌, ℕ, Bool, true, false, List, []}
use Rattle.dot_blocks.specs.declared.place.Place.{Place}
use Rattle.dot_blocks.specs.Blocks.{IsBlock}
use Rattle.dot_blocks.specs.Heard.{HasFramed}

-- the block hasn't ended with these bytes, and the framer stands behind them
abbrev pub IsInBlock : Place → List ℕ → Type 0
IsInBlock framer heard = (lines : List (List ℕ)) × (begun : List ℕ) × HasFramed framer heard lines begun

-- they are a block
abbrev pub IsBlockOf : List ℕ → Type 0
IsBlockOf heard = (lines : List (List ℕ)) × IsBlock lines heard

-- what is kept of them: all, or nothing where there was no room
abbrev pub IsKept : Bool → List ℕ → List ℕ → Type 0
IsKept true kept heard = kept ≡ heard
IsKept false kept heard = kept ≡ []
