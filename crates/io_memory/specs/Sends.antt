-- How much of a piece a send of links in memory takes.
use Rattle.std.specs.Prelude.{ℕ, min, max, List, [], ◌∷◌, drop}
use Rattle.io_memory.specs.declared.takes.Takes.{Takes}

-- what is still to come of a list of takes
abbrev pub takes_left : Takes → List ℕ
takes_left takes = drop takes.place takes.most

-- How many bytes the next send takes of so many: at most as many as the list has in front, and at least one. Behind the list it takes all.
abbrev pub taken : List ℕ → ℕ → ℕ
taken [] len = len
taken (most ∷ takes) len = min len (max 1 most)
