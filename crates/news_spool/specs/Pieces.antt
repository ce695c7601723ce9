-- How much a receive on links in memory may give.
use Rattle.std.specs.Prelude.{ℕ, ◌+◌, ◌-◌, min, Bool, false, ◌==◌, nat_lt, if◌then◌else◌, List, slice_get, Option, Some, None}
use Rattle.std.specs.Option.{option_map}

-- the bound of the receive whose turn it is, where there are bounds
abbrev pub piece_at : List ℕ → ℕ → Option ℕ
piece_at pieces turn = slice_get pieces turn

-- the turn behind that, over so many bounds; behind the last comes the first
abbrev pub next_turn : ℕ → ℕ → ℕ
next_turn count turn = if nat_lt (turn + 1) count then turn + 1 else 0

-- at most so many, where there is a bound
abbrev pub bounded : Option ℕ → ℕ → ℕ
bounded None n = n
bounded (Some most) n = min most n

-- a bound is used up
abbrev pub is_spent : Option ℕ → Bool
is_spent None = false
is_spent (Some n) = n == 0

-- what is left of a bound after so many bytes
abbrev pub left_of : Option ℕ → ℕ → Option ℕ
left_of bound n = option_map (λ most. most - n) bound
