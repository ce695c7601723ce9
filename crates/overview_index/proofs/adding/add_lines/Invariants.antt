use Rattle.std.proofs.Common.{ℕ, List, ◌++◌, take}
use Rattle.overview_index.specs.Asking.{Tallies}
use Rattle.overview_index.proofs.adding.add_lines.Given as goal

-- the lines before this one were added
abbrev pub invariant-loop-i : goal.invariant-loop-i
invariant-loop-i l = (group : List ℕ) (before : List (List ℕ)) → Tallies l.initial.desk group before → Tallies l.desk group (before ++ take l.i l.lines)
