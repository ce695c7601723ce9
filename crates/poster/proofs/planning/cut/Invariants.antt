use Rattle.std.proofs.Common.{◌≡◌}
use Rattle.std.specs.Prelude.{map}
use Rattle.std.specs.List.{range_with_len}
use Rattle.poster.specs.Plan.{planned_part}
use Rattle.poster.proofs.planning.cut.Given as goal

abbrev pub invariant-loop-before : goal.invariant-loop-before
invariant-loop-before l = l.parts ≡ map (planned_part l.settings l.size) (range_with_len 1 l.before)
