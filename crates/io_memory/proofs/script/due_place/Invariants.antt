use Rattle.std.proofs.Common.{◌≡◌, ◌-◌, length}
use Rattle.std.specs.Prelude.{drop}
use Rattle.io_memory.specs.Script.{cut, due, rest_at}
use Rattle.io_memory.proofs.script.due_place.Given as goal

abbrev pub invariant-loop-turn : goal.invariant-loop-turn
invariant-loop-turn l = due (cut l.given (drop l.turn l.script)) ≡ due (rest_at l.fn.place l.script)

abbrev pub decreases-loop-turn : goal.decreases-loop-turn
decreases-loop-turn l = length l.script - l.turn
