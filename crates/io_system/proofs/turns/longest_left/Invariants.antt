-- The place is one of the links that wait.
use Rattle.std.proofs.Common.{◌<◌, length}
use Rattle.io_system.proofs.turns.longest_left.Given as goal

abbrev pub invariant-loop-place : goal.invariant-loop-place
invariant-loop-place l = l.first < length l.waiting
