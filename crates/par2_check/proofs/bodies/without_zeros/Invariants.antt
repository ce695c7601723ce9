use Rattle.std.proofs.Common.{◌≡◌, ◌≤◌, length, take}
use Rattle.par2_check.specs.Bodies.{without_zeros}
use Rattle.par2_check.proofs.bodies.without_zeros.Given as goal

abbrev pub invariant-loop-end : goal.invariant-loop-end
invariant-loop-end l = record { inside : l.end ≤ length l.bytes; same : without_zeros (take l.end l.bytes) ≡ without_zeros l.bytes }

abbrev pub decreases-loop-end : goal.decreases-loop-end
decreases-loop-end l = l.end
