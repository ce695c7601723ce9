use Rattle.std.proofs.Common.{◌≤◌, ◌-◌, ◌++◌, List, ℕ}
use Rattle.std.specs.Prelude.{replicate}
use Rattle.md5.specs.Md5.{Holds}
use Rattle.par2_check.proofs.slices.add_zeros.Given as goal

abbrev pub invariant-loop-left : goal.invariant-loop-left
invariant-loop-left l = record {
  most : l.left ≤ l.count;
  holds : (bytes : List ℕ) → Holds l.initial.part bytes → Holds l.part (bytes ++ replicate (l.count - l.left) 0);
}

abbrev pub decreases-loop-left : goal.decreases-loop-left
decreases-loop-left l = l.left
