use Rattle.std.proofs.Common.{◌≡◌, ◌++◌, replicate, None}
use Rattle.range_assembler.proofs.scans.add_sizes.Given as goal

abbrev pub invariant-loop-done : goal.invariant-loop-done
invariant-loop-done l = l.sizes.items ≡ l.fn.sizes.items ++ replicate l.done None
