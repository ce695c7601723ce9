use Rattle.std.proofs.Common.{◌≡◌, drop}
use Rattle.range_assembler.specs.Accepted.{kth_from}
use Rattle.range_assembler.proofs.accepted.kth_from.Given as goal

abbrev pub invariant-loop-at : goal.invariant-loop-at
invariant-loop-at l = kth_from l.file l.entries (drop l.at l.order.0) l.left ≡ kth_from l.file l.entries (drop l.place l.order.0) l.k
