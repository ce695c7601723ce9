use Rattle.std.proofs.Common.{◌≡◌, ◌≤◌, length}
use Rattle.std.specs.Prelude.{All}
use Rattle.post_rows.proofs.plans.outcomes.Given as goal
use Rattle.limits.specs.declared.TheConstants.{MOST_OCTETS}

abbrev pub invariant-loop-i : goal.invariant-loop-i
invariant-loop-i l = (length l.sent ≡ l.i) × All (λ s. s.bytes ≤ MOST_OCTETS) l.sent
