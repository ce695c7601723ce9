use Rattle.std.proofs.Common.{◌≡◌, []}
use Rattle.poster.specs.Said.{outcomes_of}
use Rattle.poster.proofs.session.unsent.Given as goal

abbrev pub invariant-loop : goal.invariant-loop
invariant-loop l = l.sent ≡ outcomes_of l.counter [] []
