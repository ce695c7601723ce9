-- Both links stay live.
use Rattle.std.proofs.Common.{◌≡◌, true, Some}
use Rattle.std.specs.Prelude.{slice_get}
use Rattle.base_rows.proofs.turns.quiet_turns.Given as goal

abbrev pub invariant-loop-turn : goal.invariant-loop-turn
invariant-loop-turn g l = (slice_get (g.L.Links.live l.links) l.first ≡ Some true) × (slice_get (g.L.Links.live l.links) l.second ≡ Some true)
