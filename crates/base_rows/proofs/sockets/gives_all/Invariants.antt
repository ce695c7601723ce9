-- The link stays live.
use Rattle.std.proofs.Common.{◌≡◌, true, Some}
use Rattle.std.specs.Prelude.{slice_get}
use Rattle.base_rows.proofs.sockets.gives_all.Given as goal

abbrev pub invariant-loop-turn : goal.invariant-loop-turn
invariant-loop-turn g l = slice_get (g.L.Links.live l.links) l.link ≡ Some true
