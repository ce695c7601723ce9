-- The first file stays created.
use Rattle.std.proofs.Common.{◌≡◌, true}
use Rattle.io_traits.specs.Store.{is_created}
use Rattle.store_rows.proofs.calls.comes_back.Given as goal

abbrev pub invariant-loop-number : goal.invariant-loop-number
invariant-loop-number g l = is_created (g.S.Store.created l.store) 0 ≡ true
