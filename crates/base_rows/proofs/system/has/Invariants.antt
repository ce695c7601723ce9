-- The file stays the current one.
use Rattle.std.proofs.Common.{◌≡◌, Some}
use Rattle.base_rows.proofs.system.has.Given as goal

abbrev pub invariant-loop-row : goal.invariant-loop-row
invariant-loop-row g l = g.I.Input.current l.input ≡ Some l.size
