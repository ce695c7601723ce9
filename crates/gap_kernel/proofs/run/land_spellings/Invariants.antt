use Rattle.std.proofs.Common.{◌≤◌, ◌-◌, ◌+◌}
use Rattle.gap_kernel.specs.Landing.{LandsSpellings}
use Rattle.gap_kernel.proofs.run.land_spellings.Given as goal

abbrev pub invariant-loop-used : goal.invariant-loop-used
invariant-loop-used l = record {
  order : l.landed ≤ l.used;
  within : l.from + l.used ≤ l.end;
  landed : LandsSpellings l.initial.buf l.buf l.from l.to l.used l.landed;
}

abbrev pub decreases-loop-used : goal.decreases-loop-used
decreases-loop-used l = l.end - (l.from + l.used)
