use Rattle.std.proofs.Common.{◌≤◌, List, ℕ}
use Rattle.par2_check.specs.Checking.{IsCutShort, StandsFor}
use Rattle.par2_check.specs.Damage.{is_damaged}
use Rattle.par2_check.specs.Runs.{AreRuns}
use Rattle.par2_check.proofs.slices.Slices.lose.Given as goal

abbrev pub invariant-loop-i : goal.invariant-loop-i
invariant-loop-i l = record {
  low : l.initial.self.closed ≤ l.i;
  runs : (slice : ℕ) (content : List ℕ) → IsCutShort slice l.file content l.initial.self → StandsFor slice l.file content l.initial.self → AreRuns (is_damaged slice l.file content) l.i l.self.damaged;
}
