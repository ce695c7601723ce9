use Rattle.std.proofs.Common.{◌≡◌, ◌<◌, ◌≤◌, ℕ}
use Rattle.std.specs.Prelude.{slice_get}
use Rattle.pipeline_core.specs.Searches.{forgotten_at}
use Rattle.pipeline_core.proofs.scans.forget.Given as goal

abbrev pub invariant-loop-holder : goal.invariant-loop-holder
invariant-loop-holder l = record {
  done : (k : ℕ) → k < l.holder-index → slice_get l.holders k ≡ forgotten_at l.link (slice_get l.fn.holders k);
  rest : (k : ℕ) → l.holder-index ≤ k → slice_get l.holders k ≡ slice_get l.fn.holders k;
}
