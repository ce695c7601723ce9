use Rattle.std.proofs.Common.{◌≡◌, ◌<◌, ℕ, length, Some}
use Rattle.std.specs.Prelude.{slice_get}
use Rattle.pipeline_core.specs.Searches.{waits_for}
use Rattle.pipeline_core.proofs.scans.servers_waited_for.Given as goal
use Rattle.limits.specs.declared.TheConstants.{MOST_SERVERS}

abbrev pub invariant-loop-other : goal.invariant-loop-other
invariant-loop-other l = record {
  end : l.other-end ≡ length l.levels;
  same : length l.waits ≡ MOST_SERVERS;
  done : (k : ℕ) → k < l.other → slice_get l.waits k ≡ Some (waits_for l.links l.levels l.server k);
}
