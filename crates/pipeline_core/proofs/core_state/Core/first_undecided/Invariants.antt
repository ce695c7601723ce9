use Rattle.std.proofs.Common.{◌≡◌, ◌<◌, ℕ, true, length}
use Rattle.pipeline_core.specs.Pipeline.{is_decided, segment_state}
use Rattle.pipeline_core.proofs.core_state.Core.first_undecided.Given as goal

abbrev pub invariant-loop-segment : goal.invariant-loop-segment
invariant-loop-segment l = record {
  end : l.segments ≡ length l.self.segments;
  all : (s : ℕ) → s < l.segment → is_decided (segment_state l.self s) ≡ true;
}
