use Rattle.std.proofs.Common.{◌≡◌, ◌-◌}
use Rattle.pipeline_core.specs.Searches.{first_from}
use Rattle.pipeline_core.specs.Pipeline.{can_be_asked}
use Rattle.pipeline_core.proofs.core_state.Core.first_between.Given as goal

abbrev pub invariant-loop-segment : goal.invariant-loop-segment
invariant-loop-segment l = first_from (can_be_asked l.self l.server) l.segment (l.end - l.segment) ≡ first_from (can_be_asked l.self l.server) l.start (l.end - l.start)
