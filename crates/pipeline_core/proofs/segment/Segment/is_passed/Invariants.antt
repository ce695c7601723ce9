use Rattle.std.proofs.Common.{◌≡◌, ◌-◌}
use Rattle.pipeline_core.specs.Searches.{all_from, passes}
use Rattle.pipeline_core.proofs.segment.Segment.is_passed.Given as goal

abbrev pub invariant-loop-server : goal.invariant-loop-server
invariant-loop-server l = all_from (passes l.waits l.self.answered) l.server (l.servers - l.server) ≡ all_from (passes l.waits l.self.answered) 0 l.servers
