use Rattle.std.proofs.Common.{◌≡◌, ◌-◌, Some}
use Rattle.pipeline_core.specs.Searches.{all_from, is_done_with}
use Rattle.pipeline_core.proofs.scans.is_spent.Given as goal

abbrev pub invariant-loop-server : goal.invariant-loop-server
invariant-loop-server l = all_from (is_done_with l.links (Some l.segment)) l.server (l.servers - l.server) ≡ all_from (is_done_with l.links (Some l.segment)) 0 l.servers
