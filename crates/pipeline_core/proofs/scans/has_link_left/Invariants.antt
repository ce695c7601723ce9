use Rattle.std.proofs.Common.{◌≡◌, drop}
use Rattle.pipeline_core.specs.Links.{has_link_left}
use Rattle.pipeline_core.proofs.scans.has_link_left.Given as goal

abbrev pub invariant-loop-link : goal.invariant-loop-link
invariant-loop-link l = has_link_left (drop l.link-index l.links) l.server ≡ has_link_left l.links l.server
