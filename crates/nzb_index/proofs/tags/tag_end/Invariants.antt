use Rattle.std.proofs.Common.{length, ◌-◌}
use Rattle.nzb_index.specs.Tags.{HasLater, checks_of}
use Rattle.nzb_index.proofs.TagEnds.{StillTag}
use Rattle.nzb_index.proofs.tags.tag_end.Given as goal

abbrev pub invariant-loop-end : goal.invariant-loop-end
invariant-loop-end l = StillTag (checks_of l.element) l.text l.at l.end l.scratch.names l.scratch.values × HasLater l.later l.scratch.names

abbrev pub decreases-loop-end : goal.decreases-loop-end
decreases-loop-end l = length l.text - l.end
