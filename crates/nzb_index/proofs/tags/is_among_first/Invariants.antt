use Rattle.std.proofs.Common.{◌≤◌}
use Rattle.nzb_index.specs.declared.tags.TheConstants.{FEW_NAMES}
use Rattle.nzb_index.proofs.TagEnds.{place_on}
use Rattle.nzb_index.proofs.tags.is_among_first.Given as goal

abbrev pub invariant-loop-at : goal.invariant-loop-at
invariant-loop-at l = place_on l.name l.names l.at × (l.at ≤ FEW_NAMES)
