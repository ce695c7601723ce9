use Rattle.std.proofs.Common.{length, ◌-◌, ◌≡◌, ◌≤◌}
use Rattle.std.specs.Prelude.{codes}
use Rattle.nzb_writer.specs.Nzb.{segment_count}
use Rattle.nzb_index.specs.NzbReading.{entry_item}
use Rattle.nzb_index.proofs.Children.{StillChildren}
use Rattle.nzb_index.proofs.entries.entries_end.Given as goal
use Rattle.limits.specs.declared.TheConstants.{MOST_SEGMENTS}

abbrev pub invariant-children : goal.invariant-children
invariant-children l = record {
  still : StillChildren entry_item (codes "nzb") l.text l.at l.end l.initial.index l.index;
  count : l.count ≡ segment_count l.index;
  few : l.count ≤ MOST_SEGMENTS;
}

abbrev pub decreases-children : goal.decreases-children
decreases-children l = length l.text - l.end
