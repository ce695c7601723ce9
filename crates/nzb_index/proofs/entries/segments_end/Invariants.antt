use Rattle.std.proofs.Common.{length, ◌-◌}
use Rattle.std.specs.Prelude.{codes}
use Rattle.nzb_index.specs.NzbReading.{segment_item}
use Rattle.nzb_index.proofs.Children.{StillChildren}
use Rattle.nzb_index.proofs.entries.segments_end.Given as goal

abbrev pub invariant-children : goal.invariant-children
invariant-children l = StillChildren (segment_item l.earlier) (codes "segments") l.text l.at l.end l.initial.segments l.segments

abbrev pub decreases-children : goal.decreases-children
decreases-children l = length l.text - l.end
