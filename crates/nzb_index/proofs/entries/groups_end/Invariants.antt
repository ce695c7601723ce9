use Rattle.std.proofs.Common.{length, ◌-◌}
use Rattle.std.specs.Prelude.{codes}
use Rattle.nzb_index.specs.NzbReading.{group_item}
use Rattle.nzb_index.proofs.Children.{StillChildren}
use Rattle.nzb_index.proofs.entries.groups_end.Given as goal

abbrev pub invariant-children : goal.invariant-children
invariant-children l = StillChildren group_item (codes "groups") l.text l.at l.end l.initial.groups l.groups

abbrev pub decreases-children : goal.decreases-children
decreases-children l = length l.text - l.end
