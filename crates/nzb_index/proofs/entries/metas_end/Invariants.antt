use Rattle.std.proofs.Common.{length, ◌-◌}
use Rattle.std.specs.Prelude.{codes}
use Rattle.nzb_index.specs.NzbReading.{meta_item}
use Rattle.nzb_index.proofs.Children.{StillChildren}
use Rattle.nzb_index.proofs.entries.metas_end.Given as goal

abbrev pub invariant-children : goal.invariant-children
invariant-children l = StillChildren meta_item (codes "head") l.text l.at l.end l.initial.metas l.metas

abbrev pub decreases-children : goal.decreases-children
decreases-children l = length l.text - l.end
