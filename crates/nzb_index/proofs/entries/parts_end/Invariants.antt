use Rattle.std.proofs.Common.{length, ◌-◌}
use Rattle.std.specs.Prelude.{codes}
use Rattle.nzb_index.specs.NzbReading.{file_part}
use Rattle.nzb_index.proofs.Children.{StillChildren}
use Rattle.nzb_index.proofs.entries.parts_end.Given as goal

abbrev pub invariant-children : goal.invariant-children
invariant-children l = StillChildren (file_part l.earlier) (codes "file") l.text l.at l.end l.initial.file l.file

abbrev pub decreases-children : goal.decreases-children
decreases-children l = length l.text - l.end
