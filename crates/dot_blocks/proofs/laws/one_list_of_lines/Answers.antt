use Rattle.std.proofs.Common.{[], refl}
use Rattle.dot_blocks.proofs.BlockLaws.{blocks_once}
use Rattle.dot_blocks.proofs.laws.one_list_of_lines.Goals as goal

pub returns : goal.returns
returns c = λ a b block is other. let same = blocks_once a b block block [] [] is other refl in same.0
