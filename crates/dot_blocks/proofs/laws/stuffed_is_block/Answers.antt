use Rattle.std.proofs.lemmas.List.Elements.{recursion_from_All}
use Rattle.dot_blocks.specs.Blocks.{HoldsNoLineEnd}
use Rattle.dot_blocks.proofs.Stuffed.{is_block}
use Rattle.dot_blocks.proofs.laws.stuffed_is_block.Goals as goal

pub returns : goal.returns
returns c = λ lines none. is_block lines (recursion_from_All HoldsNoLineEnd lines none)
