use Rattle.std.proofs.lemmas.List.Elements.{recursion_from_All}
use Rattle.dot_blocks.specs.Blocks.{HoldsNoLineEnd}
use Rattle.dot_blocks.proofs.Stuffed.{is_block}
use Rattle.dot_blocks.proofs.stuffing.stuff.Goals as goal

pub returns-in-Ok-clause-block : goal.returns-in-Ok-clause-block
returns-in-Ok-clause-block c = is_block c.args.lines.now (recursion_from_All HoldsNoLineEnd c.args.lines.now c.requires)

pub returns-in-Err-clause-block : goal.returns-in-Err-clause-block
returns-in-Err-clause-block c = is_block c.args.lines.now (recursion_from_All HoldsNoLineEnd c.args.lines.now c.requires)
