use Rattle.std.proofs.Common.{[], ◌++◌, sym}
use Rattle.std.proofs.lemmas.List.{append-nil}
use Rattle.dot_blocks.proofs.BlockLaws.{blocks_once}
use Rattle.dot_blocks.proofs.laws.no_block_begins_another.Goals as goal

pub returns : goal.returns
returns c = λ a b block rest is other.
    let same = blocks_once a b block (block ++ rest) rest [] is other (sym (append-nil (block ++ rest))) in same.1
