use Rattle.std.proofs.Common.{◌∙◌, ap}
use Rattle.dot_blocks.specs.BlockReading.{front_block}
use Rattle.dot_blocks.proofs.FrontBlock.{block_read, block_found}
use Rattle.dot_blocks.proofs.laws.each_block_is_read.Goals as goal

pub returns : goal.returns
returns c = λ bytes lines rest. (
  λ read. block_found bytes lines rest read,
  λ found. ap front_block found.2 ∙ block_read lines found.0 rest found.1,
)
