use Rattle.dot_blocks.proofs.Reading.{block_or_heard}
use Rattle.dot_blocks.proofs.laws.block_or_heard.Goals as goal

pub returns : goal.returns
returns c = λ bytes. block_or_heard bytes
