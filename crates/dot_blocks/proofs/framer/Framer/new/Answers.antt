use Rattle.dot_blocks.proofs.Framing.{stands_before}
use Rattle.dot_blocks.proofs.framer.Framer.new.Goals as goal

pub returns : goal.returns
returns c = stands_before
