use Rattle.gap_kernel.proofs.Blocks.{lands_whole, lands_escape}
use Rattle.gap_kernel.proofs.block.land_closed.Goals as goal

pub returns-then-gap-eq32-clause-landed : goal.returns-then-gap-eq32-clause-landed
returns-then-gap-eq32-clause-landed c =
    lands_whole c.args.buf.now c.closed.result c.args.from c.args.to c.args.gap c.requires.ordered c.requires.room c.are_bytes.ensures c.closed.ensures.long c.closed.ensures.each c.requires.gap c.if-gap-eq32.true

pub returns-else-gap-eq32-clause-landed : goal.returns-else-gap-eq32-clause-landed
returns-else-gap-eq32-clause-landed c =
    lands_escape c.args.buf.now c.closed.result c.args.from c.args.to c.args.gap c.requires.ordered c.requires.room c.are_bytes.ensures c.closed.ensures.long c.closed.ensures.each c.requires.gap c.if-gap-eq32.false
