use Rattle.nzb_index.proofs.IndexEnds.{too_long, answers}
use Rattle.nzb_index.proofs.read.read_text.Goals as goal

pub returns-then-text : goal.returns-then-text
returns-then-text c = too_long c.args.text.now c.if-text.true

pub returns : goal.returns
returns c = answers c.args.text.now c.read_index.result c.if-text.false c.read_index.ensures
