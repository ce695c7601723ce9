use Rattle.range_assembler.proofs.SetLaws.{whole_or_not}
use Rattle.range_assembler.proofs.assembler.Assembler.complete.Goals as goal

pub returns-clause-whole : goal.returns-clause-whole
returns-clause-whole c = whole_or_not c.args.file c.args.self.now c.is_whole.result c.is_whole.ensures
