use Rattle.std.proofs.Common.{rules}
use Rattle.io_memory.proofs.FileLaws.{first_holds}
use Rattle.io_memory.proofs.mem_files.MemFiles.is_named.Goals as goal

pub returns-in-Some-clause-yes : goal.returns-in-Some-clause-yes
returns-in-Some-clause-yes c =
    let holds = first_holds c.args.self.now.items.items c.args.file c.in-Some.place c.index.result.now c.in-Some.ensures.found c.index.ensures in
    rw holds (search rules)

pub returns-in-Some-clause-all : goal.returns-in-Some-clause-all
returns-in-Some-clause-all c =
    let holds = first_holds c.args.self.now.items.items c.args.file c.in-Some.place c.index.result.now c.in-Some.ensures.found c.index.ensures in
    rw holds (search rules)
