use Rattle.std.proofs.Common.{ap, Some}
use Rattle.io_memory.proofs.FileLaws.{first_holds}
use Rattle.io_memory.proofs.mem_files.MemFiles.bytes.Goals as goal

pub returns-in-Some : goal.returns-in-Some
returns-in-Some c =
    let holds = first_holds c.args.self.now.items.items c.args.file c.in-Some.place c.index.result.now c.in-Some.ensures.found c.index.ensures in
    record { held = rw holds (ap (λ b. Some b) c.deref.ensures.value) }
