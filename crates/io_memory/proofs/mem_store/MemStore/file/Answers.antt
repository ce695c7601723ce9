use Rattle.io_memory.proofs.FileLaws.{shown}
use Rattle.io_memory.proofs.mem_store.MemStore.file.Goals as goal

pub returns-clause-there : goal.returns-clause-there
returns-clause-there c = shown c.args.self.now.files.items.items c.args.file _ c.bytes.ensures.held
