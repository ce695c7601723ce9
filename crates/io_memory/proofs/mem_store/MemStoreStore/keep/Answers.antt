use Rattle.std.proofs.Common.{rules}
use Rattle.io_memory.proofs.FileLaws.{kept}
use Rattle.io_memory.proofs.mem_store.MemStoreStore.keep.Goals as goal

pub returns-clause-created : goal.returns-clause-created
returns-clause-created c = kept c.args.self.now.files.items.items c.args.file c.args.name.now (c.is_named.ensures.yes (search rules))
