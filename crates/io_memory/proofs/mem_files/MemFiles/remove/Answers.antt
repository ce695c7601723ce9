use Rattle.std.proofs.Common.{rules}
use Rattle.std.proofs.lemmas.Fn.{filter_same}
use Rattle.io_memory.proofs.FileLaws.{removed, removed_created, others}
use Rattle.io_memory.proofs.mem_files.MemFiles.remove.Goals as goal

pub returns-clause-told : goal.returns-clause-told
returns-clause-told c = removed c.args.file _ _ (filter_same _ (others c.args.file) _ (λ x b q k. search rules) _ _ c.retain.ensures.filtered)

pub returns-clause-created : goal.returns-clause-created
returns-clause-created c = removed_created c.args.file _ _ (filter_same _ (others c.args.file) _ (λ x b q k. search rules) _ _ c.retain.ensures.filtered)
