use Rattle.std.proofs.Common.{rules}
use Rattle.std.proofs.lemmas.Fn.{filter_same}
use Rattle.io_system.proofs.FolderNames.{forgotten, others}
use Rattle.io_system.proofs.folder_store.forget.Goals as goal

pub returns-clause-gone : goal.returns-clause-gone
returns-clause-gone c = forgotten c.args.file _ _ (filter_same _ (others c.args.file) _ (λ x b q k. search rules) _ _ c.retain.ensures.filtered)
