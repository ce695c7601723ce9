use Rattle.io_system.proofs.FolderNames.{added}
use Rattle.io_system.proofs.folder_store.note.Goals as goal

pub returns-clause-ok : goal.returns-clause-ok
returns-clause-ok c = rw c.in_ok-push.ensures.items (λ k. added _ k (record { number = c.args.file; name = c.in_ok-name.name }))
