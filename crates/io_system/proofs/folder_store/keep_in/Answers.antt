use Rattle.std.proofs.Common.{refl}
use Rattle.io_system.proofs.FolderNames.{replaced}
use Rattle.io_system.proofs.folder_store.keep_in.Goals as goal

pub returns : goal.returns
returns g c = rw c.in-Ok.ensures.items (replaced c.args.names.now.items c.reserve.new.self.items c.forget.new.names.items c.args.file (record { number = c.args.file; name = c.in_ok-name.name }) c.in_ok-reserve.ensures.items c.forget.ensures.gone refl)
