use Rattle.std.proofs.Common.{◌≡◌, take, false}
use Rattle.io_traits.specs.Store.{is_created}
use Rattle.io_system.specs.FolderStore.{numbers_of}
use Rattle.io_system.proofs.folder_store.place_of.Given as goal

abbrev pub invariant-loop-i : goal.invariant-loop-i
invariant-loop-i l = is_created (numbers_of (take l.i l.names)) l.file ≡ false
