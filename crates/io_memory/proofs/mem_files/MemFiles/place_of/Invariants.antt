use Rattle.std.proofs.Common.{◌≡◌, take, None}
use Rattle.io_memory.specs.MemFiles.{shelf_of}
use Rattle.io_memory.proofs.mem_files.MemFiles.place_of.Given as goal

abbrev pub invariant-loop-i : goal.invariant-loop-i
invariant-loop-i l = shelf_of (take l.i l.self.items.items) l.file ≡ None
