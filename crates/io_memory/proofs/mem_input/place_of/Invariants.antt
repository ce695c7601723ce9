use Rattle.std.proofs.Common.{◌≡◌, drop}
use Rattle.io_traits.specs.Input.{file_of}
use Rattle.io_memory.proofs.mem_input.place_of.Given as goal

abbrev pub invariant-loop-i : goal.invariant-loop-i
invariant-loop-i l = file_of l.name (drop l.i l.files) ≡ file_of l.name l.files
