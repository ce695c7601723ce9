use Rattle.std.proofs.Common.{◌≡◌, take}
use Rattle.std.specs.List.{filter_map}
use Rattle.par2_check.specs.Set.{file_of}
use Rattle.par2_check.proofs.set.described.Given as goal

abbrev pub invariant-loop-id : goal.invariant-loop-id
invariant-loop-id l = l.files ≡ filter_map (file_of l.slice l.set l.packets) (take l.id-index l.ids)
