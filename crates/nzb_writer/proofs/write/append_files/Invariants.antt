use Rattle.std.proofs.Common.{◌≡◌, ◌++◌, take}
use Rattle.std.specs.List.{flat_map}
use Rattle.nzb_writer.specs.Canonical.{file_text}
use Rattle.nzb_writer.proofs.write.append_files.Given as goal

abbrev pub invariant-loop-file : goal.invariant-loop-file
invariant-loop-file l = l.out ≡ l.initial.out ++ flat_map file_text (take l.file-index l.files)
