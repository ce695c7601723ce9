use Rattle.std.proofs.Common.{◌≡◌, take, sum_by}
use Rattle.usebin_cli.specs.Check.{bytes_of}
use Rattle.usebin_cli.proofs.check.byte_count.Given as goal

abbrev pub invariant-loop-file : goal.invariant-loop-file
invariant-loop-file l = l.count ≡ sum_by bytes_of (take l.file-index l.files)
