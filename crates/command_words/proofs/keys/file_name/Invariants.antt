use Rattle.std.proofs.Common.{◌≡◌, length}
use Rattle.command_words.specs.Keys.{file_name, name_after}
use Rattle.command_words.proofs.keys.file_name.Given as goal

abbrev pub invariant-loop-rest : goal.invariant-loop-rest
invariant-loop-rest l = name_after l.name l.rest ≡ file_name l.path

abbrev pub decreases-loop-rest : goal.decreases-loop-rest
decreases-loop-rest l = length l.rest
