use Rattle.std.proofs.Common.{◌≡◌, drop}
use Rattle.yenc_lines.specs.Gathered.{missing_in}
use Rattle.yenc_lines.proofs.read.missing.Given as goal

abbrev pub invariant-loop-key : goal.invariant-loop-key
invariant-loop-key l = missing_in (drop l.key-index l.required) l.numbers ≡ missing_in l.required l.numbers
