use Rattle.std.proofs.Common.{◌≡◌, ◌+◌}
use Rattle.range_assembler.specs.Bare.{first_gaps}
use Rattle.range_assembler.proofs.gap_list.fill.Given as goal

abbrev pub invariant-loop-file : goal.invariant-loop-file
invariant-loop-file l = (l.gaps.0 ≡ first_gaps l.segments 0 l.file) × (l.gaps.1 ≡ l.segments + l.files)
