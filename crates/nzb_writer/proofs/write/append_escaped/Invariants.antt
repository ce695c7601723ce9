use Rattle.std.proofs.Common.{length, ◌-◌}
use Rattle.nzb_writer.proofs.EscapedText.{StillEscaping}
use Rattle.nzb_writer.proofs.write.append_escaped.Given as goal

abbrev pub invariant-loop-at : goal.invariant-loop-at
invariant-loop-at l = StillEscaping l.text l.initial.out l.out l.at

abbrev pub decreases-loop-at : goal.decreases-loop-at
decreases-loop-at l = length l.text - l.at
