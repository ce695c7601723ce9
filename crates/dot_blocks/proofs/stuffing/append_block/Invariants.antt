use Rattle.dot_blocks.proofs.Stuffed.{Appended}
use Rattle.dot_blocks.proofs.stuffing.append_block.Given as goal

abbrev pub invariant-loop-i : goal.invariant-loop-i
invariant-loop-i l = Appended l.lines l.i l.fn.out l.out
