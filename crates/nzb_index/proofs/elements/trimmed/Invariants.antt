use Rattle.nzb_index.proofs.TrimmedText.{StillTrimming}
use Rattle.nzb_index.proofs.elements.trimmed.Given as goal

abbrev pub invariant-loop-end : goal.invariant-loop-end
invariant-loop-end l = StillTrimming l.bytes l.start l.end

abbrev pub decreases-loop-end : goal.decreases-loop-end
decreases-loop-end l = l.end
