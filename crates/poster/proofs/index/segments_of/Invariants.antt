use Rattle.std.proofs.Common.{◌≡◌, take}
use Rattle.poster.specs.Index.{segments_from}
use Rattle.poster.proofs.index.segments_of.Given as goal

abbrev pub invariant-loop-i : goal.invariant-loop-i
invariant-loop-i l = l.segments ≡ segments_from 1 (take l.i l.parts) (take l.i l.sent)
