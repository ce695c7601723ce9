use Rattle.std.proofs.Common.{length}
use Rattle.poster.proofs.WireLemmas.{DataSoFar}
use Rattle.poster.proofs.wire.push_data.Given as goal

abbrev pub invariant-loop-rest : goal.invariant-loop-rest
invariant-loop-rest l = DataSoFar l.line l.bytes l.fn.block l.rest l.block l.dots

abbrev pub decreases-loop-rest : goal.decreases-loop-rest
decreases-loop-rest l = length l.rest
