use Rattle.std.proofs.Common.{sym, subst}
use Rattle.fused_decoder.specs.RangeSoFar.{IsRangeSoFar}
use Rattle.fused_decoder.proofs.KnownRange.{range_told}
use Rattle.fused_decoder.proofs.state.Fused.range.Goals as goal

pub returns : goal.returns
returns c = λ heard a n s. subst (IsRangeSoFar heard) (sym c.range_in.ensures) (range_told c.args.self.now heard a n s)
