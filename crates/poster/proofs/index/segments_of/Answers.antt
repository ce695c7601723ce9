use Rattle.std.proofs.Common.{arith, rules}
use Rattle.poster.proofs.IndexLaws.{segments_pushed}
use Rattle.poster.proofs.index.segments_of.Goals as goal

pub loop-i-preserved : goal.loop-i-preserved
loop-i-preserved c =
    segments_pushed c.args.parts.now c.args.sent.now c.loop-i.i c.index-parts-i.result _ c.in_ok-clone.field-0 c.loop-i.segments c.push.new.self (omega arith) (omega arith) c.loop-i.invariant
    c.index-parts-i.is (search rules) c.in_ok-push.ensures.ok
