use Rattle.std.proofs.Common.{arith}
use Rattle.poster.proofs.WireLemmas.{one_more}
use Rattle.poster.proofs.wire.push_lines.Goals as goal

pub loop-i-preserved : goal.loop-i-preserved
loop-i-preserved c = record {
  sends = one_more c.args.lines.now c.loop-i.i c.line.result.now c.args.block.now c.loop-i.block c.push_line.new.block c.loop-i.dots c.in_ok-dots.field-0 c.line.ensures c.loop-i.invariant.sends c.in_ok-dots.ensures.line;
  few = omega (arith, c.loop-i.invariant.few, c.in_ok-dots.ensures.few);
}
