use Rattle.std.proofs.Common.{arith}
use Rattle.yenc_lines.proofs.TrimLaws.{space_behind, other_behind}
use Rattle.yenc_lines.proofs.trim.spaces_behind.Goals as goal

pub returns-then-text-count-ne32-clause-value : goal.returns-then-text-count-ne32-clause-value
returns-then-text-count-ne32-clause-value c =
    omega (arith, c.loop-count.invariant.behind, other_behind c.args.text.now c.loop-count.count c.loop-count-test.true c.if-text-count-ne32.true)

pub loop-count-preserved : goal.loop-count-preserved
loop-count-preserved c = record {
  inside = omega arith;
  behind = omega (arith, c.loop-count.invariant.behind, space_behind c.args.text.now c.loop-count.count c.loop-count-test.true c.if-text-count-ne32.false);
}
