use Rattle.std.proofs.Common.{◌∙◌, arith}
use Rattle.par2_check.proofs.Zeros.{all_kept, zero_passed}
use Rattle.par2_check.proofs.bodies.without_zeros.Goals as goal

pub returns-then-bytes-end-ne0 : goal.returns-then-bytes-end-ne0
returns-then-bytes-end-ne0 c =
    all_kept c.args.bytes.now c.loop-end.end c.loop-end-test.true c.loop-end.invariant.inside c.if-bytes-end-ne0.true ∙ c.loop-end.invariant.same

pub loop-end-preserved : goal.loop-end-preserved
loop-end-preserved c = record {
  inside = omega (arith, c.loop-end.invariant.inside);
  same = zero_passed c.args.bytes.now c.loop-end.end c.loop-end-test.true c.loop-end.invariant.inside c.if-bytes-end-ne0.false ∙ c.loop-end.invariant.same;
}
