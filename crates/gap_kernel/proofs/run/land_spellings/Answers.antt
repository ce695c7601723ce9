use Rattle.std.proofs.Common.{arith}
use Rattle.gap_kernel.proofs.Spellings.{lands_none, lands_more}
use Rattle.gap_kernel.proofs.run.land_spellings.Goals as goal

pub loop-used-init : goal.loop-used-init
loop-used-init c = record { order = omega arith; within = omega arith; landed = lands_none c.args.buf.now c.args.from c.args.to }

pub loop-used-preserved : goal.loop-used-preserved
loop-used-preserved c =
    let l = c.loop-used in
    let b = c.land_block-block in
    let o = l.invariant.order in
    record {
      order = omega (arith, b.ensures.within.0);
      within = omega (arith, b.ensures.within.1);
      landed = lands_more c.args.buf.now l.buf b.new.buf c.args.from c.args.to l.used l.landed b.result.used b.result.landed (omega arith) l.invariant.landed b.ensures.landed;
    }

pub returns-then-block-lt-BLOCK-clause-landed : goal.returns-then-block-lt-BLOCK-clause-landed
returns-then-block-lt-BLOCK-clause-landed c =
    let l = c.loop-used in
    let b = c.land_block-block in
    let o = l.invariant.order in
    lands_more c.args.buf.now l.buf b.new.buf c.args.from c.args.to l.used l.landed b.result.used b.result.landed (omega arith) l.invariant.landed b.ensures.landed

pub returns-clause-landed : goal.returns-clause-landed
returns-clause-landed c =
    let l = c.loop-used in
    let r = c.land_plain-rest in
    let o = l.invariant.order in
    lands_more c.args.buf.now l.buf r.new.buf c.args.from c.args.to l.used l.landed r.result.used r.result.landed (omega arith) l.invariant.landed r.ensures.landed
