use Rattle.std.proofs.Common.{arith, ◌<◌, length}
use Rattle.nzb_writer.proofs.EscapedText.{escaping_whole, escaping_next}
use Rattle.nzb_writer.proofs.write.append_escaped.Goals as goal

pub returns-then-end-text-clause-ok : goal.returns-then-end-text-clause-ok
returns-then-end-text-clause-ok c =
    escaping_whole c.args.text.now c.args.out.now c.loop-at.out c.extend.new.self c.loop-at.at c.plain_end-end.result c.loop-at.invariant c.plain_end-end.ensures.end c.in_ok-extend.ensures.ok c.if-end-text.true

pub loop-at-preserved : goal.loop-at-preserved
loop-at-preserved c =
    let within = c.plain_end-end.ensures.within in
    let other = c.if-end-text.false in
    let more : c.plain_end-end.result < length c.args.text.now = omega (arith, within, other) in
    let a = c.in_ok-extend.ensures.ok in
    let b = c.in_ok-extend-2.ensures.ok in
    let r = c.reference.ensures in
    escaping_next c.args.text.now c.args.out.now c.loop-at.out c.extend-in-loop-at.new.self c.loop-at.at c.plain_end-end.result c.loop-at.invariant c.plain_end-end.ensures.end more (cc (a, b, r))
