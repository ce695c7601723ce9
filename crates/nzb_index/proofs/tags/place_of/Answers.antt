use Rattle.std.proofs.Common.{sym, ◌∙◌, ◌≤◌, length, arith}
use Rattle.nzb_index.proofs.TagEnds.{place_starts, place_here, place_further, place_nowhere}
use Rattle.nzb_index.proofs.tags.place_of.Goals as goal

pub loop-at-init : goal.loop-at-init
loop-at-init c = place_starts c.args.name.now c.args.names.now

pub returns-then-eq : goal.returns-then-eq
returns-then-eq c = sym (place_here c.args.name.now c.line.result.now c.args.names.now c.loop-at.at c.loop-at.invariant c.line.ensures (sym c.eq.ensures ∙ c.if-eq.true))

pub loop-at-preserved : goal.loop-at-preserved
loop-at-preserved c = place_further c.args.name.now c.line.result.now c.args.names.now c.loop-at.at c.loop-at.invariant c.line.ensures (sym c.eq.ensures ∙ c.if-eq.false)

pub returns : goal.returns
returns c =
    let over = c.loop-at-test.false in
    let count = c.len-at-end.ensures.count in
    let all : length c.args.names.now ≤ c.loop-at.at = omega (arith, over, count) in
    sym (place_nowhere c.args.name.now c.args.names.now c.loop-at.at c.loop-at.invariant all)
