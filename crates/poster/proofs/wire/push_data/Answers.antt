use Rattle.std.proofs.Common.{◌≡◌, arith, length}
use Rattle.poster.proofs.WireLemmas.{data_end, data_more, data_none}
use Rattle.poster.proofs.wire.push_data.Goals as goal

pub loop-rest-init : goal.loop-rest-init
loop-rest-init c = data_none c.args.line c.args.bytes.now c.args.block.now

pub loop-rest-preserved : goal.loop-rest-preserved
loop-rest-preserved c =
    data_more c.args.line c.args.bytes.now c.args.block.now c.loop-rest.rest.now _ c.loop-rest.block _ c.fill_line-used.result.0 _ c.loop-rest.dots c.in_ok-dots.field-0 c.loop-rest.invariant c.fill_line-used.ensures.line
    c.in_ok-dots.ensures.line c.in_ok-dots.ensures.few c.fill_line-used.ensures.some c.fill_line-used.ensures.inside c.split_at.ensures.back

pub returns-clause-data : goal.returns-clause-data
returns-clause-data c =
    let none : length c.loop-rest.rest.now ≡ 0 = grind arith in
    data_end c.args.line c.args.bytes.now c.args.block.now c.loop-rest.rest.now c.loop-rest.block c.loop-rest.dots c.loop-rest.invariant none
