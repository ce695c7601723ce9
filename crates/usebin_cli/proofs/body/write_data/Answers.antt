use Rattle.std.proofs.Common.{arith}
use Rattle.usebin_cli.proofs.BodySteps.{so_far_more, data_front, data_whole}
use Rattle.usebin_cli.proofs.body.write_data.Goals as goal

pub loop-at-preserved : goal.loop-at-preserved
loop-at-preserved g c =
    so_far_more c.args.line c.args.content.now _ c.loop-at.at c.fill_piece-used.result.0 _ _ _ _ _ _ _ c.loop-at.invariant c.split_at.ensures.back c.fill_piece-used.ensures.inside c.fill_piece-used.ensures.text c.in-Ok.ensures

pub returns-in-Err : goal.returns-in-Err
returns-in-Err g c =
    data_front c.args.line c.args.content.now _ c.loop-at.at c.fill_piece-used.result.0 _ _ _ _ _ _ _ (omega arith) c.loop-at.invariant c.split_at.ensures.back c.fill_piece-used.ensures.text c.in-Err.ensures

pub returns : goal.returns
returns g c = data_whole c.args.line c.args.content.now c.loop-at.at _ c.loop-at.invariant (omega arith)
