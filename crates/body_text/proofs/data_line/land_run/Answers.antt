use Rattle.std.proofs.Common.{arith}
use Rattle.body_text.proofs.Landed.{run_is_plain}
use Rattle.body_text.proofs.data_line.land_run.Goals as goal

pub returns-clause-inside : goal.returns-clause-inside
returns-clause-inside c =
    let run = run_is_plain c.args.buf.now c.args.at c.run_end.result c.land.result (omega (arith, c.run_end.ensures.order)) (omega (arith, c.run_end.ensures.order, c.requires)) c.land.ensures.count in
    omega (arith, run.0, c.run_end.ensures.order)

pub returns-clause-left : goal.returns-clause-left
returns-clause-left c =
    let run = run_is_plain c.args.buf.now c.args.at c.run_end.result c.land.result (omega (arith, c.run_end.ensures.order)) (omega (arith, c.run_end.ensures.order, c.requires)) c.land.ensures.count in
    omega (arith, run.0, c.run_end.ensures.room)

pub returns-clause-plain : goal.returns-clause-plain
returns-clause-plain c =
    (run_is_plain c.args.buf.now c.args.at c.run_end.result c.land.result (omega (arith, c.run_end.ensures.order)) (omega (arith, c.run_end.ensures.order, c.requires)) c.land.ensures.count).1
