use Rattle.std.proofs.lemmas.Result.{err_from_is_err_and}
use Rattle.dot_blocks.proofs.Stuffed.{appended_line, front_of}
use Rattle.dot_blocks.proofs.stuffing.append_block.Goals as goal

pub returns-in_err-append_line-clause-err : goal.returns-in_err-append_line-clause-err
returns-in_err-append_line-clause-err c =
    let p = err_from_is_err_and c.from_residual.result c.from_residual.ensures.1 in
    rw p.1 (front_of c.args.lines.now c.loop-i.i c.args.out.now c.loop-i.out c.append_line.new.out c.loop-i.invariant c.in_err-append_line.ensures.err)

pub loop-i-preserved : goal.loop-i-preserved
loop-i-preserved c =
    appended_line c.args.lines.now _ c.args.out.now c.loop-i.out c.append_line.new.out c.loop-i.i c.line.ensures c.in_ok-append_line.ensures.ok c.loop-i.invariant
