use Rattle.std.proofs.Common.{◌+◌, arith}
use Rattle.server_logins.proofs.LoginLaws.{line_kept, line_refused}
use Rattle.server_logins.proofs.logins.read_lines.Goals as goal

pub returns-in-Err : goal.returns-in-Err
returns-in-Err c =
    line_refused c.args.lines.now c.loop-at.at c.loop-at.logins c.add_line.new.self c.line.result.now c.in-Err.error (omega (arith, c.loop-at-test.true, c.len-at-end.ensures.count)) c.loop-at.invariant c.line.ensures
    c.in-Err.ensures

pub loop-at-preserved : goal.loop-at-preserved
loop-at-preserved c =
    line_kept c.args.lines.now c.loop-at.at c.loop-at.logins c.add_line.new.self c.line.result.now (c.loop-at.at + 1) (omega (arith, c.loop-at-test.true, c.len-at-end.ensures.count)) c.loop-at.invariant c.line.ensures
    c.in_default.ensures
