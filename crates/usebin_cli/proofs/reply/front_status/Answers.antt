use Rattle.std.proofs.Common.{take}
use Rattle.usebin_cli.proofs.ReplyLemmas.{no_status, split_at}
use Rattle.usebin_cli.proofs.reply.front_status.Goals as goal

pub returns-in-Err-clause-status : goal.returns-in-Err-clause-status
returns-in-Err-clause-status c =
    no_status c.args.text.now (take c.in_ok-len.len c.args.text.now) _ c.in-Err.field-0 (split_at c.args.text.now c.in_ok-len.len c.in_ok-len.ensures.here) c.in_ok-len.ensures.before c.in-Err.ensures.fault
