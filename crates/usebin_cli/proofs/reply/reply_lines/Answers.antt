use Rattle.usebin_cli.proofs.ReplyLemmas.{unfinished}
use Rattle.usebin_cli.proofs.reply.reply_lines.Goals as goal

pub returns-in-Err-Unfinished : goal.returns-in-Err-Unfinished
returns-in-Err-Unfinished c =
    unfinished c.args.text.now c.in-Some.code c.in-Some.used c.in-Err-Unfinished.field-0 c.in-Some.ensures.status c.if-code-ne-BODY_FOLLOWS.false c.in-Err-Unfinished.field-0-is c.in-Err-Unfinished.ensures.refused
