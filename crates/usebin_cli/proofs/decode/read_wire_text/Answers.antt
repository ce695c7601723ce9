use Rattle.std.proofs.Common.{List, ℕ, subst}
use Rattle.usebin_cli.specs.Reply.{IsReplyError}
use Rattle.usebin_cli.proofs.DecodeSteps.{no_reply}
use Rattle.usebin_cli.proofs.decode.read_wire_text.Goals as goal

pub returns-in-Err : goal.returns-in-Err
returns-in-Err c = no_reply c.args.text c.in-Err.end (subst (λ (t : List ℕ). IsReplyError t c.in-Err.end) c.as_slice.ensures c.in-Err.ensures)
