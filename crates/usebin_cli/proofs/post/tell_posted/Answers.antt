use Rattle.std.proofs.Common.{rules, inr}
use Rattle.usebin_cli.proofs.post.tell_posted.Goals as goal

pub returns : goal.returns
returns g c = inr (inr (c.whole_end.result, search rules, rw c.as_slice-sent.ensures at c.whole_end.ensures, search rules))
