-- QUIT, said whole or in part.
use Rattle.std.proofs.Common.{List, ℕ, Ok, Err, subst}
use Rattle.nntp_lines.specs.Command.{command_text}
use Rattle.link_dialog.specs.Sending.{SentWhole, SentInPart}
use Rattle.link_dialog.proofs.Talking.{quits}
use Rattle.link_dialog.proofs.dialog.Dialog.quit.Goals as goal

pub returns-in-Ok-clause-quits : goal.returns-in-Ok-clause-quits
unfolding command_text
returns-in-Ok-clause-quits g c start messages replies rests =
    quits start (g.L.Links.trace c.args.links.now) (g.L.Links.trace c.send_whole.new.links) c.args.self messages replies (Ok tt) rests
    (subst (λ (t : List ℕ). SentWhole (g.L.Links.trace c.args.links.now) (g.L.Links.trace c.send_whole.new.links) c.args.self.link t) c.write_command-len.ensures.text c.in-Ok.ensures.sent)

pub returns-in-Err-clause-quits : goal.returns-in-Err-clause-quits
unfolding command_text
returns-in-Err-clause-quits g c start messages replies rests =
    quits start (g.L.Links.trace c.args.links.now) (g.L.Links.trace c.send_whole.new.links) c.args.self messages replies (Err c.in-Err.field-0) rests
    (subst (λ (t : List ℕ). SentInPart (g.L.Links.trace c.args.links.now) (g.L.Links.trace c.send_whole.new.links) c.args.self.link t c.in-Err.field-0.sent) c.write_command-len.ensures.text c.in-Err.ensures.sent)
