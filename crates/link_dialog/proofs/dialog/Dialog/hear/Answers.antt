-- A reply that was heard.
use Rattle.link_dialog.proofs.Talking.{hears_answer}
use Rattle.link_dialog.proofs.dialog.Dialog.hear.Goals as goal

pub returns-clause-heard : goal.returns-clause-heard
returns-clause-heard g c start messages replies awaits =
    hears_answer start (g.L.Links.trace c.args.links.now) (g.L.Links.trace c.hear_reply.new.links) c.args.self.now messages c.args.kind replies c.hear_reply.result awaits c.hear_reply.ensures.heard
