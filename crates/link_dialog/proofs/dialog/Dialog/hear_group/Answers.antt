-- A newsgroup that was chosen, or not.
use Rattle.link_dialog.proofs.Talking.{hears_group}
use Rattle.link_dialog.proofs.dialog.Dialog.hear_group.Goals as goal

pub returns-clause-heard : goal.returns-clause-heard
returns-clause-heard g c start messages replies awaits =
    hears_group start (g.L.Links.trace c.args.links.now) (g.L.Links.trace c.hear_group_reply.new.links) c.args.self.now messages replies c.hear_group_reply.result awaits c.hear_group_reply.ensures.heard
