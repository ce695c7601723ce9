-- A reply that was heard, with its block.
use Rattle.link_dialog.proofs.Talking.{hears_block}
use Rattle.link_dialog.proofs.dialog.Dialog.hear_block.Goals as goal

pub returns-clause-heard : goal.returns-clause-heard
returns-clause-heard g c start messages replies awaits =
    hears_block start (g.L.Links.trace c.args.links.now) (g.L.Links.trace c.hear_long_reply.new.links) c.args.self.now messages c.args.kind replies c.hear_long_reply.result.kept c.hear_long_reply.new.block c.hear_long_reply.result.answer awaits c.hear_long_reply.ensures.heard
