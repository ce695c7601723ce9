-- A message that was said.
use Rattle.link_dialog.specs.Dialog.{message_of}
use Rattle.link_dialog.proofs.Talking.{says}
use Rattle.link_dialog.proofs.dialog.Dialog.say.Goals as goal

pub returns-clause-said : goal.returns-clause-said
returns-clause-said g c start messages replies kind rests =
    says start (g.L.Links.trace c.args.links.now) (g.L.Links.trace c.send_whole.new.links) c.args.self.now messages (message_of kind c.args.message.now) replies c.send_whole.result c.requires.some rests c.send_whole.ensures.sent
