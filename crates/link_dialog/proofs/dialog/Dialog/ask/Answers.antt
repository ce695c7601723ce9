-- A message and its reply.
use Rattle.link_dialog.specs.declared.answer.Answer.TheVariants as answer
use Rattle.link_dialog.specs.Dialog.{message_of}
use Rattle.link_dialog.proofs.Talking.{asks, asks_cut}
use Rattle.link_dialog.proofs.dialog.Dialog.ask.Goals as goal

pub returns-in-Err-clause-asked : goal.returns-in-Err-clause-asked
returns-in-Err-clause-asked g c start said replies stands =
    asks_cut start (g.L.Links.trace c.args.links.now) (g.L.Links.trace c.send_whole.new.links) c.args.self.now said (message_of c.args.kind c.args.message.now) replies c.in-Err.field-0.sent c.requires.some stands c.in-Err.ensures.sent

pub returns-in-Code-clause-asked : goal.returns-in-Code-clause-asked
returns-in-Code-clause-asked g c start said replies stands =
    asks start (g.L.Links.trace c.args.links.now) (g.L.Links.trace c.send_whole.new.links) (g.L.Links.trace c.hear_reply.new.links) c.args.self.now said (message_of c.args.kind c.args.message.now) replies (answer.Code c.in-Code.code) c.requires.some stands c.in-Ok.ensures.sent c.in-Code.ensures.heard

pub returns-in-Unasked-clause-asked : goal.returns-in-Unasked-clause-asked
returns-in-Unasked-clause-asked g c start said replies stands =
    asks start (g.L.Links.trace c.args.links.now) (g.L.Links.trace c.send_whole.new.links) (g.L.Links.trace c.hear_reply.new.links) c.args.self.now said (message_of c.args.kind c.args.message.now) replies (answer.Unasked c.in-Unasked.field-0) c.requires.some stands c.in-Ok.ensures.sent c.in-Unasked.ensures.heard

pub returns-in-Over-clause-asked : goal.returns-in-Over-clause-asked
returns-in-Over-clause-asked g c start said replies stands =
    asks start (g.L.Links.trace c.args.links.now) (g.L.Links.trace c.send_whole.new.links) (g.L.Links.trace c.hear_reply.new.links) c.args.self.now said (message_of c.args.kind c.args.message.now) replies (answer.Over c.in-Over.why) c.requires.some stands c.in-Ok.ensures.sent c.in-Over.ensures.heard
