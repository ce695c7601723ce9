-- GROUP: cut off, chosen with more behind the reply or not, refused, and without a reply.
use Rattle.std.proofs.Common.{[], ◌∷◌, ◌++◌, ap, sym, subst, ◌∙◌}
use Rattle.nntp_lines.specs.Command.{command_text, group_line, crlf}
use Rattle.nntp_lines.specs.declared.why.Why.TheVariants as why
use Rattle.link_dialog.specs.declared.awaited.Awaited.TheVariants.{Group}
use Rattle.link_dialog.specs.Dialog.{Message, message_of}
use Rattle.link_dialog.specs.Talk.{IsSaid, line_reply, patience_of}
use Rattle.link_dialog.proofs.Sessions.{quit_at_end}
use Rattle.overview_index.specs.Session.{group_message}
use Rattle.overview_index.proofs.AskingSteps.{group_over, group_refused, group_chosen, group_chosen_at_end}
use Rattle.overview_index.proofs.asking.choose.Goals as goal

pub returns-in-Err-clause-ends : goal.returns-in-Err-clause-ends
unfolding command_text
returns-in-Err-clause-ends g c q start same b =
    let now = g.L.Links.trace c.say.new.links in
    let said = subst (λ (m : Message). IsSaid start now c.args.dialog [] m b.replies c.say.result) (ap (λ bytes. message_of Group bytes) (c.write_command-len.ensures.text ∙ ap (λ n. group_line n ++ crlf) (sym same))) (c.say.ensures.said start [] b.replies Group b.rests) in
    let cut = rw c.in-Err.is at said in
    group_over q start (g.L.Links.trace c.args.links.now) now c.args.dialog b.replies _ why.Ended b.patience b.rests cut.1

pub returns-in-Chosen-clause-ends : goal.returns-in-Chosen-clause-ends
unfolding command_text
returns-in-Chosen-clause-ends g c q start same b =
    let said = rw c.in-Ok.is at (subst (λ (m : Message). IsSaid start (g.L.Links.trace c.say.new.links) c.args.dialog [] m b.replies c.say.result) (ap (λ bytes. message_of Group bytes) (c.write_command-len.ensures.text ∙ ap (λ n. group_line n ++ crlf) (sym same))) (c.say.ensures.said start [] b.replies Group b.rests)) in
    let heard = c.in-Chosen.ensures.heard start (group_message q.group ∷ []) b.replies said in
    group_chosen q start (g.L.Links.trace c.args.links.now) (g.L.Links.trace c.hear_group.new.links) c.args.dialog b.replies c.in-Chosen.group heard.0 b.patience b.rests heard.1 heard.2

pub returns-in-ChosenUnasked-clause-ends : goal.returns-in-ChosenUnasked-clause-ends
unfolding command_text
returns-in-ChosenUnasked-clause-ends g c q start same b =
    let said = rw c.in-Ok.is at (subst (λ (m : Message). IsSaid start (g.L.Links.trace c.say.new.links) c.args.dialog [] m b.replies c.say.result) (ap (λ bytes. message_of Group bytes) (c.write_command-len.ensures.text ∙ ap (λ n. group_line n ++ crlf) (sym same))) (c.say.ensures.said start [] b.replies Group b.rests)) in
    let heard = c.in-ChosenUnasked.ensures.heard start (group_message q.group ∷ []) b.replies said in
    group_chosen_at_end q start (g.L.Links.trace c.args.links.now) (g.L.Links.trace c.hear_group.new.links) c.args.dialog b.replies c.in-ChosenUnasked.group heard.0 _ b.patience b.rests heard.1 heard.2

pub returns-in-Code-clause-ends : goal.returns-in-Code-clause-ends
unfolding command_text
returns-in-Code-clause-ends g c q start same b =
    let said = rw c.in-Ok.is at (subst (λ (m : Message). IsSaid start (g.L.Links.trace c.say.new.links) c.args.dialog [] m b.replies c.say.result) (ap (λ bytes. message_of Group bytes) (c.write_command-len.ensures.text ∙ ap (λ n. group_line n ++ crlf) (sym same))) (c.say.ensures.said start [] b.replies Group b.rests)) in
    let heard = c.in-Code.ensures.heard start (group_message q.group ∷ []) b.replies said in
    group_refused q start (g.L.Links.trace c.args.links.now) (g.L.Links.trace c.quit.new.links) c.args.dialog b.replies c.in-Code.code heard.2.0 b.patience b.rests heard.1
    (c.quit.ensures.quits start (group_message q.group ∷ []) (b.replies ++ line_reply c.in-Code.code heard.2.0 ∷ []) heard.2.1)

pub returns-in-Unasked-clause-ends : goal.returns-in-Unasked-clause-ends
unfolding command_text
returns-in-Unasked-clause-ends g c q start same b =
    let said = rw c.in-Ok.is at (subst (λ (m : Message). IsSaid start (g.L.Links.trace c.say.new.links) c.args.dialog [] m b.replies c.say.result) (ap (λ bytes. message_of Group bytes) (c.write_command-len.ensures.text ∙ ap (λ n. group_line n ++ crlf) (sym same))) (c.say.ensures.said start [] b.replies Group b.rests)) in
    let heard = c.in-Unasked.ensures.heard start (group_message q.group ∷ []) b.replies said in
    group_refused q start (g.L.Links.trace c.args.links.now) (g.L.Links.trace c.hear_group.new.links) c.args.dialog b.replies c.in-Unasked.code heard.2.0 b.patience b.rests heard.1
    (quit_at_end start (g.L.Links.trace c.hear_group.new.links) (patience_of c.args.dialog) (group_message q.group ∷ []) _ why.Unasked (b.replies ++ line_reply c.in-Unasked.code heard.2.0 ∷ []) heard.2.1)

pub returns-in-Over-clause-ends : goal.returns-in-Over-clause-ends
unfolding command_text
returns-in-Over-clause-ends g c q start same b =
    let said = rw c.in-Ok.is at (subst (λ (m : Message). IsSaid start (g.L.Links.trace c.say.new.links) c.args.dialog [] m b.replies c.say.result) (ap (λ bytes. message_of Group bytes) (c.write_command-len.ensures.text ∙ ap (λ n. group_line n ++ crlf) (sym same))) (c.say.ensures.said start [] b.replies Group b.rests)) in
    group_over q start (g.L.Links.trace c.args.links.now) (g.L.Links.trace c.hear_group.new.links) c.args.dialog b.replies _ c.in-Over.why b.patience b.rests (c.in-Over.ensures.heard start (group_message q.group ∷ []) b.replies said)
