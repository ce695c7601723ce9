-- POST: cut off, permitted or refused, and the article behind it.
use Rattle.std.proofs.Common.{List, ℕ, [], ◌∷◌, ◌++◌, Err, subst}
use Rattle.nntp_lines.specs.Command.{command_text}
use Rattle.link_dialog.specs.declared.awaited.Awaited.TheVariants.{Post}
use Rattle.link_dialog.specs.Dialog.{message_of}
use Rattle.link_dialog.specs.Talk.{Awaits, IsSaid, line_reply, patience_of}
use Rattle.nntp_lines.specs.declared.why.Why.TheVariants as why
use Rattle.poster.specs.Said.{post_message}
use Rattle.poster.proofs.PostingSteps.{post_cut, post_unheard, post_unasked, post_refused, post_refused_at_end, sending_posts}
use Rattle.poster.proofs.posting.post_article.Goals as goal

pub returns-in-Err-clause-posted : goal.returns-in-Err-clause-posted
unfolding command_text
returns-in-Err-clause-posted g c start messages replies rests =
    let now = g.L.Links.trace c.say.new.links in
    let said = subst (λ (bytes : List ℕ). IsSaid start now c.args.dialog messages (message_of Post bytes) replies (Err c.in-Err.field-0)) c.write_command-len.ensures.text (c.in-Err.ensures.said start messages replies Post rests) in
    post_cut start now (patience_of c.args.dialog) messages c.args.block.now replies c.in-Err.field-0.sent c.requires.some said.0 said.1

pub returns-then-code-eq340-clause-posted : goal.returns-then-code-eq340-clause-posted
unfolding command_text
returns-then-code-eq340-clause-posted g c start messages replies rests =
    let said = subst (λ (bytes : List ℕ). Awaits start (g.L.Links.trace c.say.new.links) c.args.dialog (messages ++ message_of Post bytes ∷ []) Post replies) c.write_command-len.ensures.text (c.in-Ok.ensures.said start messages replies Post rests) in
    let heard = c.in-Code.ensures.heard start (messages ++ post_message ∷ []) replies said in
    let permit = line_reply c.in-Code.code heard.1.0 in
    sending_posts start (g.L.Links.trace c.send_article.new.links) c.args.dialog messages c.args.block.now replies permit c.send_article.result rests.settled c.if-code-eq340.true c.requires.some
    (c.send_article.ensures.sent start (messages ++ post_message ∷ []) (replies ++ permit ∷ []) heard.1.1)

pub returns-then-code-eq340-2-clause-posted : goal.returns-then-code-eq340-2-clause-posted
unfolding command_text
returns-then-code-eq340-2-clause-posted g c start messages replies rests =
    let said = subst (λ (bytes : List ℕ). Awaits start (g.L.Links.trace c.say.new.links) c.args.dialog (messages ++ message_of Post bytes ∷ []) Post replies) c.write_command-len.ensures.text (c.in-Ok.ensures.said start messages replies Post rests) in
    let heard = c.in-Unasked.ensures.heard start (messages ++ post_message ∷ []) replies said in
    post_unasked start (g.L.Links.trace c.hear.new.links) (patience_of c.args.dialog) messages c.args.block.now replies (line_reply c.in-Unasked.code heard.1.0) c.requires.some c.if-code-eq340-2.true heard.1.1

pub returns-else-code-eq340-clause-posted : goal.returns-else-code-eq340-clause-posted
unfolding command_text
returns-else-code-eq340-clause-posted g c start messages replies rests =
    let said = subst (λ (bytes : List ℕ). Awaits start (g.L.Links.trace c.say.new.links) c.args.dialog (messages ++ message_of Post bytes ∷ []) Post replies) c.write_command-len.ensures.text (c.in-Ok.ensures.said start messages replies Post rests) in
    let heard = c.in-Code.ensures.heard start (messages ++ post_message ∷ []) replies said in
    let reply = line_reply c.in-Code.code heard.1.0 in
    post_refused start (g.L.Links.trace c.quit.new.links) (patience_of c.args.dialog) messages replies reply c.if-code-eq340.false
    (c.quit.ensures.quits start (messages ++ post_message ∷ []) (replies ++ reply ∷ []) heard.1.1)

pub returns-else-code-eq340-2-clause-posted : goal.returns-else-code-eq340-2-clause-posted
unfolding command_text
returns-else-code-eq340-2-clause-posted g c start messages replies rests =
    let said = subst (λ (bytes : List ℕ). Awaits start (g.L.Links.trace c.say.new.links) c.args.dialog (messages ++ message_of Post bytes ∷ []) Post replies) c.write_command-len.ensures.text (c.in-Ok.ensures.said start messages replies Post rests) in
    let heard = c.in-Unasked.ensures.heard start (messages ++ post_message ∷ []) replies said in
    post_refused_at_end start (g.L.Links.trace c.hear.new.links) (patience_of c.args.dialog) messages _ why.Unasked replies (line_reply c.in-Unasked.code heard.1.0) c.if-code-eq340-2.false heard.1.1

pub returns-in-Over-clause-posted : goal.returns-in-Over-clause-posted
unfolding command_text
returns-in-Over-clause-posted g c start messages replies rests =
    let said = subst (λ (bytes : List ℕ). Awaits start (g.L.Links.trace c.say.new.links) c.args.dialog (messages ++ message_of Post bytes ∷ []) Post replies) c.write_command-len.ensures.text (c.in-Ok.ensures.said start messages replies Post rests) in
    post_unheard start (g.L.Links.trace c.hear.new.links) (patience_of c.args.dialog) messages c.args.block.now replies c.in-Over.why c.requires.some (c.in-Over.ensures.heard start (messages ++ post_message ∷ []) replies said)
