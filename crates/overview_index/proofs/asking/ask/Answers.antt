-- OVER: cut off, heard with more behind the reply or not, refused, and without a reply.
use Rattle.std.proofs.Common.{◌∷◌, ◌++◌, [], ap, sym, subst, ◌∙◌}
use Rattle.nntp_lines.specs.Command.{command_text}
use Rattle.nntp_lines.specs.declared.why.Why.TheVariants as why
use Rattle.link_dialog.specs.declared.answer.Answer.{Answer}
use Rattle.link_dialog.specs.declared.awaited.Awaited.TheVariants.{Over as TheOver}
use Rattle.link_dialog.specs.Dialog.{Message, message_of}
use Rattle.link_dialog.specs.Talk.{IsSaid, patience_of}
use Rattle.link_dialog.specs.TalkBlock.{IsBlockHeard}
use Rattle.link_dialog.proofs.Sessions.{quit_at_end}
use Rattle.overview_index.specs.Session.{Range, over_message}
use Rattle.overview_index.proofs.AskingSteps.{range_heard, range_heard_at_end, range_refused}
use Rattle.overview_index.proofs.asking.ask.Goals as goal

pub returns-in-Err-clause-asked : goal.returns-in-Err-clause-asked
unfolding command_text
returns-in-Err-clause-asked g c start messages replies rests =
    let now = g.L.Links.trace c.say.new.links in
    let said = rw c.in-Err.is at (subst (λ (m : Message). IsSaid start now c.args.dialog messages m replies c.say.result) (ap (λ bytes. message_of TheOver bytes) c.write_command-len.ensures.text) (c.say.ensures.said start messages replies TheOver rests)) in
    record { out = _; ends = said.1 }

pub returns-then-goes_on-clause-asked : goal.returns-then-goes_on-clause-asked
unfolding command_text
returns-then-goes_on-clause-asked g c start messages replies rests =
    let range : Range = record { first = c.args.first; last = c.args.last } in
    let now = g.L.Links.trace c.hear_block-heard.new.links in
    let said = rw c.in-Ok.is at (subst (λ (m : Message). IsSaid start (g.L.Links.trace c.say.new.links) c.args.dialog messages m replies c.say.result) (ap (λ bytes. message_of TheOver bytes) c.write_command-len.ensures.text) (c.say.ensures.said start messages replies TheOver rests)) in
    let heard = subst (λ (a : Answer). IsBlockHeard start now c.args.dialog (messages ++ over_message range ∷ []) TheOver replies c.hear_block-heard.result.kept c.hear_block-heard.new.block a) c.in-Code.is (c.hear_block-heard.ensures.heard start (messages ++ over_message range ∷ []) replies said) in
    range_heard start now c.args.dialog messages range replies c.in-Code.code c.hear_block-heard.result.kept c.hear_block-heard.new.block (sym c.goes_on.ensures ∙ c.if-goes_on.true) heard

pub returns-then-goes_on-2-clause-asked : goal.returns-then-goes_on-2-clause-asked
unfolding command_text
returns-then-goes_on-2-clause-asked g c start messages replies rests =
    let range : Range = record { first = c.args.first; last = c.args.last } in
    let now = g.L.Links.trace c.hear_block-heard.new.links in
    let said = rw c.in-Ok.is at (subst (λ (m : Message). IsSaid start (g.L.Links.trace c.say.new.links) c.args.dialog messages m replies c.say.result) (ap (λ bytes. message_of TheOver bytes) c.write_command-len.ensures.text) (c.say.ensures.said start messages replies TheOver rests)) in
    let heard = subst (λ (a : Answer). IsBlockHeard start now c.args.dialog (messages ++ over_message range ∷ []) TheOver replies c.hear_block-heard.result.kept c.hear_block-heard.new.block a) c.in-Unasked.is (c.hear_block-heard.ensures.heard start (messages ++ over_message range ∷ []) replies said) in
    range_heard_at_end start now c.args.dialog messages range replies c.in-Unasked.code c.hear_block-heard.result.kept c.hear_block-heard.new.block (sym c.goes_on-in-Unasked.ensures ∙ c.if-goes_on-2.true) heard

pub returns-else-goes_on-clause-asked : goal.returns-else-goes_on-clause-asked
unfolding command_text
returns-else-goes_on-clause-asked g c start messages replies rests =
    let range : Range = record { first = c.args.first; last = c.args.last } in
    let said = rw c.in-Ok.is at (subst (λ (m : Message). IsSaid start (g.L.Links.trace c.say.new.links) c.args.dialog messages m replies c.say.result) (ap (λ bytes. message_of TheOver bytes) c.write_command-len.ensures.text) (c.say.ensures.said start messages replies TheOver rests)) in
    let heard = subst (λ (a : Answer). IsBlockHeard start (g.L.Links.trace c.hear_block-heard.new.links) c.args.dialog (messages ++ over_message range ∷ []) TheOver replies c.hear_block-heard.result.kept c.hear_block-heard.new.block a) c.in-Code.is (c.hear_block-heard.ensures.heard start (messages ++ over_message range ∷ []) replies said) in
    range_refused start (g.L.Links.trace c.quit.new.links) (patience_of c.args.dialog) messages range replies heard.1.0 c.in-Code.code heard.1.1.code_is (sym c.goes_on.ensures ∙ c.if-goes_on.false)
    (c.quit.ensures.quits start (messages ++ over_message range ∷ []) (replies ++ heard.1.0 ∷ []) heard.1.2)

pub returns-else-goes_on-2-clause-asked : goal.returns-else-goes_on-2-clause-asked
unfolding command_text
returns-else-goes_on-2-clause-asked g c start messages replies rests =
    let range : Range = record { first = c.args.first; last = c.args.last } in
    let now = g.L.Links.trace c.hear_block-heard.new.links in
    let said = rw c.in-Ok.is at (subst (λ (m : Message). IsSaid start (g.L.Links.trace c.say.new.links) c.args.dialog messages m replies c.say.result) (ap (λ bytes. message_of TheOver bytes) c.write_command-len.ensures.text) (c.say.ensures.said start messages replies TheOver rests)) in
    let heard = subst (λ (a : Answer). IsBlockHeard start now c.args.dialog (messages ++ over_message range ∷ []) TheOver replies c.hear_block-heard.result.kept c.hear_block-heard.new.block a) c.in-Unasked.is (c.hear_block-heard.ensures.heard start (messages ++ over_message range ∷ []) replies said) in
    range_refused start now (patience_of c.args.dialog) messages range replies heard.1.0 c.in-Unasked.code heard.1.1.code_is (sym c.goes_on-in-Unasked.ensures ∙ c.if-goes_on-2.false)
    (quit_at_end start now (patience_of c.args.dialog) (messages ++ over_message range ∷ []) _ why.Unasked (replies ++ heard.1.0 ∷ []) heard.1.2)

pub returns-in-Over-clause-asked : goal.returns-in-Over-clause-asked
unfolding command_text
returns-in-Over-clause-asked g c start messages replies rests =
    let range : Range = record { first = c.args.first; last = c.args.last } in
    let said = rw c.in-Ok.is at (subst (λ (m : Message). IsSaid start (g.L.Links.trace c.say.new.links) c.args.dialog messages m replies c.say.result) (ap (λ bytes. message_of TheOver bytes) c.write_command-len.ensures.text) (c.say.ensures.said start messages replies TheOver rests)) in
    let heard = subst (λ (a : Answer). IsBlockHeard start (g.L.Links.trace c.hear_block-heard.new.links) c.args.dialog (messages ++ over_message range ∷ []) TheOver replies c.hear_block-heard.result.kept c.hear_block-heard.new.block a) c.in-Over.is (c.hear_block-heard.ensures.heard start (messages ++ over_message range ∷ []) replies said) in
    record { out = _; ends = heard }
