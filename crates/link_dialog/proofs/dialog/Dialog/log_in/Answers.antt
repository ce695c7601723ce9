-- USER, and PASS where it is asked for.
use Rattle.std.proofs.Common.{◌≡◌, [], ◌∷◌, Option, Some, Ok, Err, ap, sym, subst, take}
use Rattle.std.specs.Option.{option_copied}
use Rattle.nntp_lines.specs.Command.{command_text}
use Rattle.nntp_lines.specs.declared.login.Login.{Login}
use Rattle.link_dialog.specs.declared.awaited.Awaited.TheVariants.{User, Pass}
use Rattle.link_dialog.specs.Dialog.{Message, message_of, user_message, pass_message}
use Rattle.link_dialog.specs.Talk.{Stands, IsAsked, IsLoggedIn, line_reply}
use Rattle.link_dialog.proofs.Logins.{start_with, user_refused, user_taken, pass_refused, pass_taken}
use Rattle.link_dialog.proofs.dialog.Dialog.log_in.Goals as goal

pub returns-in-Err-clause-logged_in : goal.returns-in-Err-clause-logged_in
unfolding command_text
returns-in-Err-clause-logged_in g c before address greeting stands =
    let self = c.args.self.now in
    let login = c.in-Some.login.now in
    let now = g.L.Links.trace c.ask.new.links in
    let is : option_copied c.args.login ≡ Some login = ap option_copied c.in-Some.is in
    let user : message_of User (take c.write_command-len.result c.write_command-len.new.out) ≡ user_message login = ap (message_of User) c.write_command-len.ensures.text in
    let P : Option Login → Type 0 = λ l. Stands (start_with before address l) (g.L.Links.trace c.args.links.now) self.link self.patience [] (greeting ∷ []) [] → IsLoggedIn (start_with before address l) now self (Err c.in-Err.why) in
    let Q : Message → Type 0 = λ m. IsAsked (start_with before address (Some login)) now self.link self.patience [] m (greeting ∷ []) (Err c.in-Err.why) in
    let begun : P (Some login) = λ s. user_refused before address login now self greeting c.in-Err.why (subst Q user (c.in-Err.ensures.asked (start_with before address (Some login)) [] (greeting ∷ []) s)) in
    subst P (sym is) begun stands

pub returns-then-code-ne381-clause-logged_in : goal.returns-then-code-ne381-clause-logged_in
unfolding command_text
returns-then-code-ne381-clause-logged_in g c before address greeting stands =
    let self = c.args.self.now in
    let login = c.in-Some.login.now in
    let now = g.L.Links.trace c.ask.new.links in
    let is : option_copied c.args.login ≡ Some login = ap option_copied c.in-Some.is in
    let user : message_of User (take c.write_command-len.result c.write_command-len.new.out) ≡ user_message login = ap (message_of User) c.write_command-len.ensures.text in
    let P : Option Login → Type 0 = λ l. Stands (start_with before address l) (g.L.Links.trace c.args.links.now) self.link self.patience [] (greeting ∷ []) [] → IsLoggedIn (start_with before address l) now self (Ok tt) in
    let Q : Message → Type 0 = λ m. IsAsked (start_with before address (Some login)) now self.link self.patience [] m (greeting ∷ []) (Ok c.in-Ok.code) in
    let begun : P (Some login) = λ s. user_taken before address login now self greeting c.in-Ok.code c.if-code-ne381.true (subst Q user (c.in-Ok.ensures.asked (start_with before address (Some login)) [] (greeting ∷ []) s)) in
    subst P (sym is) begun stands

pub returns-in-Ok-ask-clause-logged_in : goal.returns-in-Ok-ask-clause-logged_in
unfolding command_text
returns-in-Ok-ask-clause-logged_in g c before address greeting stands =
    let self = c.args.self.now in
    let login = c.in-Some.login.now in
    let then = g.L.Links.trace c.ask.new.links in
    let now = g.L.Links.trace c.ask-2.new.links in
    let is : option_copied c.args.login ≡ Some login = ap option_copied c.in-Some.is in
    let user : message_of User (take c.write_command-len.result c.write_command-len.new.out) ≡ user_message login = ap (message_of User) c.write_command-len.ensures.text in
    let pass : message_of Pass (take c.write_command-len-2.result c.write_command-len-2.new.out) ≡ pass_message login = ap (message_of Pass) c.write_command-len-2.ensures.text in
    let start = start_with before address (Some login) in
    let P : Option Login → Type 0 = λ l. Stands (start_with before address l) (g.L.Links.trace c.args.links.now) self.link self.patience [] (greeting ∷ []) [] → IsLoggedIn (start_with before address l) now self (Ok tt) in
    let Q : Message → Type 0 = λ m. IsAsked start then self.link self.patience [] m (greeting ∷ []) (Ok c.in-Ok.code) in
    let begun : P (Some login) = λ s.
    let first = subst Q user (c.in-Ok.ensures.asked start [] (greeting ∷ []) s) in
    let R : Message → Type 0 = λ m. IsAsked start now self.link self.patience (user_message login ∷ []) m (greeting ∷ line_reply c.in-Ok.code first.1.0 ∷ []) (Ok c.in-Ok-ask.field-0) in
    pass_taken before address login now self greeting (line_reply c.in-Ok.code first.1.0) c.in-Ok-ask.field-0 c.if-code-ne381.false
    (subst R pass (c.in-Ok-ask.ensures.asked start (user_message login ∷ []) (greeting ∷ line_reply c.in-Ok.code first.1.0 ∷ []) first.1.1)) in
    subst P (sym is) begun stands

pub returns-in-Err-ask-clause-logged_in : goal.returns-in-Err-ask-clause-logged_in
unfolding command_text
returns-in-Err-ask-clause-logged_in g c before address greeting stands =
    let self = c.args.self.now in
    let login = c.in-Some.login.now in
    let then = g.L.Links.trace c.ask.new.links in
    let now = g.L.Links.trace c.ask-2.new.links in
    let is : option_copied c.args.login ≡ Some login = ap option_copied c.in-Some.is in
    let user : message_of User (take c.write_command-len.result c.write_command-len.new.out) ≡ user_message login = ap (message_of User) c.write_command-len.ensures.text in
    let pass : message_of Pass (take c.write_command-len-2.result c.write_command-len-2.new.out) ≡ pass_message login = ap (message_of Pass) c.write_command-len-2.ensures.text in
    let start = start_with before address (Some login) in
    let P : Option Login → Type 0 = λ l. Stands (start_with before address l) (g.L.Links.trace c.args.links.now) self.link self.patience [] (greeting ∷ []) [] → IsLoggedIn (start_with before address l) now self (Err c.in-Err-ask.why) in
    let Q : Message → Type 0 = λ m. IsAsked start then self.link self.patience [] m (greeting ∷ []) (Ok c.in-Ok.code) in
    let begun : P (Some login) = λ s.
    let first = subst Q user (c.in-Ok.ensures.asked start [] (greeting ∷ []) s) in
    let R : Message → Type 0 = λ m. IsAsked start now self.link self.patience (user_message login ∷ []) m (greeting ∷ line_reply c.in-Ok.code first.1.0 ∷ []) (Err c.in-Err-ask.why) in
    pass_refused before address login now self greeting (line_reply c.in-Ok.code first.1.0) c.in-Err-ask.why c.if-code-ne381.false
    (subst R pass (c.in-Err-ask.ensures.asked start (user_message login ∷ []) (greeting ∷ line_reply c.in-Ok.code first.1.0 ∷ []) first.1.1)) in
    subst P (sym is) begun stands
