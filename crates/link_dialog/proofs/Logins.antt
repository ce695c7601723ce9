-- The commands of a login and their replies.
use Rattle.std.proofs.Common.{◌≡◌, ◌≢◌, ◌≤◌, ℕ, Bool, true, false, List, [], ◌∷◌, Option, Some, None, Ok, Err, refl, ap, sym, subst, ◌∙◌, append-nil, length, arith, cond}
use Rattle.std.specs.Prelude.{◌==◌, slice_get}
use Rattle.std.proofs.lemmas.Bool.{ne_eqb}
use Rattle.io_traits.specs.declared.links.LinkEvent.{LinkEvent}
use Rattle.nntp_lines.specs.declared.login.Login.{Login}
use Rattle.nntp_lines.specs.declared.why.Why.{Why}
use Rattle.link_dialog.specs.declared.dialog.Dialog.{Dialog}
use Rattle.link_dialog.specs.declared.dialog.NotOpen.{NotOpen}
use Rattle.link_dialog.specs.declared.dialog.NotOpen.TheVariants as not_open
use Rattle.link_dialog.specs.Replies.{Reply}
use Rattle.link_dialog.specs.Dialog.{Message, AreFull, login_messages, user_message, pass_message}
use Rattle.link_dialog.specs.Talk.{Start, Stands, Stopped, Ends, IsAsked, IsShort, IsLoggedIn, IsGreeted, IsNotGreeted, IsOpen, IsNotOpen, line_reply}
use Rattle.link_dialog.proofs.Talking.{stopped_ends}

abbrev pub start_with : Option (List LinkEvent) → List ℕ → Option Login → Start
start_with before address login = record { before = before; address = address; login = login }

pass_after : (login : Login) (code : ℕ) → AreFull (cond (code == 381) (pass_message login ∷ []) [])
pass_after login code = by_test (code == 381)
  where
    by_test : (test : Bool) → AreFull (cond test (pass_message login ∷ []) [])
    by_test true = (omega arith, tt)
    by_test false = tt

-- the commands that are due after these replies may follow what was said: nothing, or USER, or both
greeted_then : (login : Option Login) (answers : List Reply) → length answers ≤ 1 → AreFull (login_messages login answers)
greeted_then None answers few = tt
greeted_then (Some login) [] few = (omega arith, tt)
greeted_then (Some login) (reply ∷ []) few = (omega arith, tt)
greeted_then (Some login) (reply ∷ next ∷ answers) few = absurd (omega arith)

pub not_greeted : (start : Start) (now : Option (List LinkEvent)) (patience : ℕ) (reason : Why) (replies : List Reply) → IsShort replies → Stopped start now patience [] [] reason replies → Ends start now patience [] [] reason replies
not_greeted start now patience reason replies few s =
    stopped_ends start now patience [] [] (login_messages start.login replies) [] reason replies (append-nil (login_messages start.login replies)) (greeted_then start.login replies few) s

-- USER wasn't answered well
pub user_refused : (before : Option (List LinkEvent)) (address : List ℕ) (login : Login) (now : Option (List LinkEvent)) (dialog : Dialog) (greeting : Reply) (reason : Why) → IsAsked (start_with before address (Some login)) now dialog.link dialog.patience [] (user_message login) (greeting ∷ []) (Err reason) → IsLoggedIn (start_with before address (Some login)) now dialog (Err reason)
user_refused before address login now dialog greeting reason asked =
    by_answers asked.1 asked.2 asked.3
  where
    by_answers : (answers : List Reply) → length answers ≤ 1 → Stopped (start_with before address (Some login)) now dialog.patience (user_message login ∷ []) asked.0 reason (greeting ∷ answers) → IsLoggedIn (start_with before address (Some login)) now dialog (Err reason)
    by_answers [] few s = (asked.0, greeting ∷ [], stopped_ends (start_with before address (Some login)) now dialog.patience [] (user_message login ∷ []) [] asked.0 reason (greeting ∷ []) refl tt s)
    by_answers (reply ∷ []) few s = (
      asked.0,
      greeting ∷ reply ∷ [],
      stopped_ends (start_with before address (Some login)) now dialog.patience [] (user_message login ∷ []) (cond (reply.code == 381) (pass_message login ∷ []) []) asked.0 reason (greeting ∷ reply ∷ [])
          (append-nil (user_message login ∷ cond (reply.code == 381) (pass_message login ∷ []) [])) (pass_after login reply.code) s,
    )
    by_answers (reply ∷ next ∷ answers) few s = absurd (omega arith)

-- USER alone logs in
pub user_taken : (before : Option (List LinkEvent)) (address : List ℕ) (login : Login) (now : Option (List LinkEvent)) (dialog : Dialog) (greeting : Reply) (code : ℕ) → code ≢ 381 → IsAsked (start_with before address (Some login)) now dialog.link dialog.patience [] (user_message login) (greeting ∷ []) (Ok code) → IsLoggedIn (start_with before address (Some login)) now dialog (Ok tt)
user_taken before address login now dialog greeting code other asked =
    let none : (code == 381) ≡ false = ne_eqb code 381 other in
    let due : login_messages (Some login) (greeting ∷ line_reply code asked.1.0 ∷ []) ≡ user_message login ∷ [] = ap (λ test. user_message login ∷ cond test (pass_message login ∷ []) []) none in (
      greeting ∷ line_reply code asked.1.0 ∷ [],
      record {
        settled = λ more. refl;
        stands = subst (λ (said : List Message). Stands (start_with before address (Some login)) now dialog.link dialog.patience said (greeting ∷ line_reply code asked.1.0 ∷ []) [])
            (sym due ∙ sym (append-nil (login_messages (Some login) (greeting ∷ line_reply code asked.1.0 ∷ [])))) asked.1.1;
      },
    )

-- PASS wasn't answered well
pub pass_refused : (before : Option (List LinkEvent)) (address : List ℕ) (login : Login) (now : Option (List LinkEvent)) (dialog : Dialog) (greeting reply : Reply) (reason : Why) → reply.code ≡ 381 → IsAsked (start_with before address (Some login)) now dialog.link dialog.patience (user_message login ∷ []) (pass_message login) (greeting ∷ reply ∷ []) (Err reason) → IsLoggedIn (start_with before address (Some login)) now dialog (Err reason)
pass_refused before address login now dialog greeting reply reason code asked =
    let due : login_messages (Some login) (greeting ∷ reply ∷ asked.1) ≡ user_message login ∷ pass_message login ∷ [] = rw code refl in (
      asked.0,
      greeting ∷ reply ∷ asked.1,
      stopped_ends (start_with before address (Some login)) now dialog.patience [] (user_message login ∷ pass_message login ∷ []) [] asked.0 reason (greeting ∷ reply ∷ asked.1)
          (append-nil (login_messages (Some login) (greeting ∷ reply ∷ asked.1)) ∙ due) tt asked.3,
    )

-- PASS logs in
pub pass_taken : (before : Option (List LinkEvent)) (address : List ℕ) (login : Login) (now : Option (List LinkEvent)) (dialog : Dialog) (greeting reply : Reply) (code : ℕ) → reply.code ≡ 381 → IsAsked (start_with before address (Some login)) now dialog.link dialog.patience (user_message login ∷ []) (pass_message login) (greeting ∷ reply ∷ []) (Ok code) → IsLoggedIn (start_with before address (Some login)) now dialog (Ok tt)
pass_taken before address login now dialog greeting reply code asks asked =
    let replies = greeting ∷ reply ∷ line_reply code asked.1.0 ∷ [] in
    let due : login_messages (Some login) replies ≡ user_message login ∷ pass_message login ∷ [] = rw asks refl in (
      replies,
      record {
        settled = λ more. refl;
        stands = subst (λ (said : List Message). Stands (start_with before address (Some login)) now dialog.link dialog.patience said replies [])
            (sym due ∙ sym (append-nil (login_messages (Some login) replies))) asked.1.1;
      },
    )

pub not_greeted_by : (start : Start) (now : Option (List LinkEvent)) (patience : ℕ) (reason : NotOpen) → IsNotGreeted start now patience reason → IsNotOpen start now patience reason
not_greeted_by start now patience not_open.NoLink s = s
not_greeted_by start now patience (not_open.Over reason) s = ([], s.0, not_greeted start now patience reason s.0 s.1 s.2)

-- a link that was greeted, once the login is done
pub logged_in_open : (start : Start) (then after : Option (List LinkEvent)) (live_then live : List Bool) (patience : ℕ) (dialog : Dialog) → IsGreeted start then live_then patience dialog → live ≡ live_then → IsLoggedIn start after dialog (Ok tt) → IsOpen start after live patience dialog
logged_in_open start then after live_then live patience dialog greeted same logged_in =
    (greeted.0, ap (λ l. slice_get l dialog.link) same ∙ greeted.1, logged_in)

pub logged_in_over : (start : Start) (after : Option (List LinkEvent)) (patience : ℕ) (dialog : Dialog) (reason : Why) → dialog.patience ≡ patience → IsLoggedIn start after dialog (Err reason) → IsNotOpen start after patience (not_open.Over reason)
logged_in_over start after patience dialog reason same s =
    (s.0, s.1, subst (λ (p : ℕ). Ends start after p [] s.0 reason s.1) same s.2)

-- the state that the login begins with
pub greeted_stands : (start : Start) (now : Option (List LinkEvent)) (live : List Bool) (patience : ℕ) (dialog : Dialog) → (s : IsGreeted start now live patience dialog) → Stands start now dialog.link dialog.patience [] (s.2.0 ∷ []) []
greeted_stands start now live patience dialog s = subst (λ (p : ℕ). Stands start now dialog.link p [] (s.2.0 ∷ []) []) (sym s.0) s.2.1
