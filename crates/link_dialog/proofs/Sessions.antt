-- What all sessions share: the replies behind those to the login, QUIT, and a dialog that was over before all was said.
use Rattle.std.proofs.Common.{◌≡◌, ◌+◌, ℕ, List, [], ◌∷◌, ◌++◌, Option, Some, ap, sym, subst, ◌∙◌, append_assoc, append-nil, ◌≤◌, length, drop, arith, lit<}
use Rattle.std.proofs.lemmas.List.{length-append, length-drop, drop-append-le, nil_from_length}
use Rattle.io_traits.specs.declared.links.LinkEvent.{LinkEvent}
use Rattle.nntp_lines.specs.declared.why.Why.{Why}
use Rattle.link_dialog.specs.declared.dialog.Dialog.{Dialog}
use Rattle.link_dialog.specs.Moments.{why_over}
use Rattle.link_dialog.specs.Replies.{Reply}
use Rattle.link_dialog.specs.Dialog.{Message, AreFull, all_bytes, asked_by, login_messages, answers_of, IsDialog}
use Rattle.link_dialog.specs.Talk.{Start, Rests, Ends, Talked, IsMessageRefused, IsSettled, bytes_said, said_of, quit_message}
use Rattle.link_dialog.proofs.HeardCount.{few_heard}
use Rattle.link_dialog.proofs.Standing.{full-append, bytes-append}
use Rattle.link_dialog.proofs.Talking.{ends_talked}

-- ---- the replies behind those to the login

-- how many replies a dialog at rest has
replies_at_rest : (start : Start) (now : Option (List LinkEvent)) (dialog : Dialog) (messages : List Message) (replies : List Reply) → Rests start now dialog messages replies → length replies ≡ 1 + length (login_messages start.login replies) + length messages
replies_at_rest start now dialog messages replies r =
    omega (arith, r.stands.count, length-append (login_messages start.login replies) messages)

pub count_of_answers : (start : Start) (now : Option (List LinkEvent)) (dialog : Dialog) (messages : List Message) (replies : List Reply) → Rests start now dialog messages replies → length (answers_of start.login replies) ≡ length messages
count_of_answers start now dialog messages replies r =
    omega (arith, replies_at_rest start now dialog messages replies r, length-drop (1 + length (login_messages start.login replies)) replies)

pub answers_more : (start : Start) (now : Option (List LinkEvent)) (dialog : Dialog) (messages : List Message) (replies more : List Reply) → Rests start now dialog messages replies → answers_of start.login (replies ++ more) ≡ answers_of start.login replies ++ more
answers_more start now dialog messages replies more r =
    ap (λ (l : List Message). drop (1 + length l) (replies ++ more)) (r.settled more)
    ∙ drop-append-le (1 + length (login_messages start.login replies)) replies more (omega (arith, replies_at_rest start now dialog messages replies r))

-- where nothing was said behind the login
pub no_answers : (start : Start) (now : Option (List LinkEvent)) (dialog : Dialog) (replies : List Reply) → Rests start now dialog [] replies → answers_of start.login replies ≡ []
no_answers start now dialog replies r = nil_from_length (answers_of start.login replies) (count_of_answers start now dialog [] replies r)

-- where the link is over before the login is done
pub no_answers_at_end : (start : Start) (now : Option (List LinkEvent)) (patience : ℕ) (out : List ℕ) (reason : Why) (replies : List Reply) → Ends start now patience [] out reason replies → answers_of start.login replies ≡ []
no_answers_at_end start now patience out reason replies e =
    let login : List Message = login_messages start.login replies in
    let alone : IsDialog start.login [] patience e.events replies = e.dialog [] tt in
    let heard : length replies ≤ length (login ++ []) + 1 = few_heard patience (login ++ []) e.events replies alone.answers in
    let same : length (login ++ []) ≡ length login = ap length (append-nil login) in
    nil_from_length (answers_of start.login replies) (omega (arith, heard, same, length-drop (1 + length login) replies))

-- ---- QUIT

-- a dialog that is over is one with QUIT behind it
pub quit_at_end : (start : Start) (now : Option (List LinkEvent)) (patience : ℕ) (messages : List Message) (out : List ℕ) (reason : Why) (replies : List Reply) → Ends start now patience messages out reason replies → Talked start now patience (messages ++ quit_message ∷ []) replies
quit_at_end start now patience messages out reason replies e = ends_talked start now patience messages (quit_message ∷ []) out reason replies (lit< tt, tt) e

-- a message that is refused, behind whose reply QUIT was said
pub refused : (start : Start) (now : Option (List LinkEvent)) (patience : ℕ) (messages : List Message) (message : Message) (replies : List Reply) (reply : Reply) (code : ℕ) → reply.code ≡ code →
    Talked start now patience ((messages ++ message ∷ []) ++ quit_message ∷ []) (replies ++ reply ∷ []) → IsMessageRefused start now patience messages message replies code
refused start now patience messages message replies reply code is t = record { reply = reply; code_is = is; talked = t }

-- the same, where bytes came behind it
pub refused_at_end : (start : Start) (now : Option (List LinkEvent)) (patience : ℕ) (messages : List Message) (message : Message) (out : List ℕ) (reason : Why) (replies : List Reply) (reply : Reply) (code : ℕ) → reply.code ≡ code →
    Ends start now patience (messages ++ message ∷ []) out reason (replies ++ reply ∷ []) → IsMessageRefused start now patience messages message replies code
refused_at_end start now patience messages message out reason replies reply code is e =
    refused start now patience messages message replies reply code is (quit_at_end start now patience (messages ++ message ∷ []) out reason (replies ++ reply ∷ []) e)

-- ---- where the link is over

-- a dialog that is over is one in which more was to be said
pub ends_longer : (start : Start) (now : Option (List LinkEvent)) (patience : ℕ) (messages extra longer : List Message) (out whole : List ℕ) (reason : Why) (replies all : List Reply) → messages ++ extra ≡ longer → AreFull extra → out ≡ whole → replies ≡ all →
    Ends start now patience messages out reason replies → Ends start now patience longer whole reason all
ends_longer start now patience messages extra longer out whole reason replies all is full same heard e =
    let again : (more : List Message) → messages ++ (extra ++ more) ≡ longer ++ more = λ more. sym (append_assoc messages extra more) ∙ ap (λ ms. ms ++ more) is in
    let longer_ends : Ends start now patience longer whole reason replies = record {
      link = e.link;
      events = e.events;
      on_this = e.on_this;
      told = e.told;
      bytes = e.bytes ∙ same;
      dialog = λ more more_full. subst (λ (ms : List Message). IsDialog start.login ms patience e.events replies) (again more) (e.dialog (extra ++ more) (full-append extra more full more_full));
      over = λ more more_full. subst (λ (ms : List Message). why_over patience (asked_by (said_of start ms replies)) e.events ≡ Some reason) (again more) (e.over (extra ++ more) (full-append extra more full more_full));
    } in
    subst (λ (rs : List Reply). Ends start now patience longer whole reason rs) heard longer_ends

-- one message more was said
pub said_more : (start : Start) (messages : List Message) (message : Message) (replies : List Reply) → bytes_said start (messages ++ message ∷ []) replies ≡ bytes_said start messages replies ++ message.bytes
said_more start messages message replies =
    let login : List Message = login_messages start.login replies in
    ap (λ ms. all_bytes ms) (sym (append_assoc login messages (message ∷ [])))
    ∙ bytes-append (login ++ messages) (message ∷ [])
    ∙ ap (λ bytes. all_bytes (login ++ messages) ++ bytes) (append-nil message.bytes)

-- the same, where replies were heard that change no login
pub said_after : (start : Start) (messages : List Message) (message : Message) (replies answers : List Reply) → IsSettled start.login replies → bytes_said start (messages ++ message ∷ []) (replies ++ answers) ≡ bytes_said start messages replies ++ message.bytes
said_after start messages message replies answers settled =
    ap (λ (login : List Message). all_bytes (login ++ (messages ++ message ∷ []))) (settled answers) ∙ said_more start messages message replies
