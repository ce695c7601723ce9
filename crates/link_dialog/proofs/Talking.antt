-- A dialog in the terms of its caller: with the commands of the login before the messages.
use Rattle.std.proofs.Common.{◌≡◌, ◌+◌, ℕ, Bool, true, List, [], ◌∷◌, ◌++◌, Option, Some, None, Ok, Err, refl, ap, sym, subst, ◌∙◌, append_assoc, append-nil, length, take, arith}
use Rattle.std.specs.Prelude.{Result, MatchResult, slice_get}
use Rattle.std.proofs.lemmas.List.{length-append, get_or_push}
use Rattle.std.proofs.lemmas.Option.{slice_get_read}
use Rattle.io_traits.specs.declared.links.LinkEvent.{LinkEvent}
use Rattle.io_traits.specs.Trace.{sent}
use Rattle.nntp_lines.specs.declared.login.Login.{Login}
use Rattle.nntp_lines.specs.declared.why.Why.{Why}
use Rattle.nntp_lines.specs.declared.why.Why.TheVariants as why
use Rattle.link_dialog.specs.declared.awaited.Awaited.{Awaited}
use Rattle.link_dialog.specs.declared.awaited.Awaited.TheVariants.{Quit, Group}
use Rattle.link_dialog.specs.declared.answer.Answer.{Answer}
use Rattle.link_dialog.specs.declared.answer.Answer.TheVariants as answer
use Rattle.link_dialog.specs.declared.answer.GroupAnswer.{GroupAnswer}
use Rattle.link_dialog.specs.declared.answer.GroupAnswer.TheVariants as group_answer
use Rattle.link_dialog.specs.declared.dialog.Dialog.{Dialog}
use Rattle.link_dialog.specs.declared.dialog.Cut.{Cut}
use Rattle.link_dialog.specs.Reading.{RepliesRead}
use Rattle.link_dialog.specs.Replies.{Reply}
use Rattle.link_dialog.specs.Moments.{reading_at}
use Rattle.link_dialog.specs.Dialog.{Message, IsFull, AreFull, all_bytes, asked_by, login_messages}
use Rattle.link_dialog.specs.Sending.{SentWhole, SentInPart}
use Rattle.link_dialog.specs.Heard.{IsAnswered, IsGroupAnswered}
use Rattle.link_dialog.specs.Hearing.{HeardTo}
use Rattle.link_dialog.specs.BlockHearing.{IsBlockAnswered}
use Rattle.link_dialog.specs.TalkBlock.{IsBlockHeard, IsGroupHeard}
use Rattle.link_dialog.specs.Talk.{Start, GoesOn, Stands, IsSettled, said_of, bytes_said, Rests, Awaits, StopsBy, Stopped, Talked, Ends, IsSaid, IsHeard, IsAsked, IsQuit, quit_message, line_reply}
use Rattle.link_dialog.proofs.Standing.{Waits, full-append, bytes-append, heard_on, heard_over, said_whole, said_in_part}

-- ---- the link is over

-- over in a dialog of what was said is over in a dialog of these messages
pub stopped_ends : (start : Start) (now : Option (List LinkEvent)) (patience : ℕ) (messages said extra : List Message) (out : List ℕ) (reason : Why) (replies : List Reply) → login_messages start.login replies ++ messages ≡ said ++ extra → AreFull extra → Stopped start now patience said out reason replies → Ends start now patience messages out reason replies
stopped_ends start now patience messages said extra out reason replies is extra_full s =
    let same : (more : List Message) → said ++ (extra ++ more) ≡ login_messages start.login replies ++ (messages ++ more) =
    λ more. sym (append_assoc said extra more) ∙ ap (λ t. t ++ more) (sym is) ∙ append_assoc (login_messages start.login replies) messages more in
    let stops : (more : List Message) → AreFull more → StopsBy (login_messages start.login replies ++ (messages ++ more)) patience s.events reason replies =
    λ more full. subst (λ (ms : List Message). StopsBy ms patience s.events reason replies) (same more) (s.stops (extra ++ more) (full-append extra more extra_full full)) in
    record {
      link = s.link;
      events = s.events;
      on_this = s.on_this;
      told = s.told;
      bytes = s.bytes;
      dialog = λ more full. record {
        dialog = record {
          each = (stops more full).each;
          front = (
            s.front.0 ++ all_bytes (extra ++ more),
            ap (λ t. t ++ (s.front.0 ++ all_bytes (extra ++ more))) s.bytes ∙ sym (append_assoc out s.front.0 (all_bytes (extra ++ more)))
                ∙ ap (λ t. t ++ all_bytes (extra ++ more)) s.front.1 ∙ sym (bytes-append said (extra ++ more)) ∙ ap (λ ms. all_bytes ms) (same more),
          );
          all = λ none. let two : Some reason ≡ None = sym (stops more full).over.why ∙ none in cc;
        };
        answers = (stops more full).over.answers;
      };
      over = λ more full. (stops more full).over.why;
    }

-- a dialog that stopped is one of any longer list of messages
pub ends_talked : (start : Start) (now : Option (List LinkEvent)) (patience : ℕ) (messages more : List Message) (out : List ℕ) (reason : Why) (replies : List Reply) → AreFull more → Ends start now patience messages out reason replies → Talked start now patience (messages ++ more) replies
ends_talked start now patience messages more out reason replies full s =
    record { link = s.link; events = s.events; on_this = s.on_this; told = s.told; dialog = s.dialog more full }

-- ---- saying

said_again : (start : Start) (messages : List Message) (message : Message) (replies : List Reply) → said_of start messages replies ++ message ∷ [] ≡ said_of start (messages ++ message ∷ []) replies
said_again start messages message replies = append_assoc (login_messages start.login replies) messages (message ∷ [])

says_whole : (start : Start) (now after : Option (List LinkEvent)) (dialog : Dialog) (messages : List Message) (message : Message) (replies : List Reply) → IsFull message → Rests start now dialog messages replies → SentWhole now after dialog.link message.bytes → Waits start after dialog.link dialog.patience (said_of start (messages ++ message ∷ []) replies) replies message.kind
says_whole start now after dialog messages message replies full r s =
    subst (λ (said : List Message). Waits start after dialog.link dialog.patience said replies message.kind) (said_again start messages message replies)
    (said_whole start now after dialog.link dialog.patience (said_of start messages replies) message replies dialog.patient full r.stands s)

says_part : (start : Start) (now after : Option (List LinkEvent)) (dialog : Dialog) (messages : List Message) (message : Message) (replies : List Reply) (n : ℕ) → IsFull message → Rests start now dialog messages replies → SentInPart now after dialog.link message.bytes n → Ends start after dialog.patience (messages ++ message ∷ []) (bytes_said start messages replies ++ take n message.bytes) why.Ended replies
says_part start now after dialog messages message replies n full r s =
    stopped_ends start after dialog.patience (messages ++ message ∷ []) (said_of start messages replies ++ message ∷ []) [] (bytes_said start messages replies ++ take n message.bytes) why.Ended replies
    (sym (said_again start messages message replies) ∙ sym (append-nil (said_of start messages replies ++ message ∷ []))) tt
    (said_in_part start now after dialog.link dialog.patience (said_of start messages replies) message replies n dialog.patient full r.stands s)

pub says : (start : Start) (now after : Option (List LinkEvent)) (dialog : Dialog) (messages : List Message) (message : Message) (replies : List Reply) (result : Result (Unit {0}) Cut) → IsFull message → Rests start now dialog messages replies → MatchResult result (λ _. SentWhole now after dialog.link message.bytes) (λ (cut : Cut). SentInPart now after dialog.link message.bytes cut.sent) → IsSaid start after dialog messages message replies result
says start now after dialog messages message replies (Ok done) full r s =
    let w = says_whole start now after dialog messages message replies full r s in
    record { settled = r.settled; stands = w.stands; unquiet = w.unquiet }
says start now after dialog messages message replies (Err cut) full r s =
    (s.some, says_part start now after dialog messages message replies cut.sent full r s)

-- ---- hearing

settled_more : (login : Option Login) (replies : List Reply) (reply : Reply) → IsSettled login replies → IsSettled login (replies ++ reply ∷ [])
settled_more login replies reply settled more =
    ap (λ rs. login_messages login rs) (append_assoc replies (reply ∷ []) more) ∙ settled (reply ∷ more) ∙ sym (settled (reply ∷ []))

hears_over : (start : Start) (now after : Option (List LinkEvent)) (dialog : Dialog) (messages : List Message) (kind : Awaited) (replies answers : List Reply) (reason : Why) → Awaits start now dialog messages kind replies → Stopped start after dialog.patience (said_of start messages replies) (bytes_said start messages replies) reason (replies ++ answers) → Ends start after dialog.patience messages (bytes_said start messages replies) reason (replies ++ answers)
hears_over start now after dialog messages kind replies answers reason a s =
    stopped_ends start after dialog.patience messages (said_of start messages replies) [] (bytes_said start messages replies) reason (replies ++ answers)
    (ap (λ l. l ++ messages) (a.settled answers) ∙ sym (append-nil (said_of start messages replies))) tt s

waits_of : (start : Start) (now : Option (List LinkEvent)) (dialog : Dialog) (messages : List Message) (kind : Awaited) (replies : List Reply) → Awaits start now dialog messages kind replies → Waits start now dialog.link dialog.patience (said_of start messages replies) replies kind
waits_of start now dialog messages kind replies a = record { stands = a.stands; unquiet = a.unquiet }

-- whatever its kind, a reply that was heard whole, and one with which the link ended
pub hears_on : (start : Start) (now after : Option (List LinkEvent)) (dialog : Dialog) (messages : List Message) (kind : Awaited) (replies : List Reply) (reply : Reply) → Awaits start now dialog messages kind replies → HeardTo now after dialog.link dialog.patience kind (reply ∷ []) None → Rests start after dialog messages (replies ++ reply ∷ [])
hears_on start now after dialog messages kind replies reply a h =
    let stands = heard_on start now after dialog.link dialog.patience (said_of start messages replies) replies (reply ∷ []) kind (waits_of start now dialog messages kind replies a) h refl in
    record {
      settled = settled_more start.login replies reply a.settled;
      stands = subst (λ (l : List Message). Stands start after dialog.link dialog.patience (l ++ messages) (replies ++ reply ∷ []) []) (sym (a.settled (reply ∷ []))) stands;
    }

pub hears_last : (start : Start) (now after : Option (List LinkEvent)) (dialog : Dialog) (messages : List Message) (kind : Awaited) (replies answers : List Reply) (reason : Why) → Awaits start now dialog messages kind replies → HeardTo now after dialog.link dialog.patience kind answers (Some reason) → Ends start after dialog.patience messages (bytes_said start messages replies) reason (replies ++ answers)
hears_last start now after dialog messages kind replies answers reason a h =
    hears_over start now after dialog messages kind replies answers reason a
    (heard_over start now after dialog.link dialog.patience (said_of start messages replies) replies answers kind reason (waits_of start now dialog messages kind replies a) h)

-- a reply of one line
pub hears_answer : (start : Start) (now after : Option (List LinkEvent)) (dialog : Dialog) (messages : List Message) (kind : Awaited) (replies : List Reply) (result : Answer) → Awaits start now dialog messages kind replies → IsAnswered now after dialog.link dialog.patience kind result → IsHeard start after dialog messages kind replies result
hears_answer start now after dialog messages kind replies (answer.Code code) a h =
    (h.0, (h.1.0, hears_on start now after dialog messages kind replies (line_reply code h.1.0) a h.1.1))
hears_answer start now after dialog messages kind replies (answer.Unasked code) a h =
    (h.0, (h.1.0, hears_last start now after dialog messages kind replies (line_reply code h.1.0 ∷ []) why.Unasked a h.1.1))
hears_answer start now after dialog messages kind replies (answer.Over reason) a h =
    subst (λ (rs : List Reply). Ends start after dialog.patience messages (bytes_said start messages replies) reason rs) (append-nil replies)
    (hears_last start now after dialog messages kind replies [] reason a h)

-- a reply with a block
pub hears_block : (start : Start) (now after : Option (List LinkEvent)) (dialog : Dialog) (messages : List Message) (kind : Awaited) (replies : List Reply) (kept : Bool) (block : List ℕ) (result : Answer) → Awaits start now dialog messages kind replies → IsBlockAnswered now after dialog.link dialog.patience kind kept block result → IsBlockHeard start after dialog messages kind replies kept block result
hears_block start now after dialog messages kind replies kept block (answer.Code code) a h =
    (h.0, (h.1.0, h.1.1, hears_on start now after dialog messages kind replies h.1.0 a h.1.2))
hears_block start now after dialog messages kind replies kept block (answer.Unasked code) a h =
    (h.0, (h.1.0, h.1.1, hears_last start now after dialog messages kind replies (h.1.0 ∷ []) why.Unasked a h.1.2))
hears_block start now after dialog messages kind replies kept block (answer.Over reason) a h =
    subst (λ (rs : List Reply). Ends start after dialog.patience messages (bytes_said start messages replies) reason rs) (append-nil replies)
    (hears_last start now after dialog messages kind replies [] reason a h)

-- the reply to GROUP
pub hears_group : (start : Start) (now after : Option (List LinkEvent)) (dialog : Dialog) (messages : List Message) (replies : List Reply) (result : GroupAnswer) → Awaits start now dialog messages Group replies → IsGroupAnswered now after dialog.link dialog.patience result → IsGroupHeard start after dialog messages replies result
hears_group start now after dialog messages replies (group_answer.Chosen group) a h =
    (h.0, h.1, hears_on start now after dialog messages Group replies (line_reply 211 h.0) a h.2)
hears_group start now after dialog messages replies (group_answer.ChosenUnasked group) a h =
    (h.0, h.1, hears_last start now after dialog messages Group replies (line_reply 211 h.0 ∷ []) why.Unasked a h.2)
hears_group start now after dialog messages replies (group_answer.Code code) a h =
    (h.0, h.1, (h.2.0, hears_on start now after dialog messages Group replies (line_reply code h.2.0) a h.2.1))
hears_group start now after dialog messages replies (group_answer.Unasked code) a h =
    (h.0, h.1, (h.2.0, hears_last start now after dialog messages Group replies (line_reply code h.2.0 ∷ []) why.Unasked a h.2.1))
hears_group start now after dialog messages replies (group_answer.Over reason) a h =
    subst (λ (rs : List Reply). Ends start after dialog.patience messages (bytes_said start messages replies) reason rs) (append-nil replies)
    (hears_last start now after dialog messages Group replies [] reason a h)

-- ---- quitting

-- all that was said went out, and the link isn't over
waits_talked : (start : Start) (now : Option (List LinkEvent)) (link patience : ℕ) (messages : List Message) (replies : List Reply) (kind : Awaited) → Waits start now link patience (said_of start messages replies) replies kind → Talked start now patience messages replies
waits_talked start now link patience messages replies kind w =
    let said = said_of start messages replies in
    let goes : GoesOn said patience w.stands.events replies (kind ∷ []) =
    subst (λ (ms : List Message). GoesOn ms patience w.stands.events replies (kind ∷ [])) (append-nil said) (w.stands.goes [] tt) in
    record {
      link = link;
      events = w.stands.events;
      on_this = w.stands.on_this;
      told = w.stands.told;
      dialog = record {
        dialog = record { each = goes.each; front = ([], append-nil (sent w.stands.events) ∙ w.stands.whole); all = λ none. w.stands.whole };
        answers = ap (λ m. (reading_at (asked_by said) m).replies) goes.listening.lived ∙ ap (λ (r : RepliesRead Awaited Reply). r.replies) goes.listening.reading;
      };
    }

pub quits : (start : Start) (now after : Option (List LinkEvent)) (dialog : Dialog) (messages : List Message) (replies : List Reply) (result : Result (Unit {0}) Cut) → Rests start now dialog messages replies → MatchResult result (λ _. SentWhole now after dialog.link quit_message.bytes) (λ (cut : Cut). SentInPart now after dialog.link quit_message.bytes cut.sent) → IsQuit start after dialog messages replies
quits start now after dialog messages replies (Ok done) r s =
    waits_talked start after dialog.link dialog.patience (messages ++ quit_message ∷ []) replies Quit
    (says_whole start now after dialog messages quit_message replies (omega arith) r s)
quits start now after dialog messages replies (Err cut) r s =
    subst (λ (ms : List Message). Talked start after dialog.patience ms replies) (append-nil (messages ++ quit_message ∷ []))
    (ends_talked start after dialog.patience (messages ++ quit_message ∷ []) [] _ why.Ended replies tt
    (says_part start now after dialog messages quit_message replies cut.sent (omega arith) r s))

-- ---- asking

pub asks_cut : (start : Start) (now after : Option (List LinkEvent)) (dialog : Dialog) (said : List Message) (message : Message) (replies : List Reply) (n : ℕ) → IsFull message → Stands start now dialog.link dialog.patience said replies [] → SentInPart now after dialog.link message.bytes n → IsAsked start after dialog.link dialog.patience said message replies (Err why.Ended)
asks_cut start now after dialog said message replies n full t s = (
  all_bytes said ++ take n message.bytes,
  [],
  omega arith,
  subst (λ (rs : List Reply). Stopped start after dialog.patience (said ++ message ∷ []) (all_bytes said ++ take n message.bytes) why.Ended rs) (sym (append-nil replies))
      (said_in_part start now after dialog.link dialog.patience said message replies n dialog.patient full t s),
)

-- what an answer is to one who asks
abbrev pub asked_of : Answer → Result ℕ Why
asked_of (answer.Code code) = Ok code
asked_of (answer.Unasked code) = Err why.Unasked
asked_of (answer.Over reason) = Err reason

pub asks : (start : Start) (now then after : Option (List LinkEvent)) (dialog : Dialog) (said : List Message) (message : Message) (replies : List Reply) (result : Answer) → IsFull message → Stands start now dialog.link dialog.patience said replies [] → SentWhole now then dialog.link message.bytes → IsAnswered then after dialog.link dialog.patience message.kind result → IsAsked start after dialog.link dialog.patience said message replies (asked_of result)
asks start now then after dialog said message replies (answer.Code code) full t s h = (
  h.0,
  (
    h.1.0,
    heard_on start then after dialog.link dialog.patience (said ++ message ∷ []) replies (line_reply code h.1.0 ∷ []) message.kind
        (said_whole start now then dialog.link dialog.patience said message replies dialog.patient full t s) h.1.1 refl,
  ),
)
asks start now then after dialog said message replies (answer.Unasked code) full t s h = (
  all_bytes (said ++ message ∷ []),
  line_reply code h.1.0 ∷ [],
  omega arith,
  heard_over start then after dialog.link dialog.patience (said ++ message ∷ []) replies (line_reply code h.1.0 ∷ []) message.kind why.Unasked
      (said_whole start now then dialog.link dialog.patience said message replies dialog.patient full t s) h.1.1,
)
asks start now then after dialog said message replies (answer.Over reason) full t s h = (
  all_bytes (said ++ message ∷ []),
  [],
  omega arith,
  heard_over start then after dialog.link dialog.patience (said ++ message ∷ []) replies [] message.kind reason
      (said_whole start now then dialog.link dialog.patience said message replies dialog.patient full t s) h,
)

-- a link just opened is live
pub opened_live : (live after : List Bool) (link : ℕ) → link ≡ length live → after ≡ live ++ true ∷ [] → slice_get after link ≡ Some true
opened_live live after link number more =
    let long : length (live ++ true ∷ []) ≡ length live + 1 = length-append live (true ∷ []) in
    ap (λ l. slice_get l link) more
    ∙ slice_get_read (live ++ true ∷ []) (length (live ++ true ∷ [])) link true refl (omega (arith, long, number)) (sym (get_or_push live true true link (sym number)))
