-- Where a dialog stands, in the terms of its caller.
use Rattle.std.specs.Prelude.{◌≡◌, ◌<◌, ◌≤◌, ◌+◌, ℕ, Bool, true, List, [], ◌∷◌, ◌++◌, Option, Some, Result, Ok, Err, length, take, slice_get, ⊤}
use Rattle.io_traits.specs.declared.links.LinkEvent.{LinkEvent}
use Rattle.io_traits.specs.declared.links.LinkEvent.TheVariants.{Opened}
use Rattle.io_traits.specs.Links.{tell}
use Rattle.io_traits.specs.Causes.{Rose, BlamesNamed}
use Rattle.io_traits.specs.declared.blame.Blame.{Blame}
use Rattle.io_traits.specs.declared.blame.Blame.TheVariants as blames
use Rattle.io_traits.specs.Trace.{sent}
use Rattle.nntp_lines.specs.Command.{quit_line, crlf}
use Rattle.nntp_lines.specs.declared.login.Login.{Login}
use Rattle.nntp_lines.specs.declared.why.Why.{Why}
use Rattle.nntp_lines.specs.declared.why.Why.TheVariants as why
use Rattle.link_dialog.specs.declared.awaited.Awaited.{Awaited}
use Rattle.link_dialog.specs.declared.awaited.Awaited.TheVariants.{Over, Body, Quit}
use Rattle.link_dialog.specs.declared.dialog.Dialog.{Dialog}
use Rattle.link_dialog.specs.declared.dialog.Cut.{Cut}
use Rattle.link_dialog.specs.declared.dialog.NotOpen.{NotOpen}
use Rattle.link_dialog.specs.declared.dialog.NotOpen.TheVariants as not_open
use Rattle.link_dialog.specs.declared.answer.Answer.{Answer}
use Rattle.link_dialog.specs.declared.answer.Answer.TheVariants as answer
use Rattle.link_dialog.specs.Events.{AllOn, fine, quiets_at_end}
use Rattle.link_dialog.specs.Replies.{Reply, is_meant}
use Rattle.link_dialog.specs.Moments.{IsListening, IsOver, state_of, why_over}
use Rattle.link_dialog.specs.Dialog.{Message, message_of, AreFull, all_bytes, asked_by, Follows, EachEvent, login_messages, IsDialog}

-- what a dialog began with: what was told before it, where its link was opened to, and who logs in
pub record Start : Type 0 where
  pub before : Option (List LinkEvent)
  pub address : List ℕ
  pub login : Option Login

-- the number of the link of a dialog, and how many quiet receives it bears
abbrev pub link_of_dialog : Dialog → ℕ
link_of_dialog dialog = dialog.link

abbrev pub patience_of : Dialog → ℕ
patience_of dialog = dialog.patience

-- ---- while the link goes on

-- the events so far are those of a dialog of these messages that goes on; these replies were heard whole, and these are
-- awaited, of which nothing was heard
pub record GoesOn (messages : List Message) (patience : ℕ) (events : List LinkEvent) (replies : List Reply) (waiting : List Awaited) : Type 0 where
  pub each : EachEvent (Follows messages patience) [] events
  pub listening : IsListening patience (asked_by messages) (fine events) (state_of replies waiting [])

-- The trace goes on by the opening of the link and the events of a dialog in which these messages went out whole, whatever
-- messages may follow.
pub record Stands (start : Start) (now : Option (List LinkEvent)) (link patience : ℕ) (said : List Message) (replies : List Reply) (waiting : List Awaited) : Type 0 where
  pub events : List LinkEvent
  pub on_this : AllOn link events
  pub told : now ≡ tell start.before (Opened link start.address ∷ events)
  pub whole : sent events ≡ all_bytes said
  pub full : AreFull said
  pub count : length replies + length waiting ≡ length said + 1
  pub goes : (more : List Message) → AreFull more → GoesOn (said ++ more) patience events replies waiting

-- the login is settled: no further reply changes which of its commands are due
abbrev pub IsSettled : Option Login → List Reply → Type 0
IsSettled login replies = (more : List Reply) → login_messages login (replies ++ more) ≡ login_messages login replies

-- all that was said: the commands of the login that were due, and then the messages
abbrev pub said_of : Start → List Message → List Reply → List Message
said_of start messages replies = login_messages start.login replies ++ messages

-- The link is open and logged in, each of these messages went out whole, and each has its reply.
pub record Rests (start : Start) (now : Option (List LinkEvent)) (dialog : Dialog) (messages : List Message) (replies : List Reply) : Type 0 where
  pub settled : IsSettled start.login replies
  pub stands : Stands start now dialog.link dialog.patience (said_of start messages replies) replies []

-- The same, but for the last of the messages, whose reply is awaited. Nothing of that reply was heard.
pub record Awaits (start : Start) (now : Option (List LinkEvent)) (dialog : Dialog) (messages : List Message) (kind : Awaited) (replies : List Reply) : Type 0 where
  pub settled : IsSettled start.login replies
  pub stands : Stands start now dialog.link dialog.patience (said_of start messages replies) replies (kind ∷ [])
  pub unquiet : quiets_at_end (fine stands.events) ≡ 0

-- ---- at its end

-- these events are in turn, and by the last of them the link was over
pub record StopsBy (messages : List Message) (patience : ℕ) (events : List LinkEvent) (reason : Why) (replies : List Reply) : Type 0 where
  pub each : EachEvent (Follows messages patience) [] events
  pub over : IsOver patience (asked_by messages) (fine events) reason replies

-- The link is over. The trace goes on by its opening and the events of a dialog of these messages, whatever may follow them.
pub record Stopped (start : Start) (now : Option (List LinkEvent)) (patience : ℕ) (said : List Message) (out : List ℕ) (reason : Why) (replies : List Reply) : Type 0 where
  pub link : ℕ
  pub events : List LinkEvent
  pub on_this : AllOn link events
  pub told : now ≡ tell start.before (Opened link start.address ∷ events)
  pub bytes : sent events ≡ out
  pub front : (unsent : List ℕ) × (out ++ unsent ≡ all_bytes said)
  pub stops : (more : List Message) → AreFull more → StopsBy (said ++ more) patience events reason replies

-- The trace goes on by one opening and a dialog of these messages, with these replies.
pub record Talked (start : Start) (now : Option (List LinkEvent)) (patience : ℕ) (messages : List Message) (replies : List Reply) : Type 0 where
  pub link : ℕ
  pub events : List LinkEvent
  pub on_this : AllOn link events
  pub told : now ≡ tell start.before (Opened link start.address ∷ events)
  pub dialog : IsDialog start.login messages patience events replies

-- The link is over for this reason, after these bytes were sent and these replies were heard whole. The trace goes on by one
-- opening and a dialog of these messages and whatever else was to be said. Nothing more may be sent.
pub record Ends (start : Start) (now : Option (List LinkEvent)) (patience : ℕ) (messages : List Message) (out : List ℕ) (reason : Why) (replies : List Reply) : Type 0 where
  pub link : ℕ
  pub events : List LinkEvent
  pub on_this : AllOn link events
  pub told : now ≡ tell start.before (Opened link start.address ∷ events)
  pub bytes : sent events ≡ out
  pub dialog : (more : List Message) → AreFull more → IsDialog start.login (messages ++ more) patience events replies
  pub over : (more : List Message) → AreFull more → why_over patience (asked_by (said_of start (messages ++ more) replies)) events ≡ Some reason

-- all bytes of the commands of the login and of the messages
abbrev pub bytes_said : Start → List Message → List Reply → List ℕ
bytes_said start messages replies = all_bytes (said_of start messages replies)

-- ---- a message and its reply

-- a reply of one line
abbrev pub line_reply : ℕ → List ℕ → Reply
line_reply code line = record { code = code; line = line; lines = [] }

-- no reply, or one
abbrev pub IsShort : List Reply → Type 0
IsShort answers = length answers ≤ 1

-- one message more was said, and its reply of one line was heard, or the link is over
abbrev pub IsAsked : Start → Option (List LinkEvent) → ℕ → ℕ → List Message → Message → List Reply → Result ℕ Why → Type 0
IsAsked start now link patience said message replies (Ok code) =
    (is_meant message.kind code ≡ true)
    × ((line : List ℕ) × Stands start now link patience (said ++ message ∷ []) (replies ++ line_reply code line ∷ []) [])
IsAsked start now link patience said message replies (Err reason) =
    (out : List ℕ) × (answers : List Reply) × IsShort answers × Stopped start now patience (said ++ message ∷ []) out reason (replies ++ answers)

-- ---- what the calls answer

-- Opening: the link is open and logged in, or it is over, or none was opened, for which the count of faults rose.
abbrev pub IsOpen : Start → Option (List LinkEvent) → List Bool → ℕ → Dialog → Type 0
IsOpen start now live patience dialog =
    (patience_of dialog ≡ patience) × (slice_get live (link_of_dialog dialog) ≡ Some true)
    × ((replies : List Reply) × Rests start now dialog [] replies)

-- the greeting was heard, and nothing was said
abbrev pub IsGreeted : Start → Option (List LinkEvent) → List Bool → ℕ → Dialog → Type 0
IsGreeted start now live patience dialog =
    (patience_of dialog ≡ patience) × (slice_get live (link_of_dialog dialog) ≡ Some true)
    × ((greeting : Reply) × Stands start now (link_of_dialog dialog) patience [] (greeting ∷ []) [])

abbrev pub IsNotGreeted : Start → Option (List LinkEvent) → ℕ → NotOpen → Type 0
IsNotGreeted start now patience not_open.NoLink = now ≡ start.before
IsNotGreeted start now patience (not_open.Over reason) = (replies : List Reply) × IsShort replies × Stopped start now patience [] [] reason replies

-- the commands of the login have their replies, or the link is over
abbrev pub IsLoggedIn : Start → Option (List LinkEvent) → Dialog → Result (Unit {0}) Why → Type 0
IsLoggedIn start now dialog (Ok done) = (replies : List Reply) × Rests start now dialog [] replies
IsLoggedIn start now dialog (Err reason) = (out : List ℕ) × (replies : List Reply) × Ends start now dialog.patience [] out reason replies

abbrev pub IsNotOpen : Start → Option (List LinkEvent) → ℕ → NotOpen → Type 0
IsNotOpen start now patience not_open.NoLink = now ≡ start.before
IsNotOpen start now patience (not_open.Over reason) =
    (out : List ℕ) × (replies : List Reply) × Ends start now patience [] out reason replies

-- the opening of a link to this address failed: the count of faults rose, and the call is blamed where that is told
abbrev pub OpeningFailed : (before now : ℕ) → (blame_before blame_now : Option (Option Blame)) → List ℕ → Type 0
OpeningFailed before now blame_before blame_now address =
    Rose before now × BlamesNamed {T = ℕ} {E = ℕ} blame_before blame_now (blames.Open address) (Err 0)

-- a fact where no link was opened
abbrev pub OnNoLink : NotOpen → Type 0 → Type 0
OnNoLink not_open.NoLink fact = fact
OnNoLink (not_open.Over reason) fact = ⊤

-- Saying: the message went out whole, and its reply is awaited, or the link ended after a front of it.
abbrev pub IsSaid : Start → Option (List LinkEvent) → Dialog → List Message → Message → List Reply → Result (Unit {0}) Cut → Type 0
IsSaid start now dialog messages message replies (Ok done) = Awaits start now dialog (messages ++ message ∷ []) message.kind replies
IsSaid start now dialog messages message replies (Err cut) =
    (cut.sent < length message.bytes)
    × Ends start now dialog.patience (messages ++ message ∷ []) (bytes_said start messages replies ++ take cut.sent message.bytes) why.Ended replies

-- Quitting: the dialog ends with QUIT, of which as much went out as the link took.
abbrev pub quit_message : Message
quit_message = message_of Quit (quit_line ++ crlf)

abbrev pub IsQuit : Start → Option (List LinkEvent) → Dialog → List Message → List Reply → Type 0
IsQuit start now dialog messages replies = Talked start now dialog.patience (messages ++ quit_message ∷ []) replies

-- A message was said behind these, its reply has this code, and the dialog ends with QUIT: how a session ends at a refusal.
pub record IsMessageRefused (start : Start) (now : Option (List LinkEvent)) (patience : ℕ) (messages : List Message) (message : Message) (replies : List Reply) (code : ℕ) : Type 0 where
  pub reply : Reply
  pub code_is : reply.code ≡ code
  pub talked : Talked start now patience ((messages ++ message ∷ []) ++ quit_message ∷ []) (replies ++ reply ∷ [])

-- Hearing a reply of one line: it was heard whole, or bytes behind it too, or the link is over without it.
abbrev pub IsHeard : Start → Option (List LinkEvent) → Dialog → List Message → Awaited → List Reply → Answer → Type 0
IsHeard start now dialog messages kind replies (answer.Code code) =
    (is_meant kind code ≡ true) × ((line : List ℕ) × Rests start now dialog messages (replies ++ line_reply code line ∷ []))
IsHeard start now dialog messages kind replies (answer.Unasked code) =
    (is_meant kind code ≡ true)
    × ((line : List ℕ) × Ends start now dialog.patience messages (bytes_said start messages replies) why.Unasked (replies ++ line_reply code line ∷ []))
IsHeard start now dialog messages kind replies (answer.Over reason) =
    Ends start now dialog.patience messages (bytes_said start messages replies) reason replies

-- a reply to this is one line, whatever its code
abbrev pub HasNoBlock : Awaited → Type 0
HasNoBlock Over = ⊥
HasNoBlock Body = ⊥
HasNoBlock other = Unit {0}

-- the link stays as it is where its reply was heard and nothing behind it
abbrev pub KeepsLive : List Bool → List Bool → Answer → Type 0
KeepsLive before now (answer.Code code) = now ≡ before
KeepsLive before now (answer.Unasked code) = ⊤
KeepsLive before now (answer.Over reason) = ⊤
