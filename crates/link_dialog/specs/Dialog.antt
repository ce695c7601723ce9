-- A dialog on one link: messages sent one at a time, each after the reply to the one before.
use Rattle.std.specs.Prelude.{◌≡◌, ◌≢◌, ◌==◌, ◌+◌, ◌-◌, ◌≤◌, ◌<◌, ℕ, List, [], ◌∷◌, ◌++◌, Option, Some, None, if◌then◌else◌, nat_le, length, drop}
use Rattle.std.specs.List.{flat_map, AllByRecursion}
use Rattle.io_traits.specs.declared.links.LinkEvent.{LinkEvent}
use Rattle.io_traits.specs.declared.links.LinkEvent.TheVariants.{Opened, Sent, Heard, Quiet, Ended}
use Rattle.io_traits.specs.Trace.{sent}
use Rattle.nntp_lines.specs.Command.{user_line, pass_line, crlf}
use Rattle.nntp_lines.specs.declared.login.Login.{Login}
use Rattle.link_dialog.specs.declared.awaited.Awaited.{Awaited}
use Rattle.link_dialog.specs.declared.awaited.Awaited.TheVariants.{User, Pass}
use Rattle.link_dialog.specs.Events.{fine}
use Rattle.link_dialog.specs.Replies.{Reply}
use Rattle.link_dialog.specs.Moments.{reading_at, why_over, replies_heard}

-- a command with its CRLF, or an article as a block, and what its reply answers
pub record Message : Type 0 where
  pub kind : Awaited
  pub bytes : List ℕ

abbrev pub message_of : Awaited → List ℕ → Message
message_of kind bytes = record { kind = kind; bytes = bytes }

abbrev pub IsFull : Message → Type 0
IsFull message = 0 < length message.bytes

-- no message is empty
abbrev pub AreFull : List Message → Type 0
AreFull messages = AllByRecursion IsFull messages

abbrev pub all_bytes : List Message → List ℕ
all_bytes messages = flat_map (λ message. message.bytes) messages

-- the kinds of the messages that are whole in the first n bytes
abbrev pub kinds_within : List Message → ℕ → List Awaited
kinds_within [] n = []
kinds_within (message ∷ messages) n =
    if nat_le (length message.bytes) n then message.kind ∷ kinds_within messages (n - length message.bytes) else []

-- how many messages have a byte among the first n
abbrev pub begun_within : List Message → ℕ → ℕ
begun_within [] n = 0
begun_within (message ∷ messages) n = if n == 0 then 0 else 1 + begun_within messages (n - length message.bytes)

-- the kinds of the messages that are whole in what was sent
abbrev pub asked_by : List Message → List ℕ → List Awaited
asked_by messages bytes = kinds_within messages (length bytes)

-- ---- event by event

-- an event that may follow at a moment
abbrev pub MayFollow : List Message → List LinkEvent → LinkEvent → Type 0
MayFollow messages moment (Opened link address) = ⊥
-- a message is begun only once the greeting and the reply to each message before it were heard whole
MayFollow messages moment (Sent link bytes) =
    begun_within messages (length (sent moment) + length bytes) ≤ length (reading_at (asked_by messages) moment).replies
-- nothing is received where no reply is awaited
MayFollow messages moment (Heard link bytes) = (reading_at (asked_by messages) moment).waiting ≢ []
MayFollow messages moment (Quiet link) = (reading_at (asked_by messages) moment).waiting ≢ []
MayFollow messages moment (Ended link) = Unit {0}

-- each event meets this at the events before it
abbrev pub EachEvent : (List LinkEvent → LinkEvent → Type 0) → List LinkEvent → List LinkEvent → Type 0
EachEvent P before [] = Unit {0}
EachEvent P before (event ∷ events) = P before event × EachEvent P (before ++ event ∷ []) events

-- the link isn't over just before the event, and the event is in turn
pub record Follows (messages : List Message) (patience : ℕ) (before : List LinkEvent) (event : LinkEvent) : Type 0 where
  pub not_over : why_over patience (asked_by messages) before ≡ None
  pub in_turn : MayFollow messages (fine before) event

-- The events of one link behind its opening are a dialog of these messages: a front of them went out, and all of them where
-- the link isn't over.
pub record IsPlainDialog (messages : List Message) (patience : ℕ) (events : List LinkEvent) : Type 0 where
  pub each : EachEvent (Follows messages patience) [] events
  pub front : (unsent : List ℕ) × (sent events ++ unsent ≡ all_bytes messages)
  pub all : why_over patience (asked_by messages) events ≡ None → sent events ≡ all_bytes messages

-- ---- with a login (RFC 4643, 2.3)

abbrev pub user_message : Login → Message
user_message login = message_of User (user_line login.user ++ crlf)

abbrev pub pass_message : Login → Message
pass_message login = message_of Pass (pass_line login.pass ++ crlf)

-- The commands of the login that are due after these replies, the greeting first: the name of the user, and the password
-- where it is asked for by 381.
abbrev pub login_messages : Option Login → List Reply → List Message
login_messages None replies = []
login_messages (Some login) [] = user_message login ∷ []
login_messages (Some login) (greeting ∷ []) = user_message login ∷ []
login_messages (Some login) (greeting ∷ answer ∷ replies) =
    user_message login ∷ (if answer.code == 381 then pass_message login ∷ [] else [])

-- the replies to the messages behind the login, in order: all but the greeting and those to the commands of the login
abbrev pub answers_of : Option Login → List Reply → List Reply
answers_of login replies = drop (1 + length (login_messages login replies)) replies

-- the replies heard on a link on which these messages are said
abbrev pub answers_to : ℕ → List Message → List LinkEvent → List Reply
answers_to patience messages events = replies_heard patience (asked_by messages) events

-- The events are a dialog of the commands of the login that were due and then these messages, and these are the replies.
pub record IsDialog (login : Option Login) (messages : List Message) (patience : ℕ) (events : List LinkEvent) (replies : List Reply) : Type 0 where
  pub dialog : IsPlainDialog (login_messages login replies ++ messages) patience events
  pub answers : answers_to patience (login_messages login replies ++ messages) events ≡ replies
