-- What holds of one link at a moment. `asked bytes` has the kinds of the messages that are whole in these bytes sent.
use Rattle.std.specs.Prelude.{◌≡◌, ℕ, false, List, [], ◌∷◌, ◌++◌, Option, Some, None, if◌then◌else◌, nat_le, is_some}
use Rattle.io_traits.specs.declared.links.LinkEvent.{LinkEvent}
use Rattle.io_traits.specs.Trace.{sent, heard}
use Rattle.nntp_lines.specs.declared.why.Why.{Why}
use Rattle.nntp_lines.specs.declared.why.Why.TheVariants.{Ended, Quiet}
use Rattle.link_dialog.specs.declared.awaited.Awaited.{Awaited}
use Rattle.link_dialog.specs.declared.awaited.Awaited.TheVariants.{Greeting}
use Rattle.link_dialog.specs.Events.{quiets_at_end, has_ended, fine}
use Rattle.link_dialog.specs.Reading.{RepliesRead, reading_of}
use Rattle.link_dialog.specs.Replies.{Reply, whole_reply, why_of_rest}

-- the replies heard whole, the greeting first, the kinds still awaited, and the rest
abbrev pub reading_at : (List ℕ → List Awaited) → List LinkEvent → RepliesRead Awaited Reply
reading_at asked moment = reading_of whole_reply (Greeting ∷ asked (sent moment)) (heard moment)

-- The first reason that holds at a moment, in this order: the link ended; its last `patience` events are quiet receives;
-- what was heard behind the replies ends it.
abbrev pub why_at : ℕ → (List ℕ → List Awaited) → List LinkEvent → Option Why
why_at patience asked moment =
    if has_ended moment then Some Ended
    else (if nat_le patience (quiets_at_end moment) then Some Quiet
    else why_of_rest (reading_at asked moment).waiting (reading_at asked moment).rest)

-- the front of the events up to the first moment at which a reason holds, or all of them
abbrev pub lived_from : (List LinkEvent → Option Why) → List LinkEvent → List LinkEvent → List LinkEvent
lived_from why before [] = before
lived_from why before (event ∷ events) = if is_some (why before) then before else lived_from why (before ++ event ∷ []) events

-- the last moment of a link that counts: the one at which it is over, or the last of all
abbrev pub last_moment : ℕ → (List ℕ → List Awaited) → List LinkEvent → List LinkEvent
last_moment patience asked events = lived_from (why_at patience asked) [] (fine events)

-- why the link is over, if it is
abbrev pub why_over : ℕ → (List ℕ → List Awaited) → List LinkEvent → Option Why
why_over patience asked events = why_at patience asked (last_moment patience asked events)

-- the replies heard whole by that moment
abbrev pub replies_heard : ℕ → (List ℕ → List Awaited) → List LinkEvent → List Reply
replies_heard patience asked events = (reading_at asked (last_moment patience asked events)).replies

-- ---- in steps

-- a state of reading: these replies, these kinds awaited, this rest
abbrev pub state_of : List Reply → List Awaited → List ℕ → RepliesRead Awaited Reply
state_of replies waiting rest = record { replies = replies; waiting = waiting; rest = rest }

-- at this moment the link isn't over, and wasn't before; what was read so far
pub record IsListening (patience : ℕ) (asked : List ℕ → List Awaited) (moment : List LinkEvent) (state : RepliesRead Awaited Reply) : Type 0 where
  pub lived : lived_from (why_at patience asked) [] moment ≡ moment
  pub not_over : why_at patience asked moment ≡ None
  pub reading : reading_at asked moment ≡ state
  pub not_ended : has_ended moment ≡ false

-- by this moment the link was over, for this reason and after these replies
pub record IsOver (patience : ℕ) (asked : List ℕ → List Awaited) (moment : List LinkEvent) (reason : Why) (replies : List Reply) : Type 0 where
  pub why : why_at patience asked (lived_from (why_at patience asked) [] moment) ≡ Some reason
  pub answers : (reading_at asked (lived_from (why_at patience asked) [] moment)).replies ≡ replies
