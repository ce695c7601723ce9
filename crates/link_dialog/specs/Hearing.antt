-- What hearing one reply tells, and what that means wherever such a reply is awaited.
use Rattle.std.specs.Prelude.{◌≡◌, ◌-◌, ℕ, List, [], ◌∷◌, ◌++◌, Option, Some, None, take}
use Rattle.io_traits.specs.declared.links.LinkEvent.{LinkEvent}
use Rattle.io_traits.specs.declared.links.LinkEvent.TheVariants.{Heard as HeardBytes}
use Rattle.io_traits.specs.Links.{tell}
use Rattle.io_traits.specs.Trace.{sent}
use Rattle.nntp_lines.specs.declared.why.Why.{Why}
use Rattle.link_dialog.specs.declared.awaited.Awaited.{Awaited}
use Rattle.link_dialog.specs.declared.reader.Reader.{Reader}
use Rattle.link_dialog.specs.Events.{AllOn, fine, quiets_at_end}
use Rattle.link_dialog.specs.Replies.{Reply}
use Rattle.link_dialog.specs.Moments.{IsListening, IsOver, state_of}
use Rattle.link_dialog.specs.Dialog.{Message, asked_by, Follows, EachEvent}
use Rattle.link_dialog.specs.Fed.{ListensAt}
use Rattle.link_dialog.specs.Reader.{IsLine}

-- ---- while the reply isn't whole

-- after these events, in a dialog of these messages, the new ones are in turn, and these bytes were heard of the reply
pub record HearsSoFar (messages : List Message) (patience : ℕ) (kind : Awaited) (before got : List LinkEvent) (replies : List Reply) (bytes : List ℕ) (quiet : ℕ) : Type 0 where
  pub each : EachEvent (Follows messages patience) before got
  pub unsent : sent got ≡ []
  pub listening : IsListening patience (asked_by messages) (fine (before ++ got)) (state_of replies (kind ∷ []) bytes)
  pub quiets : quiets_at_end (fine (before ++ got)) ≡ quiet

-- the reply to a message of this kind is awaited, and nothing of it was heard
abbrev pub IsDue : List Message → ℕ → Awaited → List LinkEvent → List Reply → Type 0
IsDue messages patience kind events replies =
    IsListening patience (asked_by messages) (fine events) (state_of replies (kind ∷ []) []) × (quiets_at_end (fine events) ≡ 0)

pub record HeardSoFar (before now : Option (List LinkEvent)) (link patience : ℕ) (kind : Awaited) (quiet : ℕ) : Type 0 where
  pub got : List LinkEvent
  pub on_this : AllOn link got
  pub told : now ≡ tell before got
  pub bytes : List ℕ
  pub hears : (messages : List Message) (events : List LinkEvent) (replies : List Reply) → IsDue messages patience kind events replies →
      HearsSoFar messages patience kind events got replies bytes quiet

-- ---- at the end

-- all replies that were due were heard, or the link is over
abbrev pub IsAtEnd : ℕ → (List ℕ → List Awaited) → List LinkEvent → List Reply → Option Why → Type 0
IsAtEnd patience asked moment replies None = IsListening patience asked moment (state_of replies [] [])
IsAtEnd patience asked moment replies (Some reason) = IsOver patience asked moment reason replies

pub record Hears (messages : List Message) (patience : ℕ) (before got : List LinkEvent) (replies : List Reply) (over : Option Why) : Type 0 where
  pub each : EachEvent (Follows messages patience) before got
  pub unsent : sent got ≡ []
  pub ends : IsAtEnd patience (asked_by messages) (fine (before ++ got)) replies over

-- what was heard told these events, after which these replies were heard whole, or the link is over
pub record HeardTo (before after : Option (List LinkEvent)) (link patience : ℕ) (kind : Awaited) (answers : List Reply) (over : Option Why) : Type 0 where
  pub got : List LinkEvent
  pub on_this : AllOn link got
  pub told : after ≡ tell before got
  pub hears : (messages : List Message) (events : List LinkEvent) (replies : List Reply) → IsDue messages patience kind events replies →
      Hears messages patience events got (replies ++ answers) over

-- ---- at the end of the status line

-- a status line that is meant ended with the last of the bytes that were used of the last piece
pub record LineHeard (before after : Option (List LinkEvent)) (link patience : ℕ) (kind : Awaited) (piece : List ℕ) (used code : ℕ) (reader : Reader) : Type 0 where
  pub now : Option (List LinkEvent)
  pub quiet : ℕ
  pub so_far : HeardSoFar before now link patience kind quiet
  pub told : after ≡ tell now (HeardBytes link piece ∷ [])
  pub line : IsLine kind (so_far.bytes ++ take used piece) code reader
  pub listens : (asked : List ℕ → List Awaited) (moment : List LinkEvent) (replies : List Reply) → IsListening patience asked moment (state_of replies (kind ∷ []) so_far.bytes) →
      ListensAt patience link asked moment replies kind so_far.bytes (take (used - 1) piece)
