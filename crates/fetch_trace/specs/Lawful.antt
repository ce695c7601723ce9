-- Which event may follow at a moment: commands are sent whole and ahead of their replies (pipelining, RFC 3977, 3.5), and nothing
-- is received before each link has been given all that it may be asked.
use Rattle.std.specs.Prelude.{◌≡◌, ◌≢◌, ◌≤◌, ◌⊎◌, ℕ, true, false, List, [], ◌∷◌, ◌++◌, Some, None, length, slice_get}
use Rattle.io_traits.specs.declared.links.LinkEvent.{LinkEvent}
use Rattle.io_traits.specs.declared.links.LinkEvent.TheVariants as event
use Rattle.pipeline_core.specs.Pipeline.{next_segment, is_finished}
use Rattle.fetch_trace.specs.Setting.{Setting}
use Rattle.fetch_trace.specs.LinkNow.{LinkNow, is_over, is_ready, waiting_of}
use Rattle.fetch_trace.specs.Standing.{Standing, pipeline_of, place_from}
use Rattle.fetch_trace.specs.Due.{Due, due_on, login_due}
use Rattle.fetch_trace.specs.Moving.{moved}

-- the event is on this link, which isn't over
pub record IsOn (s : Standing) (n : ℕ) (i : ℕ) (l : LinkNow) : Type 0 where
  pub place : place_from 0 n s.links ≡ Some i
  pub here : slice_get s.links i ≡ Some l
  pub live : is_over l ≡ false

-- on no other link a command is sent in part, unless that link is over
abbrev pub OthersRest : Standing → ℕ → Type 0
OthersRest s i = (k : ℕ) (l : LinkNow) → k ≢ i → slice_get s.links k ≡ Some l → (l.saying.unsent ≡ []) ⊎ (is_over l ≡ true)

-- the piece is a front of these bytes
abbrev pub IsFront : List ℕ → List ℕ → Type 0
IsFront piece bytes = (piece ≢ []) × ((rest : List ℕ) × (piece ++ rest ≡ bytes))

-- a piece of the command that was begun, or of the one that is due
abbrev pub IsPieceDue : Setting → Standing → List ℕ → ℕ → LinkNow → List ℕ → Type 0
IsPieceDue setting s bytes i l [] = (due : Due) × (due_on setting (pipeline_of setting s.links) i l ≡ Some due) × IsFront bytes due.text
IsPieceDue setting s bytes i l (byte ∷ unsent) = IsFront bytes (byte ∷ unsent)

pub record MaySend (setting : Setting) (s : Standing) (n : ℕ) (bytes : List ℕ) : Type 0 where
  pub i : ℕ
  pub l : LinkNow
  pub on : IsOn s n i l
  pub others : OthersRest s i
  pub piece : IsPieceDue setting s bytes i l l.saying.unsent

-- it isn't greeted, or a command lacks its answer
abbrev pub Awaits : LinkNow → Type 0
Awaits l = (is_ready l ≡ false) ⊎ (waiting_of l.asking ≢ [])

-- no link has a segment to ask for
abbrev pub AreFull : Setting → Standing → Type 0
AreFull setting s = (k : ℕ) → next_segment (pipeline_of setting s.links) k ≡ None

-- on no link a command of the login is due
abbrev pub NoLoginDue : Standing → Type 0
NoLoginDue s = (k : ℕ) (l : LinkNow) → slice_get s.links k ≡ Some l → is_over l ≡ false → login_due l.opening.login l.hearing.replies l.hearing.waiting ≡ None

pub record MayReceive (setting : Setting) (s : Standing) (n : ℕ) : Type 0 where
  pub i : ℕ
  pub l : LinkNow
  pub on : IsOn s n i l
  pub whole : l.saying.unsent ≡ []
  pub unquit : l.saying.quits ≡ false
  pub others : OthersRest s i
  pub awaits : Awaits l
  pub full : AreFull setting s
  pub no_login : NoLoginDue s
  pub unfinished : is_finished (pipeline_of setting s.links) ≡ false

pub record MayEnd (s : Standing) (n : ℕ) : Type 0 where
  pub i : ℕ
  pub l : LinkNow
  pub on : IsOn s n i l
  pub others : OthersRest s i

-- how many bytes a receive takes at most
abbrev pub most_received : ℕ
most_received = 65536

abbrev pub MayCome : Setting → Standing → LinkEvent → Type 0
MayCome setting s (event.Opened n address) = ⊥
MayCome setting s (event.Sent n bytes) = MaySend setting s n bytes
MayCome setting s (event.Heard n bytes) = MayReceive setting s n × ((bytes ≢ []) × (length bytes ≤ most_received))
MayCome setting s (event.Quiet n) = MayReceive setting s n
MayCome setting s (event.Ended n) = MayEnd s n

-- each of the events may come at its moment
abbrev pub IsLawful : Setting → Standing → List LinkEvent → Type 0
IsLawful setting s [] = Unit {0}
IsLawful setting s (event ∷ events) = MayCome setting s event × IsLawful setting (moved setting s event) events

-- once each segment has arrived or is exhausted: a link is over, or it isn't greeted, or QUIT went out whole
abbrev pub HasQuit : LinkNow → Type 0
HasQuit l = (is_over l ≡ true) ⊎ ((is_ready l ≡ false) ⊎ ((l.saying.quits ≡ true) × (l.saying.unsent ≡ [])))

pub record IsAtEnd (setting : Setting) (s : Standing) : Type 0 where
  pub finished : is_finished (pipeline_of setting s.links) ≡ true
  pub quits : (k : ℕ) (l : LinkNow) → slice_get s.links k ≡ Some l → HasQuit l
