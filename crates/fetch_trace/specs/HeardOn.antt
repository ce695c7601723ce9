-- What is carried of a link from event to event is what the link's own events say (RFC 3977, 3.1, 3.2 and 3.5).
use Rattle.std.specs.Prelude.{◌≡◌, ◌<◌, ℕ, Bool, true, false, List, [], ◌∷◌, ◌++◌, Option, Some, None, if◌then◌else◌, map, slice_get}
use Rattle.io_traits.specs.declared.links.LinkEvent.{LinkEvent}
use Rattle.io_traits.specs.Trace.{on_link, sent}
use Rattle.nntp_lines.specs.Command.{body_line, crlf}
use Rattle.nntp_lines.specs.declared.why.Why.{Why}
use Rattle.link_dialog.specs.declared.awaited.Awaited.{Awaited}
use Rattle.link_dialog.specs.declared.awaited.Awaited.TheVariants.{Body}
use Rattle.link_dialog.specs.Events.{fine, quiets_at_end}
use Rattle.link_dialog.specs.Moments.{IsListening, IsOver, state_of, why_over, replies_heard}
use Rattle.link_dialog.specs.Dialog.{Message, message_of, AreFull, all_bytes, asked_by}
use Rattle.fetch_trace.specs.Setting.{Setting}
use Rattle.fetch_trace.specs.Hearing.{Hearing}
use Rattle.fetch_trace.specs.LinkNow.{LinkNow}
use Rattle.fetch_trace.specs.Standing.{Standing, before_all, place_from}
use Rattle.fetch_trace.specs.Moving.{standing_at}
use Rattle.fetch_trace.specs.Lawful.{IsLawful}

-- the link listens, or is over, as these events of it say, where these kinds are asked by what was sent
pub record Listens (p : ℕ) (asked : List ℕ → List Awaited) (m : List LinkEvent) (h : Hearing) : Type 0 where
  pub listening : IsListening p asked m (state_of h.replies h.waiting h.rest)
  pub quiets : quiets_at_end m ≡ h.quiets
  pub few : h.quiets < p

abbrev pub HeardBy : ℕ → (List ℕ → List Awaited) → List LinkEvent → Hearing → Option Why → Type 0
HeardBy p asked m h None = Listens p asked m h
HeardBy p asked m h (Some reason) = IsOver p asked m reason h.replies

abbrev pub HeardAs : ℕ → (List ℕ → List Awaited) → List LinkEvent → Hearing → Type 0
HeardAs p asked m h = HeardBy p asked m h h.over

-- the commands BODY among some messages
abbrev pub is_body : Awaited → Bool
is_body Body = true
is_body other = false

abbrev pub bodies_of : List Message → List Message
bodies_of [] = []
bodies_of (message ∷ messages) = if is_body message.kind then message ∷ bodies_of messages else bodies_of messages

abbrev pub body_message : Setting → ℕ → Message
body_message setting segment = message_of Body (body_line (setting.id segment) ++ crlf)

-- all messages went out whole, or all but the last, of which a part did
abbrev pub IsSaid : List LinkEvent → Awaited → List Message → List ℕ → Type 0
IsSaid own kind said [] = sent own ≡ all_bytes said
IsSaid own kind said (byte ∷ unsent) = (done : List Message) × ((part : List ℕ) × ((said ≡ done ++ message_of kind (part ++ byte ∷ unsent) ∷ []) × (sent own ≡ all_bytes done ++ part)))

-- Some messages were said on the link, the last one perhaps in part; its commands BODY are those for the segments that were asked;
-- and whatever is said after them, what is heard on the link, and why it is over, is what its events say.
pub record HeardOn (setting : Setting) (own : List LinkEvent) (l : LinkNow) : Type 0 where
  pub said : List Message
  pub full : AreFull said
  pub goes : IsSaid own l.saying.kind said l.saying.unsent
  pub asks : bodies_of said ≡ map (body_message setting) l.asking.commands
  pub hears : (more : List Message) → AreFull more → HeardAs setting.patience (asked_by (said ++ more)) (fine own) l.hearing

-- In the words of link_dialog: some messages went out, the last one perhaps in part, and what they ask for tells the replies that are
-- heard whole on the link, and why it is over.
pub record ToldOn (setting : Setting) (own : List LinkEvent) (l : LinkNow) : Type 0 where
  pub said : List Message
  pub full : AreFull said
  pub goes : IsSaid own l.saying.kind said l.saying.unsent
  pub asks : bodies_of said ≡ map (body_message setting) l.asking.commands
  pub replies : replies_heard setting.patience (asked_by said) own ≡ l.hearing.replies
  pub over : why_over setting.patience (asked_by said) own ≡ l.hearing.over

-- at each moment of each lawful trace this is so of each link with a number of its own
abbrev pub AreHeardOn : Setting → Standing → List LinkEvent → Type 0
AreHeardOn setting s events = (i n : ℕ) (l : LinkNow) → slice_get s.links i ≡ Some l → l.opening.number ≡ Some n → place_from 0 n s.links ≡ Some i → HeardOn setting (on_link n events) l

abbrev pub LinksAreHeard : Type 0
LinksAreHeard = (setting : Setting) (events : List LinkEvent) → 0 < setting.patience → IsLawful setting (before_all setting) events → AreHeardOn setting (standing_at setting events) events

abbrev pub LinksAreTold : Type 0
LinksAreTold = (setting : Setting) (events : List LinkEvent) → 0 < setting.patience → IsLawful setting (before_all setting) events →
    (i n : ℕ) (l : LinkNow) → slice_get (standing_at setting events).links i ≡ Some l → l.opening.number ≡ Some n → place_from 0 n (standing_at setting events).links ≡ Some i → ToldOn setting (on_link n events) l
