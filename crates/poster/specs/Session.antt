-- The session of a post: one link, and what became of each part (RFC 3977, 6.3.1).
use Rattle.std.specs.Prelude.{◌≡◌, ℕ, ◌+◌, ◌-◌, ◌*◌, ◌≤◌, ◌<◌, ◌⊎◌, List, [], ◌∷◌, ◌++◌, length, take, drop, Option, Some, None, Result, Ok, Err, ⊤}
use Rattle.std.specs.List.{AllByRecursion}
use Rattle.io_traits.specs.declared.links.LinkEvent.{LinkEvent}
use Rattle.io_traits.specs.declared.links.LinkEvent.TheVariants.{Opened}
use Rattle.io_traits.specs.Links.{tell}
use Rattle.nntp_lines.specs.declared.login.Login.{Login}
use Rattle.nntp_lines.specs.declared.why.Why.{Why}
use Rattle.input_files.specs.Reading.{Reading, IsFaultless, HasFailed, IsReadIn, IsShortAt, IsIn}
use Rattle.link_dialog.specs.Dialog.{answers_of, asked_by, login_messages, IsDialog}
use Rattle.link_dialog.specs.Events.{AllOn}
use Rattle.link_dialog.specs.Moments.{why_over}
use Rattle.link_dialog.specs.Replies.{Reply}
use Rattle.link_dialog.specs.Talk.{Start, quit_message}
use Rattle.poster.specs.Index.{AreOutcomes}
use Rattle.poster.specs.Said.{Made, AreMade, blocks_of, post_message, messages_of, NoneEmpty, post_length, ends_of, refusal_in, outcomes_of, out_of}
use Rattle.poster.specs.declared.index.PartEnd.{PartEnd}
use Rattle.poster.specs.declared.index.PartEnd.TheVariants as part_end
use Rattle.poster.specs.declared.index.Sent.{Sent}
use Rattle.poster.specs.declared.parts.Plan.{Plan}
use Rattle.poster.specs.declared.session.PostError.{PostError}
use Rattle.poster.specs.declared.session.PostError.TheVariants.{Memory, Input, Short, NoLink, Refused, Over}
use Rattle.poster.specs.declared.settings.Settings.{Settings}

-- What was to be said beside the parts whose articles were made: `whole`, all parts, of which the link's end may have cut some
-- off; `refused`, of the last of them POST alone, since that was refused; `stopped`, nothing more, since the next part could not
-- be read or made.
pub data Way : Type 0 where
  whole : Way
  refused : Way
  stopped : Way

-- the events of the link are a dialog of POST and an article for each part, in order, and QUIT behind them
abbrev pub SaysParts : Way → Option Login → ℕ → ℕ → List (List ℕ) → List LinkEvent → List Reply → Type 0
SaysParts whole login patience total blocks events replies =
    (more : List (List ℕ)) → NoneEmpty more → length blocks + length more ≡ total →
    IsDialog login (messages_of (blocks ++ more) ++ quit_message ∷ []) patience events replies
SaysParts refused login patience total blocks events replies =
    IsDialog login (messages_of (take (length blocks - 1) blocks) ++ post_message ∷ quit_message ∷ []) patience events replies
SaysParts stopped login patience total blocks events replies =
    IsDialog login (messages_of blocks ++ quit_message ∷ []) patience events replies

-- The trace goes on by one opening and such a dialog. These articles were made, of the first of so many parts.
pub record Session (way : Way) (s : Settings) (size total : ℕ) (content : Option (List ℕ)) (start : Start) (now : Option (List LinkEvent)) : Type 0 where
  pub mades : List Made
  pub are_made : AreMade s size content 1 mades
  pub some : 1 ≤ length mades
  pub few : length mades ≤ total
  pub link : ℕ
  pub events : List LinkEvent
  pub replies : List Reply
  pub on_this : AllOn link events
  pub told : now ≡ tell start.before (Opened link start.address ∷ events)
  pub said : SaysParts way start.login s.patience total (blocks_of mades) events replies

-- what became of all parts
abbrev pub outcomes_in : {way : Way} {s : Settings} {size total : ℕ} {content : Option (List ℕ)} {start : Start} {now : Option (List LinkEvent)} → Session way s size total content start now → List Sent
outcomes_in {way} {s} {size} {total} {content} {start} {now} x =
    outcomes_of total (ends_of (answers_of start.login x.replies) (out_of start.login x.replies x.events) (blocks_of x.mades)) x.mades

-- the first code by which POST was refused in it
abbrev pub refusal_of_post : {way : Way} {s : Settings} {size total : ℕ} {content : Option (List ℕ)} {start : Start} {now : Option (List LinkEvent)} → Session way s size total content start now → Option ℕ
refusal_of_post {way} {s} {size} {total} {content} {start} {now} x = refusal_in (answers_of start.login x.replies)

-- whether a byte of an article went out
abbrev pub HasBegun : {way : Way} {s : Settings} {size total : ℕ} {content : Option (List ℕ)} {start : Start} {now : Option (List LinkEvent)} → Session way s size total content start now → Type 0
HasBegun {way} {s} {size} {total} {content} {start} {now} x = post_length < out_of start.login x.replies x.events

-- ---- where it stopped

-- an article has its answer: 240, or 441
abbrev pub IsAnswer : PartEnd → Type 0
IsAnswer part_end.Posted = ⊤
IsAnswer (part_end.Refused code) = ⊤
IsAnswer part_end.Unsure = ⊥
IsAnswer part_end.NotSent = ⊥

abbrev pub HasAnswer : Sent → Type 0
HasAnswer sent = IsAnswer sent.end

-- nothing of it was sent, and no octets are told of it
abbrev pub IsUnreached : Sent → Type 0
IsUnreached sent = (sent.end ≡ part_end.NotSent) × (sent.bytes ≡ 0)

-- The run stopped at this part, counted from 1, whatever became of it: each part before it has its answer, and none behind it
-- was reached.
pub record StopsAt (part : ℕ) (sent : List Sent) : Type 0 where
  pub first : 1 ≤ part
  pub last : part ≤ length sent
  pub answered : AllByRecursion HasAnswer (take (part - 1) sent)
  pub unreached : AllByRecursion IsUnreached (drop part sent)

-- ---- how it ends

-- The session went its way, and this became of the parts. It stopped at the part whose article was the last that was made.
pub record HasSent (s : Settings) (size total : ℕ) (content : Option (List ℕ)) (start : Start) (now : Option (List LinkEvent)) (sent : List Sent) : Type 0 where
  pub session : Session whole s size total content start now
  pub permitted : refusal_of_post session ≡ None
  pub begun : HasBegun session
  pub outcomes : sent ≡ outcomes_in session
  pub stops : StopsAt (length session.mades) sent

-- the link was over, for this reason, before a byte of any article went out
pub record WasOver (s : Settings) (size total : ℕ) (content : Option (List ℕ)) (start : Start) (now : Option (List LinkEvent)) (reason : Why) : Type 0 where
  pub session : Session whole s size total content start now
  pub permitted : refusal_of_post session ≡ None
  pub unbegun : ¬ HasBegun session
  pub over : (more : List (List ℕ)) → NoneEmpty more → length session.mades + length more ≡ total →
      why_over s.patience (asked_by (login_messages start.login session.replies ++ (messages_of (blocks_of session.mades ++ more) ++ quit_message ∷ []))) session.events ≡ Some reason

-- POST of the last part whose article was made was refused with this code, and this became of the parts.
pub record WasRefused (s : Settings) (size total : ℕ) (content : Option (List ℕ)) (start : Start) (now : Option (List LinkEvent)) (code : ℕ) (sent : List Sent) : Type 0 where
  pub session : Session refused s size total content start now
  pub refusal : refusal_of_post session ≡ Some code
  pub outcomes : sent ≡ outcomes_in session
  pub stops : StopsAt (length session.mades) sent

-- The session stopped before a part: each part before it has its answer, POST was refused for none, and nothing was said of
-- the part.
pub record WasStopped (s : Settings) (size total : ℕ) (content : Option (List ℕ)) (start : Start) (now : Option (List LinkEvent)) : Type 0 where
  pub session : Session stopped s size total content start now
  pub more : length session.mades < total
  pub permitted : refusal_of_post session ≡ None
  pub answered : length (answers_of start.login session.replies) ≡ 2 * length session.mades

-- a part could not be read or made: the first, and no link was opened; or a later one, before which the session stopped
abbrev pub HasStopped : Settings → (size total : ℕ) → Option (List ℕ) → Start → Option (List LinkEvent) → Type 0
HasStopped s size total content start now = (now ≡ start.before) ⊎ WasStopped s size total content start now

-- how a run ends
abbrev pub PostEnds : Settings → (size total : ℕ) → Option (List ℕ) → Reading → Start → Option (List LinkEvent) → Result (List Sent) PostError → Type 0
PostEnds s size total content r start now (Ok sent) = IsFaultless r × HasSent s size total content start now sent
PostEnds s size total content r start now (Err Memory) = IsFaultless r × HasStopped s size total content start now
PostEnds s size total content r start now (Err Input) = HasFailed (IsReadIn 0 size) r × HasStopped s size total content start now
PostEnds s size total content r start now (Err (Short at)) = IsShortAt at r × IsIn 0 size at × HasStopped s size total content start now
PostEnds s size total content r start now (Err NoLink) = IsFaultless r × (now ≡ start.before)
PostEnds s size total content r start now (Err (Refused code sent)) = IsFaultless r × WasRefused s size total content start now code sent
PostEnds s size total content r start now (Err (Over reason)) = IsFaultless r × WasOver s size total content start now reason

-- a fact where no link was opened
abbrev pub OnNoLink : {T : Type 0} → Result T PostError → Type 0 → Type 0
OnNoLink (Err NoLink) fact = fact
OnNoLink other fact = ⊤

-- a list that is answered says at which part the run stopped
abbrev pub StopsSomewhere : Result (List Sent) PostError → Type 0
StopsSomewhere (Ok sent) = (part : ℕ) × StopsAt part sent
StopsSomewhere (Err (Refused code sent)) = (part : ℕ) × StopsAt part sent
StopsSomewhere (Err other) = ⊤

-- a list that is answered has an outcome for each part of a plan
abbrev pub HasOutcomes : Plan → Result (List Sent) PostError → Type 0
HasOutcomes p (Ok sent) = AreOutcomes p sent
HasOutcomes p (Err (Refused code sent)) = AreOutcomes p sent
HasOutcomes p (Err other) = ⊤
