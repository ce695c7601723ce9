-- The steps of a post's session: one part made, one article posted, and all parts in turn.
use Rattle.std.specs.Prelude.{◌≡◌, ◌≢◌, ℕ, ◌≤◌, ◌<◌, Bool, true, List, [], ◌∷◌, ◌++◌, length, slice_get, Option, Some, None, Result, Ok, Err, ⊤}
use Rattle.io_traits.specs.declared.links.LinkEvent.{LinkEvent}
use Rattle.nntp_lines.specs.declared.why.Why.{Why}
use Rattle.input_files.specs.Reading.{Reading, IsFaultless, HasFailed, IsReadIn, IsShortAt, IsIn}
use Rattle.link_dialog.specs.declared.dialog.Dialog.{Dialog}
use Rattle.link_dialog.specs.Dialog.{Message, all_bytes, answers_of}
use Rattle.link_dialog.specs.Replies.{Reply}
use Rattle.link_dialog.specs.Talk.{Start, Rests, Ends, IsMessageRefused, bytes_said, patience_of}
use Rattle.poster.specs.Said.{Made, AreMade, blocks_of, post_message, article_message, part_messages, messages_of, post_length, article_end, part_end, is_permitted, ends_of, refusal_in, outcomes_of}
use Rattle.poster.specs.Session.{HasSent, WasOver, WasRefused, WasStopped}
use Rattle.poster.specs.declared.desk.Desk.{Desk}
use Rattle.poster.specs.declared.desk.Unmade.{Unmade}
use Rattle.poster.specs.declared.desk.Unmade.TheVariants as unmade
use Rattle.poster.specs.declared.index.PartEnd.{PartEnd}
use Rattle.poster.specs.declared.index.Sent.{Sent}
use Rattle.poster.specs.declared.posting.Posting.{Posting}
use Rattle.poster.specs.declared.posting.Posting.TheVariants as posting
use Rattle.poster.specs.declared.session.PostError.{PostError}
use Rattle.poster.specs.declared.session.PostError.TheVariants as error
use Rattle.poster.specs.declared.session.RunEnd.{RunEnd}
use Rattle.poster.specs.declared.session.RunEnd.TheVariants as run
use Rattle.poster.specs.declared.settings.Settings.{Settings}

-- ---- one part made

-- the article that stands on a desk
abbrev pub made_on : Desk → Made
made_on desk = record { block = desk.block; octets = desk.octets }

-- how the making of a part of a file of this many bytes ends: what became of the input
abbrev pub NotMade : ℕ → Reading → Unmade → Type 0
NotMade size r unmade.Memory = IsFaultless r
NotMade size r unmade.Input = HasFailed (IsReadIn 0 size) r
NotMade size r (unmade.Short at) = IsShortAt at r × IsIn 0 size at

abbrev pub MakeEnds : {T : Type 0} → ℕ → Reading → Result T Unmade → Type 0
MakeEnds size r (Ok done) = IsFaultless r × (r.blame_now ≡ r.blame_before)
MakeEnds size r (Err why) = NotMade size r why

abbrev pub error_of : Unmade → PostError
error_of unmade.Memory = error.Memory
error_of unmade.Input = error.Input
error_of (unmade.Short place) = error.Short place

-- ---- one article posted

-- POST was permitted by 340, the article went out whole, and its answer says what became of it
pub record IsPartAnswered (start : Start) (now : Option (List LinkEvent)) (dialog : Dialog) (messages : List Message) (block : List ℕ) (replies : List Reply) (end : PartEnd) : Type 0 where
  pub permit : Reply
  pub answer : Reply
  pub permitted : permit.code ≡ 340
  pub end_is : end ≡ article_end answer.code
  pub rests : Rests start now dialog (messages ++ part_messages block) (replies ++ permit ∷ answer ∷ [])

-- the link is over for this reason, after these bytes of POST and the article went out and these replies to them were heard
pub record IsOverAt (start : Start) (now : Option (List LinkEvent)) (patience : ℕ) (messages : List Message) (block : List ℕ) (replies answers : List Reply) (out : List ℕ) (reason : Why) : Type 0 where
  pub permitted : refusal_in answers ≡ None
  pub ends : Ends start now patience (messages ++ part_messages block) (bytes_said start messages replies ++ out) reason (replies ++ answers)

-- no byte of the article went out
pub record IsUnsent (start : Start) (now : Option (List LinkEvent)) (patience : ℕ) (messages : List Message) (block : List ℕ) (replies : List Reply) (reason : Why) : Type 0 where
  pub answers : List Reply
  pub out : List ℕ
  pub unanswered : length answers ≤ 1
  pub unbegun : length out ≤ post_length
  pub over : IsOverAt start now patience messages block replies answers out reason

-- a byte of the article went out
pub record IsArticleCut (start : Start) (now : Option (List LinkEvent)) (patience : ℕ) (messages : List Message) (block : List ℕ) (replies : List Reply) (end : PartEnd) : Type 0 where
  pub answers : List Reply
  pub out : List ℕ
  pub reason : Why
  pub permitted : is_permitted answers ≡ true
  pub end_is : end ≡ part_end (slice_get answers 1) true
  pub begun : post_length < length out
  pub over : IsOverAt start now patience messages block replies answers out reason

abbrev pub IsPosting : Start → Option (List LinkEvent) → Dialog → List Message → List ℕ → List Reply → Posting → Type 0
IsPosting start now dialog messages block replies (posting.Answered end) = IsPartAnswered start now dialog messages block replies end
IsPosting start now dialog messages block replies (posting.Refused code) = (code ≢ 340) × IsMessageRefused start now (patience_of dialog) messages post_message replies code
IsPosting start now dialog messages block replies (posting.Unsent reason) = IsUnsent start now (patience_of dialog) messages block replies reason
IsPosting start now dialog messages block replies (posting.Cut end) = IsArticleCut start now (patience_of dialog) messages block replies end

-- The same of an article alone, behind a POST that was permitted.
pub record IsTaken (start : Start) (now : Option (List LinkEvent)) (dialog : Dialog) (messages : List Message) (block : List ℕ) (replies : List Reply) (end : PartEnd) : Type 0 where
  pub answer : Reply
  pub end_is : end ≡ article_end answer.code
  pub rests : Rests start now dialog (messages ++ article_message block ∷ []) (replies ++ answer ∷ [])

pub record IsHeld (start : Start) (now : Option (List LinkEvent)) (patience : ℕ) (messages : List Message) (block : List ℕ) (replies : List Reply) (reason : Why) : Type 0 where
  pub ends : Ends start now patience (messages ++ article_message block ∷ []) (bytes_said start messages replies) reason replies

pub record IsBroken (start : Start) (now : Option (List LinkEvent)) (patience : ℕ) (messages : List Message) (block : List ℕ) (replies : List Reply) (end : PartEnd) : Type 0 where
  pub answers : List Reply
  pub out : List ℕ
  pub reason : Why
  pub few : length answers ≤ 1
  pub end_is : end ≡ part_end (slice_get answers 0) true
  pub begun : 0 < length out
  pub ends : Ends start now patience (messages ++ article_message block ∷ []) (bytes_said start messages replies ++ out) reason (replies ++ answers)

abbrev pub IsSending : Start → Option (List LinkEvent) → Dialog → List Message → List ℕ → List Reply → Posting → Type 0
IsSending start now dialog messages block replies (posting.Answered end) = IsTaken start now dialog messages block replies end
IsSending start now dialog messages block replies (posting.Refused code) = ⊥
IsSending start now dialog messages block replies (posting.Unsent reason) = IsHeld start now (patience_of dialog) messages block replies reason
IsSending start now dialog messages block replies (posting.Cut end) = IsBroken start now (patience_of dialog) messages block replies end

-- the link stays live where the article has its answer
abbrev pub KeepsOpen : List Bool → List Bool → Posting → Type 0
KeepsOpen before now (posting.Answered end) = now ≡ before
KeepsOpen before now other = ⊤

abbrev pub KeepsOpenUnless : List Bool → List Bool → Option RunEnd → Type 0
KeepsOpenUnless before now None = now ≡ before
KeepsOpenUnless before now (Some end) = ⊤

-- ---- all parts in turn

-- The first `done` parts were posted, each with its answer, the link is open, and the list says what became of them.
pub record UnderWay (s : Settings) (size total : ℕ) (content : Option (List ℕ)) (start : Start) (now : Option (List LinkEvent)) (dialog : Dialog) (done : ℕ) (sent : List Sent) : Type 0 where
  pub patience : patience_of dialog ≡ s.patience
  pub mades : List Made
  pub are_made : AreMade s size content 1 mades
  pub count : length mades ≡ done
  pub replies : List Reply
  pub rests : Rests start now dialog (messages_of (blocks_of mades)) replies
  pub permitted : refusal_in (answers_of start.login replies) ≡ None
  pub noted : sent ≡ outcomes_of total (ends_of (answers_of start.login replies) (length (all_bytes (messages_of (blocks_of mades)))) (blocks_of mades)) mades

-- how the posting of the parts ended, with the list of outcomes
abbrev pub PostingEnded : Settings → (size total : ℕ) → Option (List ℕ) → Start → Option (List LinkEvent) → List Sent → RunEnd → Type 0
PostingEnded s size total content start now sent run.Sent = HasSent s size total content start now sent
PostingEnded s size total content start now sent (run.Refused code) = WasRefused s size total content start now code sent
PostingEnded s size total content start now sent (run.Over reason) = WasOver s size total content start now reason

-- the same, or the next part wasn't made
abbrev pub RunEnds : Settings → (size total : ℕ) → Option (List ℕ) → Start → Option (List LinkEvent) → List Sent → Result RunEnd Unmade → Type 0
RunEnds s size total content start now sent (Ok end) = PostingEnded s size total content start now sent end
RunEnds s size total content start now sent (Err why) = WasStopped s size total content start now

-- a part was posted, and the next may be, or the posting ended with it
abbrev pub PartEnds : Settings → (size total : ℕ) → Option (List ℕ) → Start → Option (List LinkEvent) → Dialog → ℕ → List Sent → Option RunEnd → Type 0
PartEnds s size total content start now dialog part sent None = UnderWay s size total content start now dialog part sent
PartEnds s size total content start now dialog part sent (Some end) = PostingEnded s size total content start now sent end

-- what became of the input
abbrev pub RunReads : {T : Type 0} → ℕ → Reading → Result T Unmade → Type 0
RunReads size r (Ok end) = IsFaultless r
RunReads size r (Err why) = NotMade size r why
