-- The steps of an index's session: a newsgroup chosen, lines added, one range asked, and all ranges in turn.
use Rattle.std.specs.Prelude.{◌≡◌, ◌≢◌, ℕ, min, Bool, true, false, List, [], ◌∷◌, ◌++◌, length, take, Option, Some, Result, Ok, Err, ⊤}
use Rattle.io_traits.specs.declared.links.LinkEvent.{LinkEvent}
use Rattle.nntp_lines.specs.GroupReply.{group_of}
use Rattle.nntp_lines.specs.declared.group.GroupReply.{GroupReply}
use Rattle.nntp_lines.specs.declared.why.Why.{Why}
use Rattle.nntp_lines.specs.declared.why.Why.TheVariants as why
use Rattle.link_dialog.specs.declared.awaited.Awaited.TheVariants.{Over as TheOver}
use Rattle.link_dialog.specs.declared.dialog.Dialog.{Dialog}
use Rattle.link_dialog.specs.BlockHearing.{HasReply}
use Rattle.link_dialog.specs.Dialog.{Message, answers_of}
use Rattle.link_dialog.specs.Replies.{Reply}
use Rattle.link_dialog.specs.Talk.{Start, Rests, Ends, IsMessageRefused, Talked, patience_of, line_reply, quit_message}
use Rattle.overview_lines.specs.OverLine.{Over}
use Rattle.overview_index.specs.Group.{WouldPass}
use Rattle.overview_index.specs.Grouper.{HasGrouped}
use Rattle.overview_index.specs.Session.{Query, Range, ranges_in, group_message, over_message, messages_of, goes_on, lines_in, overs_in, skipped_in, Overview, FitAnIndex, IndexEnds}
use Rattle.overview_index.specs.declared.adding.Desk.{Desk}
use Rattle.overview_index.specs.declared.asking.Asked.{Asked}
use Rattle.overview_index.specs.declared.asking.Asked.TheVariants as asked
use Rattle.overview_index.specs.declared.asking.Chosen.{Chosen}
use Rattle.overview_index.specs.declared.added.GroupError.{GroupError}
use Rattle.overview_index.specs.declared.added.GroupError.TheVariants as group_error
use Rattle.overview_index.specs.declared.session.IndexError.{IndexError}
use Rattle.overview_index.specs.declared.session.IndexError.TheVariants as error

-- ---- lines added

-- what stands on a desk: all of these lines were added
pub record Tallies (desk : Desk) (group : List ℕ) (lines : List (List ℕ)) : Type 0 where
  pub grouper : HasGrouped desk.grouper group (overs_in lines)
  pub skipped : desk.skipped ≡ min 18446744073709551615 (skipped_in lines)

-- one of these lines would pass a limit, behind those before them
pub record WouldFill (before lines : List (List ℕ)) (reason : GroupError) : Type 0 where
  pub front : List Over
  pub line : Over
  pub behind : List Over
  pub lines_are : overs_in lines ≡ front ++ line ∷ behind
  pub fits : FitAnIndex (overs_in before ++ front)
  pub over : WouldPass (overs_in before ++ front) line reason

-- the lines were added behind those before them, or one would pass a limit, or memory was wanting
abbrev pub AddsLines : Desk → List ℕ → (before lines : List (List ℕ)) → Result (Unit {0}) GroupError → Type 0
AddsLines desk group before lines (Ok done) = Tallies desk group (before ++ lines)
AddsLines desk group before lines (Err reason) = (reason ≢ group_error.Memory) → WouldFill before lines reason

-- ---- one range asked

-- the link is open, and each message has its reply; or it is over, since bytes came behind the last reply
abbrev pub StandsAt : Start → Option (List LinkEvent) → Dialog → List Message → List Reply → Bool → Type 0
StandsAt start now dialog messages replies true = Rests start now dialog messages replies
StandsAt start now dialog messages replies false = (out : List ℕ) × Ends start now (patience_of dialog) messages out why.Unasked replies

-- the range has a reply after which the next may be asked
pub record IsRangeAnswered (start : Start) (now : Option (List LinkEvent)) (dialog : Dialog) (messages : List Message) (range : Range) (replies : List Reply) (code : ℕ) (kept : Bool) (block : List ℕ) (live : Bool) : Type 0 where
  pub reply : Reply
  pub reply_is : HasReply TheOver code kept block reply
  pub goes : goes_on reply ≡ true
  pub stands : StandsAt start now dialog (messages ++ over_message range ∷ []) (replies ++ reply ∷ []) live

-- the link is over for this reason, and the range has no reply
pub record IsRangeCut (start : Start) (now : Option (List LinkEvent)) (patience : ℕ) (messages : List Message) (range : Range) (replies : List Reply) (reason : Why) : Type 0 where
  pub out : List ℕ
  pub ends : Ends start now patience (messages ++ over_message range ∷ []) out reason replies

abbrev pub IsRangeAsked : Start → Option (List LinkEvent) → Dialog → List Message → Range → List Reply → List ℕ → Asked → Type 0
IsRangeAsked start now dialog messages range replies block (asked.Heard code kept live) = IsRangeAnswered start now dialog messages range replies code kept block live
IsRangeAsked start now dialog messages range replies block (asked.Refused code) =
    (x : IsMessageRefused start now (patience_of dialog) messages (over_message range) replies code) × (goes_on x.reply ≡ false)
IsRangeAsked start now dialog messages range replies block (asked.Over reason) = IsRangeCut start now (patience_of dialog) messages range replies reason

-- the link stays as it is where the reply was heard, and nothing behind it
abbrev pub KeepsLiveIf : List Bool → List Bool → Bool → Type 0
KeepsLiveIf before now true = now ≡ before
KeepsLiveIf before now false = ⊤

abbrev pub AskedKeepsLive : List Bool → List Bool → Asked → Type 0
AskedKeepsLive before now (asked.Heard code kept live) = KeepsLiveIf before now live
AskedKeepsLive before now (asked.Refused code) = ⊤
AskedKeepsLive before now (asked.Over reason) = ⊤

-- ---- all ranges in turn

-- an error that comes where a link was opened
abbrev pub ComesOnLink : IndexError → Type 0
ComesOnLink error.NoLink = ⊥
ComesOnLink other = ⊤

-- why there is no index, where a line wasn't added
abbrev pub error_of : GroupError → IndexError
error_of group_error.Memory = error.Memory
error_of other = error.Full other

-- the link is open, and nothing was said behind the login
pub record HasBegun (q : Query) (start : Start) (now : Option (List LinkEvent)) (dialog : Dialog) : Type 0 where
  pub patience : patience_of dialog ≡ q.patience
  pub replies : List Reply
  pub rests : Rests start now dialog [] replies

-- the newsgroup is chosen
pub record IsChosen (q : Query) (start : Start) (now : Option (List LinkEvent)) (dialog : Dialog) (chosen : Chosen) : Type 0 where
  pub patience : patience_of dialog ≡ q.patience
  pub replies : List Reply
  pub line : List ℕ
  pub answers : answers_of start.login replies ≡ line_reply 211 line ∷ []
  pub group_is : group_of line ≡ Some chosen.group
  pub stands : StandsAt start now dialog (group_message q.group ∷ []) replies chosen.live

abbrev pub ChooseEnds : Query → Start → Option (List LinkEvent) → Dialog → Result Chosen IndexError → Type 0
ChooseEnds q start now dialog (Ok chosen) = IsChosen q start now dialog chosen
ChooseEnds q start now dialog (Err reason) = IndexEnds q start now (Err reason)

-- the first `done` ranges have their replies, and the lines of these were added
pub record IndexUnderWay (q : Query) (start : Start) (now : Option (List LinkEvent)) (dialog : Dialog) (group : GroupReply) (desk : Desk) (done : ℕ) (live : Bool) : Type 0 where
  pub patience : patience_of dialog ≡ q.patience
  pub replies : List Reply
  pub overs : List Reply
  pub overview : Overview q start.login replies group overs
  pub count : length overs ≡ done
  pub stands : StandsAt start now dialog (messages_of q.group (take done (ranges_in q group))) replies live
  pub tallies : Tallies desk q.group (lines_in overs)

-- a range has its reply, of which the lines were added, or the session ended with it
abbrev pub RangeEnds : Query → Start → Option (List LinkEvent) → Dialog → GroupReply → Desk → ℕ → Result Bool IndexError → Type 0
RangeEnds q start now dialog group desk done (Ok live) = IndexUnderWay q start now dialog group desk done live
RangeEnds q start now dialog group desk done (Err reason) = IndexEnds q start now (Err reason)

-- all ranges have their replies, and QUIT was said
pub record HasHeardAll (q : Query) (start : Start) (now : Option (List LinkEvent)) (desk : Desk) : Type 0 where
  pub replies : List Reply
  pub group : GroupReply
  pub overs : List Reply
  pub overview : Overview q start.login replies group overs
  pub all : length overs ≡ length (ranges_in q group)
  pub talked : Talked start now q.patience (messages_of q.group (ranges_in q group) ++ quit_message ∷ []) replies
  pub tallies : Tallies desk q.group (lines_in overs)

abbrev pub RangesEnd : Query → Start → Option (List LinkEvent) → Desk → Result (Unit {0}) IndexError → Type 0
RangesEnd q start now desk (Ok done) = HasHeardAll q start now desk
RangesEnd q start now desk (Err reason) = IndexEnds q start now (Err reason)
