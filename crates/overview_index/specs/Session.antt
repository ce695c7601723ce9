-- The session of an index: one link, and what its replies tell of a newsgroup (RFC 3977, 6.1.1 and 8.3).
use Rattle.std.specs.Prelude.{◌≡◌, ◌≢◌, ℕ, suc, zero, ◌+◌, ◌-◌, ◌/◌, ◌==◌, ◌||◌, ◌≤◌, ◌<◌, ◌⊎◌, min, max, Bool, true, false, not, is_some, if◌then◌else◌, List, [], ◌∷◌, ◌++◌, length, map, take, Option, Some, Result, Ok, Err, ⊤}
use Rattle.std.specs.List.{AllByRecursion, count_by, filter_map, flat_map}
use Rattle.std.specs.Result.{result_ok}
use Rattle.io_traits.specs.declared.links.LinkEvent.{LinkEvent}
use Rattle.nntp_lines.specs.Command.{crlf, group_line, over_line}
use Rattle.nntp_lines.specs.GroupReply.{group_of}
use Rattle.nntp_lines.specs.declared.group.GroupReply.{GroupReply}
use Rattle.nntp_lines.specs.declared.login.Login.{Login}
use Rattle.nntp_lines.specs.declared.why.Why.{Why}
use Rattle.link_dialog.specs.declared.awaited.Awaited.TheVariants.{Group, Over as TheOver}
use Rattle.link_dialog.specs.Dialog.{Message, message_of, answers_of}
use Rattle.link_dialog.specs.Replies.{Reply}
use Rattle.link_dialog.specs.Talk.{Start, Ends, Talked, quit_message}
use Rattle.overview_lines.specs.Count.{count_of}
use Rattle.overview_lines.specs.OverLine.{Over}
use Rattle.overview_lines.specs.OverReading.{over_of}
use Rattle.overview_lines.specs.declared.over.OverFault.{OverFault}
use Rattle.overview_index.specs.Group.{IsIndexOfLines, WouldPass, files_in, segments_in}
use Rattle.overview_index.specs.declared.added.GroupError.{GroupError}
use Rattle.overview_index.specs.declared.added.GroupError.TheVariants as group_error
use Rattle.overview_index.specs.declared.session.Indexed.{Indexed}
use Rattle.overview_index.specs.declared.session.IndexError.{IndexError}
use Rattle.overview_index.specs.declared.session.IndexError.TheVariants as error
use Rattle.limits.specs.declared.TheConstants.{MOST_FILES, MOST_SEGMENTS}

-- what is asked: the articles of a newsgroup from a number to a number, over a link that bears so many quiet receives
pub record Query : Type 0 where
  pub group : List ℕ
  pub first : ℕ
  pub last : ℕ
  pub patience : ℕ

-- ---- the ranges asked

-- numbers of articles, from one to another
pub record Range : Type 0 where
  pub first : ℕ
  pub last : ℕ

-- so many ranges of 10,000 numbers, one behind the other, none past a last number
abbrev pub ranges_from : (count first last : ℕ) → List Range
ranges_from zero first last = []
ranges_from (suc n) first last = record { first = first; last = min last (first + 9999) } ∷ ranges_from n (first + 10000) last

-- the ranges that have all numbers from one to another; none where there are no such numbers
abbrev pub ranges_of : (first last : ℕ) → List Range
ranges_of first last = ranges_from ((last + 10000 - first) / 10000) first last

-- those of what is asked that lie between the least and the greatest number of the newsgroup
unfoldable pub ranges_in : Query → GroupReply → List Range
ranges_in q group = ranges_of (max q.first group.low) (min q.last group.high)

-- ---- what is said

abbrev pub group_message : List ℕ → Message
group_message name = message_of Group (group_line name ++ crlf)

abbrev pub over_message : Range → Message
over_message range = message_of TheOver (over_line range.first range.last ++ crlf)

-- GROUP, and OVER for each of these ranges
abbrev pub messages_of : List ℕ → List Range → List Message
messages_of name ranges = group_message name ∷ map over_message ranges

-- ---- what is heard

-- an overview follows, or there is no article in the range (RFC 3977, 8.3.1): the next range may be asked
abbrev pub goes_on : Reply → Bool
goes_on reply = (reply.code == 224) || (reply.code == 423)

-- the lines of the overviews, in order
abbrev pub lines_in : List Reply → List (List ℕ)
lines_in overs = flat_map (λ (reply : Reply). if reply.code == 224 then reply.lines else []) overs

-- the lines among them that are read
abbrev pub overs_in : List (List ℕ) → List Over
overs_in lines = filter_map (λ (line : List ℕ). result_ok (over_of line)) lines

-- a line that is refused, or whose subject has no count, is skipped
abbrev pub is_skipped_at : Result Over OverFault → Bool
is_skipped_at (Ok over) = not (is_some (count_of over.subject))
is_skipped_at (Err fault) = true

abbrev pub is_skipped : List ℕ → Bool
is_skipped line = is_skipped_at (over_of line)

abbrev pub skipped_in : List (List ℕ) → ℕ
skipped_in lines = count_by is_skipped lines

-- The newsgroup was chosen, and these are replies to OVER behind that, after each of which the next range may be asked.
pub record Overview (q : Query) (login : Option Login) (replies : List Reply) (group : GroupReply) (overs : List Reply) : Type 0 where
  pub chosen : Reply
  pub answers : answers_of login replies ≡ chosen ∷ overs
  pub code : chosen.code ≡ 211
  pub group_is : group_of chosen.line ≡ Some group
  pub each : AllByRecursion (λ (reply : Reply). goes_on reply ≡ true) overs
  pub few : length overs ≤ length (ranges_in q group)

-- ---- how it ends

-- all that was asked was heard; the index is that of the lines that were read
pub record HasIndexed (q : Query) (start : Start) (now : Option (List LinkEvent)) (indexed : Indexed) : Type 0 where
  pub replies : List Reply
  pub group : GroupReply
  pub overs : List Reply
  pub overview : Overview q start.login replies group overs
  pub all : length overs ≡ length (ranges_in q group)
  pub talked : Talked start now q.patience (messages_of q.group (ranges_in q group) ++ quit_message ∷ []) replies
  pub index : IsIndexOfLines q.group (overs_in (lines_in overs)) indexed.index
  pub skipped : indexed.skipped ≡ min 18446744073709551615 (skipped_in (lines_in overs))

-- GROUP was refused with this code, and QUIT was said
pub record GroupWasRefused (q : Query) (start : Start) (now : Option (List LinkEvent)) (code : ℕ) : Type 0 where
  pub replies : List Reply
  pub reply : Reply
  pub answers : answers_of start.login replies ≡ reply ∷ []
  pub code_is : reply.code ≡ code
  pub refused : code ≢ 211
  pub talked : Talked start now q.patience (group_message q.group ∷ quit_message ∷ []) replies

-- the newsgroup was chosen, and OVER was refused with this code behind these replies, and QUIT was said
pub record OverWasRefused (q : Query) (start : Start) (now : Option (List LinkEvent)) (code : ℕ) : Type 0 where
  pub replies : List Reply
  pub group : GroupReply
  pub overs : List Reply
  pub reply : Reply
  pub chosen : Reply
  pub answers : answers_of start.login replies ≡ chosen ∷ overs ++ reply ∷ []
  pub chosen_code : chosen.code ≡ 211
  pub group_is : group_of chosen.line ≡ Some group
  pub each : AllByRecursion (λ (r : Reply). goes_on r ≡ true) overs
  pub code_is : reply.code ≡ code
  pub refused : goes_on reply ≡ false
  pub more : length overs < length (ranges_in q group)
  pub talked : Talked start now q.patience (messages_of q.group (take (length overs + 1) (ranges_in q group)) ++ quit_message ∷ []) replies

abbrev pub IndexWasRefused : Query → Start → Option (List LinkEvent) → ℕ → Type 0
IndexWasRefused q start now code = GroupWasRefused q start now code ⊎ OverWasRefused q start now code

-- the lines pass no limit of an index
abbrev pub FitAnIndex : List Over → Type 0
FitAnIndex lines = (segments_in lines ≤ MOST_SEGMENTS) × (files_in lines ≤ MOST_FILES)

-- a line would pass a limit of the index: those before it don't; the reply that it came by is the last that was awaited
pub record WasFilled (q : Query) (start : Start) (now : Option (List LinkEvent)) (reason : GroupError) : Type 0 where
  pub replies : List Reply
  pub group : GroupReply
  pub overs : List Reply
  pub last : Reply
  pub overview : Overview q start.login replies group (overs ++ last ∷ [])
  pub front : List Over
  pub line : Over
  pub behind : List Over
  pub lines : overs_in (lines_in (last ∷ [])) ≡ front ++ line ∷ behind
  pub fits : FitAnIndex (overs_in (lines_in overs) ++ front)
  pub over : WouldPass (overs_in (lines_in overs) ++ front) line reason
  pub talked : Talked start now q.patience (messages_of q.group (take (length overs + 1) (ranges_in q group)) ++ quit_message ∷ []) replies

-- the link was over for this reason, and GROUP has no reply
pub record WasOverBefore (q : Query) (start : Start) (now : Option (List LinkEvent)) (reason : Why) : Type 0 where
  pub replies : List Reply
  pub said : List Message
  pub said_is : (said ≡ []) ⊎ (said ≡ group_message q.group ∷ [])
  pub unheard : answers_of start.login replies ≡ []
  pub out : List ℕ
  pub ends : Ends start now q.patience said out reason replies

-- the link was over for this reason, and the newsgroup was chosen, but a range has no reply
pub record WasOverWithin (q : Query) (start : Start) (now : Option (List LinkEvent)) (reason : Why) : Type 0 where
  pub replies : List Reply
  pub group : GroupReply
  pub overs : List Reply
  pub overview : Overview q start.login replies group overs
  pub missing : length overs < length (ranges_in q group)
  pub asked : ℕ
  pub few : asked ≤ length (ranges_in q group)
  pub out : List ℕ
  pub ends : Ends start now q.patience (messages_of q.group (take asked (ranges_in q group))) out reason replies

abbrev pub IndexWasOver : Query → Start → Option (List LinkEvent) → Why → Type 0
IndexWasOver q start now reason = WasOverBefore q start now reason ⊎ WasOverWithin q start now reason

-- memory ran out behind a reply to OVER, and QUIT was said
pub record WasStopped (q : Query) (start : Start) (now : Option (List LinkEvent)) : Type 0 where
  pub replies : List Reply
  pub group : GroupReply
  pub overs : List Reply
  pub overview : Overview q start.login replies group overs
  pub talked : Talked start now q.patience (messages_of q.group (take (length overs) (ranges_in q group)) ++ quit_message ∷ []) replies

-- how run_index ends: what was told of the link, and the result
abbrev pub IndexEnds : Query → Start → Option (List LinkEvent) → Result Indexed IndexError → Type 0
IndexEnds q start now (Ok indexed) = HasIndexed q start now indexed
IndexEnds q start now (Err error.Memory) = (now ≡ start.before) ⊎ WasStopped q start now
IndexEnds q start now (Err error.NoLink) = now ≡ start.before
IndexEnds q start now (Err (error.Refused code)) = IndexWasRefused q start now code
IndexEnds q start now (Err (error.Over reason)) = IndexWasOver q start now reason
IndexEnds q start now (Err (error.Full reason)) = (reason ≢ group_error.Memory) × WasFilled q start now reason

-- a fact where no link was opened
abbrev pub OnNoLink : {T : Type 0} → Result T IndexError → Type 0 → Type 0
OnNoLink (Err error.NoLink) fact = fact
OnNoLink other fact = ⊤
