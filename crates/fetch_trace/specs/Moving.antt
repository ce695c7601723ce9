-- What each event does to what a moment says. Each byte heard is a moment of its own.
use Rattle.std.specs.Prelude.{ℕ, ◌||◌, Bool, true, false, List, [], ◌∷◌, ◌++◌, Option, Some, None, if◌then◌else◌, length, drop, is_some}
use Rattle.io_traits.specs.declared.links.LinkEvent.{LinkEvent}
use Rattle.io_traits.specs.declared.links.LinkEvent.TheVariants as event
use Rattle.link_dialog.specs.declared.awaited.Awaited.{Awaited}
use Rattle.link_dialog.specs.declared.awaited.Awaited.TheVariants.{Quit}
use Rattle.link_dialog.specs.Replies.{Reply}
use Rattle.lists.specs.Edit.{edit_at}
use Rattle.range_assembler.specs.declared.assembler.Entry.{Entry}
use Rattle.range_assembler.specs.declared.assembler.Clash.{Clash}
use Rattle.range_assembler.specs.Entries.{least_clash, kept_size, with_claim, with_accept, with_release}
use Rattle.range_assembler.specs.Claims.{file_at, is_held_at}
use Rattle.fetch_trace.specs.Setting.{Setting}
use Rattle.fetch_trace.specs.Hearing.{Hearing, after_byte, after_quiet, after_end, after_sent, whole_by}
use Rattle.fetch_trace.specs.Verdicts.{Range, Verdict, range_of, verdict_of}
use Rattle.fetch_trace.specs.Verdicts.Verdict.{Accepted, Absent, Refused, Clashes, OtherSize}
use Rattle.fetch_trace.specs.LinkNow.{LinkNow, Asking, with_hearing, with_asking, is_over, is_ready, waiting_of}
use Rattle.fetch_trace.specs.Standing.{Standing, before_all, with_link, pipeline_of, on_number, place_from}
use Rattle.fetch_trace.specs.Due.{Due, due_on}

-- ---- commands

abbrev pub begun_with : Option ℕ → Asking → Asking
begun_with (Some segment) a = record { commands = a.commands ++ segment ∷ []; verdicts = a.verdicts; against = a.against }
begun_with None a = a

-- the reply is awaited once the last byte of the command went out
abbrev pub awaited_after : Awaited → List ℕ → List Awaited
awaited_after kind [] = kind ∷ []
awaited_after kind (byte ∷ unsent) = []

abbrev pub is_quit : Awaited → Bool
is_quit Quit = true
is_quit other = false

abbrev pub with_saying : Awaited → List ℕ → Asking → LinkNow → LinkNow
with_saying kind unsent asking l = record {
  opening = l.opening;
  hearing = after_sent (awaited_after kind unsent) l.hearing;
  saying = record { kind = kind; unsent = unsent; quits = l.saying.quits || is_quit kind };
  asking = asking;
}

abbrev pub begins : List ℕ → Option Due → LinkNow → LinkNow
begins bytes (Some due) l = with_saying due.kind (drop (length bytes) due.text) (begun_with due.segment l.asking) l
begins bytes None l = l

-- a piece begins the command that is due, or goes on with the one that was begun
abbrev pub says : Setting → List ℕ → List ℕ → ℕ → LinkNow → Standing → LinkNow
says setting bytes [] i l s = begins bytes (due_on setting (pipeline_of setting s.links) i l) l
says setting bytes (byte ∷ unsent) i l s = with_saying l.saying.kind (drop (length bytes) (byte ∷ unsent)) l.asking l

abbrev pub sends : Setting → List ℕ → ℕ → LinkNow → Standing → Standing
sends setting bytes i l s = if is_over l then s else with_link i (says setting bytes l.saying.unsent i l s) s

-- ---- ranges

abbrev pub given_up : ℕ → List Entry → List Entry
given_up segment entries = if is_held_at entries segment then with_release segment entries else entries

abbrev pub given_up_on : List ℕ → List Entry → List Entry
given_up_on [] entries = entries
given_up_on (segment ∷ waiting) entries = given_up segment entries

-- The link is over: the range of its unfinished article is given up. What stood against that range is kept, as long as the article
-- is.
abbrev pub loses : Hearing → ℕ → LinkNow → Standing → Standing
loses hearing i l s = record {
  links = edit_at i (λ old. with_hearing hearing l) s.links;
  entries = given_up_on (waiting_of l.asking) s.entries;
  ends = s.ends;
  last = s.last;
}

-- ---- answers

-- an accepted article's range is accepted; every other ending gives up a range that is held
abbrev pub entries_by : ℕ → Verdict → List Entry → List Entry
entries_by segment (Accepted part whole) entries = with_accept segment part.begin.size entries
entries_by segment (Absent code) entries = given_up segment entries
entries_by segment (Refused fault) entries = given_up segment entries
entries_by segment (Clashes clash) entries = given_up segment entries
entries_by segment (OtherSize kept) entries = given_up segment entries

abbrev pub judges : Hearing → ℕ → Verdict → ℕ → LinkNow → Standing → Standing
judges hearing segment verdict i l s = record {
  links = edit_at i (λ old. with_asking hearing (record { commands = l.asking.commands; verdicts = l.asking.verdicts ++ verdict ∷ []; against = None }) l) s.links;
  entries = entries_by segment verdict s.entries;
  ends = edit_at segment (λ old. Some verdict) s.ends;
  last = s.last;
}

-- an answer is whole, which belongs to the oldest command that lacks one
abbrev pub answers : Hearing → Reply → List ℕ → ℕ → LinkNow → Standing → Standing
answers hearing reply [] i l s = with_link i (with_hearing hearing l) s
answers hearing reply (segment ∷ waiting) i l s = judges hearing segment (verdict_of l.asking.against (kept_size (file_at s.entries segment) s.entries) reply) i l s

-- ---- range moments

abbrev pub claims_by : Hearing → ℕ → Range → Option Clash → ℕ → LinkNow → Standing → Standing
claims_by hearing segment range None i l s = record {
  links = edit_at i (λ old. with_hearing hearing l) s.links;
  entries = with_claim segment range.first range.last s.entries;
  ends = s.ends;
  last = s.last;
}
claims_by hearing segment range (Some clash) i l s =
    with_link i (with_asking hearing (record { commands = l.asking.commands; verdicts = l.asking.verdicts; against = Some clash }) l) s

abbrev pub claims : Hearing → Option Range → Option Range → List ℕ → ℕ → LinkNow → Standing → Standing
claims hearing None (Some range) (segment ∷ waiting) i l s = claims_by hearing segment range (least_clash 0 (file_at s.entries segment) range.first range.last s.entries) i l s
claims hearing None (Some range) [] i l s = with_link i (with_hearing hearing l) s
claims hearing None None waiting i l s = with_link i (with_hearing hearing l) s
claims hearing (Some range) now waiting i l s = with_link i (with_hearing hearing l) s

-- ---- a byte

abbrev pub goes_on : Hearing → Bool → ℕ → LinkNow → Standing → Standing
goes_on hearing true i l s = claims hearing (range_of l.hearing.rest) (range_of hearing.rest) (waiting_of l.asking) i l s
goes_on hearing false i l s = with_link i (with_hearing hearing l) s

abbrev pub replies_by : Hearing → Option Reply → Bool → ℕ → LinkNow → Standing → Standing
replies_by hearing (Some reply) true i l s = answers hearing reply (waiting_of l.asking) i l s
replies_by hearing (Some reply) false i l s = with_link i (with_hearing hearing l) s
replies_by hearing None ready i l s = if is_some hearing.over then loses hearing i l s else goes_on hearing ready i l s

abbrev pub hears_byte : ℕ → ℕ → LinkNow → Standing → Standing
hears_byte byte i l s = if is_over l then s else replies_by (after_byte byte l.hearing) (whole_by l.hearing.waiting (l.hearing.rest ++ byte ∷ [])) (is_ready l) i l s

-- ---- events

abbrev pub is_quiet : ℕ → ℕ → LinkNow → Standing → Standing
is_quiet patience i l s =
    if is_over l then s
    else (if is_some (after_quiet patience l.hearing).over then loses (after_quiet patience l.hearing) i l s
    else with_link i (with_hearing (after_quiet patience l.hearing) l) s)

abbrev pub is_lost : ℕ → LinkNow → Standing → Standing
is_lost i l s = if is_over l then s else loses (after_end l.hearing) i l s

abbrev pub hears : List ℕ → ℕ → Standing → Standing
hears [] n s = s
hears (byte ∷ bytes) n s = hears bytes n (on_number (hears_byte byte) n s)

abbrev pub with_last : Option ℕ → Standing → Standing
with_last last s = record { links = s.links; entries = s.entries; ends = s.ends; last = last }

abbrev pub moved : Setting → Standing → LinkEvent → Standing
moved setting s (event.Opened n address) = s
moved setting s (event.Sent n bytes) = on_number (sends setting bytes) n s
moved setting s (event.Heard n bytes) = with_last (place_from 0 n s.links) (hears bytes n s)
moved setting s (event.Quiet n) = with_last (place_from 0 n s.links) (on_number (is_quiet setting.patience) n s)
moved setting s (event.Ended n) = with_last None (on_number is_lost n s)

abbrev pub moved_by : Setting → Standing → List LinkEvent → Standing
moved_by setting s [] = s
moved_by setting s (event ∷ events) = moved_by setting (moved setting s event) events

-- what a moment says
abbrev pub standing_at : Setting → List LinkEvent → Standing
standing_at setting events = moved_by setting (before_all setting) events
