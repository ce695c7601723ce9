-- Laws of what events do to what a moment says.
use Rattle.std.specs.Prelude.{◌≡◌, ◌≤◌, ◌++◌, ◌∷◌, [], ℕ, List, Some, length, slice_get}
use Rattle.io_traits.specs.declared.links.LinkEvent.{LinkEvent}
use Rattle.fetch_trace.specs.Setting.{Setting}
use Rattle.fetch_trace.specs.LinkNow.{LinkNow}
use Rattle.fetch_trace.specs.Standing.{Standing, pipeline_of}
use Rattle.fetch_trace.specs.Moving.{sends, hears_byte, is_quiet, is_lost, moved, standing_at}
use Rattle.fetch_trace.specs.Valid.{IsValid}
use Rattle.fetch_trace.specs.HeldRanges.{AreHeld, NoneHeld}
use Rattle.fetch_trace.specs.Calls.{after_call, byte_call, sent_call, quiet_call, end_call}

-- one more event moves what a moment says once more
abbrev pub OneEventMoves : Type 0
OneEventMoves = (setting : Setting) (events : List LinkEvent) (event : LinkEvent) →
    standing_at setting (events ++ event ∷ []) ≡ moved setting (standing_at setting events) event

-- a byte that is heard moves the states of the segments as one call of the core does
abbrev pub ByteIsACall : Type 0
ByteIsACall = (setting : Setting) (s : Standing) (i byte : ℕ) (l : LinkNow) → slice_get s.links i ≡ Some l →
    pipeline_of setting (hears_byte byte i l s).links ≡ after_call (byte_call byte l s) i (pipeline_of setting s.links)

-- and so does a piece that is sent on a link with no more answers than commands
abbrev pub PieceIsACall : Type 0
PieceIsACall = (setting : Setting) (s : Standing) (i : ℕ) (l : LinkNow) (bytes : List ℕ) → slice_get s.links i ≡ Some l → length l.asking.verdicts ≤ length l.asking.commands →
    pipeline_of setting (sends setting bytes i l s).links ≡ after_call (sent_call setting i l s) i (pipeline_of setting s.links)

-- a receive that finds nothing, and the link's end
abbrev pub QuietIsACall : Type 0
QuietIsACall = (setting : Setting) (s : Standing) (i : ℕ) (l : LinkNow) → slice_get s.links i ≡ Some l →
    pipeline_of setting (is_quiet setting.patience i l s).links ≡ after_call (quiet_call setting.patience l) i (pipeline_of setting s.links)

abbrev pub EndIsACall : Type 0
EndIsACall = (setting : Setting) (s : Standing) (i : ℕ) (l : LinkNow) → slice_get s.links i ≡ Some l →
    pipeline_of setting (is_lost i l s).links ≡ after_call (end_call l) i (pipeline_of setting s.links)

-- ---- at each moment of each trace

-- of each link the kinds of the replies that are awaited are known
abbrev pub LinksAreValid : Type 0
LinksAreValid = (setting : Setting) (events : List LinkEvent) → IsValid (standing_at setting events)

-- the ranges that are held are those of unfinished articles, and a range is accepted of a segment that has arrived
abbrev pub RangesAreHeld : Type 0
RangesAreHeld = (setting : Setting) (events : List LinkEvent) → NoneHeld setting.entries → AreHeld setting (standing_at setting events)
