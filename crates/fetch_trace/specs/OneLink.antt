-- The law of links: what happens on one link leaves what is said of every other.
use Rattle.std.specs.Prelude.{◌≡◌, ◌≢◌, ℕ, List, Some, slice_get}
use Rattle.io_traits.specs.declared.links.LinkEvent.{LinkEvent}
use Rattle.io_traits.specs.Trace.{link_of}
use Rattle.pipeline_core.specs.Links.{times}
use Rattle.pipeline_core.specs.PipelineAt.{Pipeline}
use Rattle.pipeline_core.specs.Pipeline.{segment_state}
use Rattle.pipeline_core.specs.declared.state.SegmentState.TheVariants.{Outstanding, Arrived, Exhausted}
use Rattle.fetch_trace.specs.Setting.{Setting}
use Rattle.fetch_trace.specs.LinkNow.{LinkNow, waiting_of}
use Rattle.fetch_trace.specs.Standing.{Standing, pipeline_of, place_from, on_number}
use Rattle.fetch_trace.specs.Moving.{hears_byte, moved, standing_at}

-- a segment that has arrived, is exhausted, or is outstanding on another link is so afterwards
pub record Keeps (before after : Pipeline) (i segment : ℕ) : Type 0 where
  pub arrived : segment_state before segment ≡ Arrived → segment_state after segment ≡ Arrived
  pub exhausted : segment_state before segment ≡ Exhausted → segment_state after segment ≡ Exhausted
  pub elsewhere : (other : ℕ) → other ≢ i → segment_state before segment ≡ Outstanding other → segment_state after segment ≡ Outstanding other

-- From one standing to another, by what happens on the link with this number: each other link stands as it did, with its replies,
-- its rest and why it is over; the segments are kept that have arrived, are exhausted or are outstanding elsewhere; and the ranges
-- are those that were, but for the articles that are awaited on this link.
pub record LeavesOthers (setting : Setting) (s t : Standing) (n : ℕ) : Type 0 where
  pub others : (k : ℕ) (l : LinkNow) → place_from 0 n s.links ≢ Some k → slice_get s.links k ≡ Some l → slice_get t.links k ≡ Some l
  pub places : (other : ℕ) → place_from 0 other t.links ≡ place_from 0 other s.links
  pub segments : (i segment : ℕ) → place_from 0 n s.links ≡ Some i → Keeps (pipeline_of setting s.links) (pipeline_of setting t.links) i segment
  pub entries : (i segment : ℕ) (l : LinkNow) → place_from 0 n s.links ≡ Some i → slice_get s.links i ≡ Some l → times segment (waiting_of l.asking) ≡ 0 → slice_get t.entries segment ≡ slice_get s.entries segment

-- a byte that is heard
abbrev pub OneLinkMoves : Type 0
OneLinkMoves = (setting : Setting) (events : List LinkEvent) (n byte : ℕ) → LeavesOthers setting (standing_at setting events) (on_number (hears_byte byte) n (standing_at setting events)) n

-- a whole event: a piece that is heard or sent, a receive that finds nothing, an end
abbrev pub OneEventLeavesOthers : Type 0
OneEventLeavesOthers = (setting : Setting) (events : List LinkEvent) (event : LinkEvent) → LeavesOthers setting (standing_at setting events) (moved setting (standing_at setting events) event) (link_of event)
