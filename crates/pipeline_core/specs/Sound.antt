-- What is true of every core.
use Rattle.std.specs.Prelude.{◌≡◌, ◌≢◌, ◌<◌, ◌≤◌, ◌⊎◌, ℕ, true, false, List, [], Option, Some, None, length, slice_get}
use Rattle.pipeline_core.specs.LinkAt.{LinkAt}
use Rattle.pipeline_core.specs.Links.{times, times_asked, holder}
use Rattle.pipeline_core.specs.SegmentAt.{SegmentAt}
use Rattle.pipeline_core.specs.declared.state.Outcome.{Outcome}
use Rattle.pipeline_core.specs.declared.state.Outcome.TheVariants.{NotHere}
use Rattle.pipeline_core.specs.PipelineAt.{Pipeline}
use Rattle.pipeline_core.specs.Pipeline.{can_be_asked, segment_state, is_decided, unanswered}
use Rattle.pipeline_core.specs.Searches.{is_arrived_at, is_answered_at}
use Rattle.limits.specs.declared.TheConstants.{MOST_DEPTH, MOST_LINKS, MOST_SEGMENTS, MOST_SERVERS}

-- a segment is outstanding once at most, on one link, and none that has arrived is
pub record IsExclusive (links : List LinkAt) (segments : List SegmentAt) : Type 0 where
  pub once : (segment : ℕ) → times_asked links segment ≤ 1
  pub none_arrived : (segment : ℕ) → is_arrived_at (slice_get segments segment) ≡ true → times_asked links segment ≡ 0
  pub within : (segment : ℕ) → length segments ≤ segment → times_asked links segment ≡ 0

-- none that is outstanding on a link has been answered by the link's server
abbrev pub AreUnanswered : List LinkAt → List SegmentAt → Type 0
AreUnanswered links segments = (k segment : ℕ) (link : LinkAt) → slice_get links k ≡ Some link → 0 < times segment link.asked → is_answered_at link.server (slice_get segments segment) ≡ false

-- nothing is outstanding on a link that is over
abbrev pub AreIdle : List LinkAt → Type 0
AreIdle links = (k : ℕ) (link : LinkAt) → slice_get links k ≡ Some link → link.over ≡ true → link.asked ≡ []

-- the limits, and that each link's server is one of the servers
pub record IsLimited (links : List LinkAt) (segments : List SegmentAt) (levels : List ℕ) (depth : ℕ) : Type 0 where
  pub few_servers : length levels ≤ MOST_SERVERS
  pub few_links : length links ≤ MOST_LINKS
  pub few_segments : length segments ≤ MOST_SEGMENTS
  pub small_depth : depth ≤ MOST_DEPTH
  pub each : (k : ℕ) (link : LinkAt) → slice_get links k ≡ Some link → (link.server < length levels) × (length link.asked ≤ depth)

-- a link is kept beside each segment that is outstanding
pub record IsHeldBy (links : List LinkAt) (segments : List SegmentAt) (holders : List (Option ℕ)) : Type 0 where
  pub same : length holders ≡ length segments
  pub each : (segment : ℕ) → segment < length segments → slice_get holders segment ≡ Some (holder links segment)

-- what the lists that a core keeps are
pub record AreSoundLists (links : List LinkAt) (segments : List SegmentAt) (holders : List (Option ℕ)) (levels : List ℕ) (depth : ℕ) : Type 0 where
  pub exclusive : IsExclusive links segments
  pub unanswered : AreUnanswered links segments
  pub idle : AreIdle links
  pub limited : IsLimited links segments levels depth
  pub held : IsHeldBy links segments holders

-- of a segment that was never asked for nothing is known, or that it arrived all the same
abbrev pub IsUnaskedOrArrived : Option SegmentAt → Type 0
IsUnaskedOrArrived known = (known ≡ Some unanswered) ⊎ (is_arrived_at known ≡ true)

-- the places at which searches begin: a server can be asked for no segment below its own, be they answered, not open, or held
-- back for a server of a lower level; none from `fresh` on was asked for, and that one hasn't arrived; and each below `decided` is
-- decided
pub record IsPlaced (p : Pipeline) (lows : List ℕ) (fresh decided : ℕ) : Type 0 where
  pub as_many : length lows ≡ MOST_SERVERS
  pub marks : (segment : ℕ) (known : SegmentAt) → slice_get p.segments segment ≡ Some known → length known.answered ≡ MOST_SERVERS
  pub closed : (server low segment : ℕ) → slice_get lows server ≡ Some low → segment < low → can_be_asked p server segment ≡ false
  pub unasked : (segment : ℕ) → fresh ≤ segment → segment < length p.segments → (holder p.links segment ≡ None) × IsUnaskedOrArrived (slice_get p.segments segment)
  pub first_unasked : fresh < length p.segments → slice_get p.segments fresh ≡ Some unanswered
  pub all_decided : (segment : ℕ) → segment < decided → is_decided (segment_state p segment) ≡ true

-- what a server's place is after a segment was answered by another one: no higher than it was, and where the segment didn't
-- arrive, at most at the segment
pub record HasFallen (lows : List ℕ) (server segment : ℕ) (outcome : Outcome) (other low : ℕ) : Type 0 where
  pub was : ℕ
  pub before : slice_get lows other ≡ Some was
  pub kept : low ≤ was
  pub fell : outcome ≡ NotHere → other ≢ server → low ≤ segment

-- what is true of a core, the places included
pub record IsSoundCore (p : Pipeline) (holders : List (Option ℕ)) (lows : List ℕ) (fresh decided : ℕ) : Type 0 where
  pub sound : AreSoundLists p.links p.segments holders p.levels p.depth
  pub placed : IsPlaced p lows fresh decided

-- what a caller can know of each core
pub record IsSoundPipeline (p : Pipeline) : Type 0 where
  pub exclusive : IsExclusive p.links p.segments
  pub unanswered : AreUnanswered p.links p.segments
  pub idle : AreIdle p.links
  pub limited : IsLimited p.links p.segments p.levels p.depth
