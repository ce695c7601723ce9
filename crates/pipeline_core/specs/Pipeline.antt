-- The state of each segment, and the segment that a link asks for next.
use Rattle.std.specs.Prelude.{◌&&◌, ℕ, Bool, true, false, not, List, [], Option, Some, None, if◌then◌else◌, length, map, replicate, slice_get}
use Rattle.lists.specs.Edit.{edit_at}
use Rattle.pipeline_core.specs.LinkAt.{LinkAt}
use Rattle.pipeline_core.specs.Links.{fresh_link, with_greeting, with_asked, without_oldest, with_end, may_ask, holder}
use Rattle.pipeline_core.specs.SegmentAt.{SegmentAt}
use Rattle.pipeline_core.specs.PipelineAt.{Pipeline}
use Rattle.pipeline_core.specs.Searches.{all_from, first_from, is_answered_at, is_arrived_at, is_done_with, lets_pass}
use Rattle.pipeline_core.specs.declared.state.Outcome.{Outcome}
use Rattle.pipeline_core.specs.declared.state.Outcome.TheVariants.{Arrived as HasArrived, NotHere}
use Rattle.pipeline_core.specs.declared.state.SegmentState.{SegmentState}
use Rattle.pipeline_core.specs.declared.state.SegmentState.TheVariants.{Open, Outstanding, Arrived, Exhausted}
use Rattle.limits.specs.declared.TheConstants.{MOST_SERVERS}

-- every server is done with the segment
abbrev pub is_spent : Pipeline → ℕ → Bool
is_spent p segment = all_from (is_done_with p.links (slice_get p.segments segment)) 0 (length p.levels)

-- every server of a lower level is done with the segment
abbrev pub is_turn : Pipeline → ℕ → ℕ → Bool
is_turn p server segment = all_from (lets_pass p.links p.levels server (slice_get p.segments segment)) 0 (length p.levels)

abbrev pub state_by : Bool → Option ℕ → Bool → SegmentState
state_by true holder spent = Arrived
state_by false (Some link) spent = Outstanding link
state_by false None true = Exhausted
state_by false None false = Open

abbrev pub segment_state : Pipeline → ℕ → SegmentState
segment_state p segment = state_by (is_arrived_at (slice_get p.segments segment)) (holder p.links segment) (is_spent p segment)

abbrev pub is_open : SegmentState → Bool
is_open Open = true
is_open (Outstanding link) = false
is_open Arrived = false
is_open Exhausted = false

abbrev pub is_decided : SegmentState → Bool
is_decided Open = false
is_decided (Outstanding link) = false
is_decided Arrived = true
is_decided Exhausted = true

-- open, not answered by this server, and every server of a lower level is done with it
abbrev pub can_be_asked : Pipeline → ℕ → ℕ → Bool
can_be_asked p server segment = (is_open (segment_state p segment) && not (is_answered_at server (slice_get p.segments segment))) && is_turn p server segment

abbrev pub next_on : Pipeline → Option LinkAt → Option ℕ
next_on p (Some link) = if may_ask p.depth link then first_from (can_be_asked p link.server) 0 (length p.segments) else None
next_on p None = None

-- the segment that a link asks for next
abbrev pub next_segment : Pipeline → ℕ → Option ℕ
next_segment p link = next_on p (slice_get p.links link)

abbrev pub is_finished : Pipeline → Bool
is_finished p = all_from (λ segment. is_decided (segment_state p segment)) 0 (length p.segments)

abbrev pub asked_of : Option LinkAt → List ℕ
asked_of (Some link) = link.asked
asked_of None = []

abbrev pub server_of : Option LinkAt → ℕ
server_of (Some link) = link.server
server_of None = 0

abbrev pub server_on : Pipeline → ℕ → ℕ
server_on p link = server_of (slice_get p.links link)

abbrev pub is_over_of : Option LinkAt → Bool
is_over_of (Some link) = link.over
is_over_of None = false

abbrev pub is_over_on : Pipeline → ℕ → Bool
is_over_on p link = is_over_of (slice_get p.links link)

abbrev pub is_greeted_of : Option LinkAt → Bool
is_greeted_of (Some link) = link.greeted
is_greeted_of None = false

abbrev pub is_greeted_on : Pipeline → ℕ → Bool
is_greeted_on p link = is_greeted_of (slice_get p.links link)

abbrev pub asked_on : Pipeline → ℕ → List ℕ
asked_on p link = asked_of (slice_get p.links link)

-- what the calls do
abbrev pub with_links : Pipeline → List LinkAt → Pipeline
with_links p links = record { links = links; segments = p.segments; levels = p.levels; depth = p.depth }

abbrev pub after_greeting : Pipeline → ℕ → Pipeline
after_greeting p link = with_links p (edit_at link with_greeting p.links)

abbrev pub after_next : Pipeline → ℕ → Option ℕ → Pipeline
after_next p link (Some segment) = with_links p (edit_at link (with_asked segment) p.links)
after_next p link None = p

abbrev pub after_over : Pipeline → ℕ → Pipeline
after_over p link = with_links p (edit_at link with_end p.links)

abbrev pub with_arrival : SegmentAt → SegmentAt
with_arrival segment = record { arrived = true; answered = segment.answered }

-- a segment has arrived without an answer
abbrev pub after_settling : Pipeline → ℕ → Pipeline
after_settling p segment = record { links = p.links; segments = edit_at segment with_arrival p.segments; levels = p.levels; depth = p.depth }

abbrev pub with_answer : ℕ → SegmentAt → SegmentAt
with_answer server segment = record { arrived = segment.arrived; answered = edit_at server (λ old. true) segment.answered }

abbrev pub with_outcome : ℕ → Outcome → SegmentAt → SegmentAt
with_outcome server HasArrived segment = with_arrival segment
with_outcome server NotHere segment = with_answer server segment

abbrev pub after_reply : Pipeline → ℕ → ℕ → Outcome → Pipeline
after_reply p link segment outcome =
    record {
      links = edit_at link without_oldest p.links;
      segments = edit_at segment (with_outcome (server_on p link) outcome) p.segments;
      levels = p.levels;
      depth = p.depth;
    }

abbrev pub unanswered : SegmentAt
unanswered = record { arrived = false; answered = replicate MOST_SERVERS false }

-- no link greeted, and no segment asked for
abbrev pub start : List ℕ → List ℕ → ℕ → ℕ → Pipeline
start server_of_link level_of_server segments depth =
    record { links = map fresh_link server_of_link; segments = replicate segments unanswered; levels = level_of_server; depth = depth }
