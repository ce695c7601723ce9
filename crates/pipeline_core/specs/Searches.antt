-- Searches by a test on numbers, and tests on segments and servers.
use Rattle.std.specs.Prelude.{zero, suc, ◌+◌, ◌==◌, ◌&&◌, ◌||◌, ℕ, Bool, true, false, not, List, Option, Some, None, if◌then◌else◌, nat_lt, slice_index_or}
use Rattle.pipeline_core.specs.LinkAt.{LinkAt}
use Rattle.pipeline_core.specs.SegmentAt.{SegmentAt}
use Rattle.pipeline_core.specs.Links.{has_link_left}

-- whether the test holds at each of `count` numbers from `start` on
abbrev pub all_from : (ℕ → Bool) → ℕ → ℕ → Bool
all_from test start zero = true
all_from test start (suc count) = test start && all_from test (start + 1) count

-- the least of `count` numbers from `start` on at which the test holds
abbrev pub first_from : (ℕ → Bool) → ℕ → ℕ → Option ℕ
first_from test start zero = None
first_from test start (suc count) = if test start then Some start else first_from test (start + 1) count

abbrev pub is_answered_at : ℕ → Option SegmentAt → Bool
is_answered_at server (Some segment) = slice_index_or segment.answered server false
is_answered_at server None = false

abbrev pub is_arrived_at : Option SegmentAt → Bool
is_arrived_at (Some segment) = segment.arrived
is_arrived_at None = false

-- a server has answered the segment, or has only links that are over
abbrev pub is_done_with : List LinkAt → Option SegmentAt → ℕ → Bool
is_done_with links segment server = is_answered_at server segment || not (has_link_left links server)

-- a server's level
abbrev pub level_of : List ℕ → ℕ → ℕ
level_of levels server = slice_index_or levels server 0

-- whether a server has a lower level than another
abbrev pub is_below : List ℕ → ℕ → ℕ → Bool
is_below levels server other = nat_lt (level_of levels server) (level_of levels other)

-- a server isn't below another, or is done with the segment
abbrev pub lets_pass : List LinkAt → List ℕ → ℕ → Option SegmentAt → ℕ → Bool
lets_pass links levels server segment other = not (is_below levels other server) || is_done_with links segment other

-- a server is below another, and has a link that isn't over
abbrev pub waits_for : List LinkAt → List ℕ → ℕ → ℕ → Bool
waits_for links levels server other = is_below levels other server && has_link_left links other

-- a link's segments are held by none
abbrev pub without_link : ℕ → Option ℕ → Option ℕ
without_link link (Some other) = if other == link then None else Some other
without_link link None = None

abbrev pub forgotten_at : ℕ → Option (Option ℕ) → Option (Option ℕ)
forgotten_at link (Some held) = Some (without_link link held)
forgotten_at link None = None

-- a server that is waited for has answered
abbrev pub passes : List Bool → List Bool → ℕ → Bool
passes waits answered other = not (slice_index_or waits other false) || slice_index_or answered other false
