-- What a moment says of all links and segments, as one value that each event moves.
use Rattle.std.specs.Prelude.{zero, suc, ◌+◌, ◌==◌, ◌||◌, ℕ, Bool, false, List, [], ◌∷◌, Option, Some, None, if◌then◌else◌, length, map, replicate, slice_get}
use Rattle.limits.specs.declared.TheConstants.{MOST_SERVERS}
use Rattle.lists.specs.Edit.{edit_at}
use Rattle.pipeline_core.specs.SegmentAt.{SegmentAt}
use Rattle.pipeline_core.specs.PipelineAt.{Pipeline}
use Rattle.range_assembler.specs.declared.assembler.Entry.{Entry}
use Rattle.range_assembler.specs.Entries.{is_accepted as is_accepted_hold}
use Rattle.fetch_trace.specs.Setting.{Setting}
use Rattle.fetch_trace.specs.Verdicts.{Verdict}
use Rattle.fetch_trace.specs.LinkNow.{LinkNow, fresh_link, link_at, some_arrival, some_absence}

-- the links, the ranges that articles hold, the verdict of each segment's last answer, and the link of the last receive behind
-- which there are only bytes sent
pub record Standing : Type 0 where
  pub links : List LinkNow
  pub entries : List Entry
  pub ends : List (Option Verdict)
  pub last : Option ℕ

abbrev pub before_all : Setting → Standing
before_all setting = record { links = map fresh_link setting.openings; entries = setting.entries; ends = replicate (length setting.entries) None; last = None }

abbrev pub with_link : ℕ → LinkNow → Standing → Standing
with_link i l s = record { links = edit_at i (λ old. l) s.links; entries = s.entries; ends = s.ends; last = s.last }

-- ---- the state of the segments

-- the list of f at `count` numbers from `start` on
abbrev pub from_numbers : {A : Type 0} → (ℕ → A) → ℕ → ℕ → List A
from_numbers f start zero = []
from_numbers f start (suc count) = f start ∷ from_numbers f (start + 1) count

abbrev pub is_kept : Option Entry → Bool
is_kept (Some entry) = is_accepted_hold entry.hold
is_kept None = false

abbrev pub segment_at : Setting → List LinkNow → ℕ → SegmentAt
segment_at setting links segment = record {
  arrived = is_kept (slice_get setting.entries segment) || some_arrival segment links;
  answered = from_numbers (λ server. some_absence server segment links) 0 MOST_SERVERS;
}

abbrev pub pipeline_of : Setting → List LinkNow → Pipeline
pipeline_of setting links = record {
  links = map link_at links;
  segments = from_numbers (segment_at setting links) 0 (length setting.entries);
  levels = setting.levels;
  depth = setting.depth;
}

-- ---- the link of an event

abbrev pub is_number : ℕ → Option ℕ → Bool
is_number n (Some m) = m == n
is_number n None = false

abbrev pub place_from : ℕ → ℕ → List LinkNow → Option ℕ
place_from k n [] = None
place_from k n (l ∷ links) = if is_number n l.opening.number then Some k else place_from (k + 1) n links

abbrev pub by_link : (ℕ → LinkNow → Standing → Standing) → ℕ → Option LinkNow → Standing → Standing
by_link f i (Some l) s = f i l s
by_link f i None s = s

abbrev pub by_place : (ℕ → LinkNow → Standing → Standing) → Option ℕ → Standing → Standing
by_place f (Some i) s = by_link f i (slice_get s.links i) s
by_place f None s = s

-- a change of the link with a number
abbrev pub on_number : (ℕ → LinkNow → Standing → Standing) → ℕ → Standing → Standing
on_number f n s = by_place f (place_from 0 n s.links) s
