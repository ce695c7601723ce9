-- What a core stands for.
use Rattle.std.specs.Prelude.{ℕ, List}
use Rattle.pipeline_core.specs.LinkAt.{LinkAt}
use Rattle.pipeline_core.specs.SegmentAt.{SegmentAt}

-- what is known of the links and of the segments, the level of each server, and how many segments may be outstanding on a link
pub record Pipeline : Type 0 where
  pub links : List LinkAt
  pub segments : List SegmentAt
  pub levels : List ℕ
  pub depth : ℕ
