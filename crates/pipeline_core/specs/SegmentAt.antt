-- What is known of a segment.
use Rattle.std.specs.Prelude.{Bool, List}

-- whether it arrived, and for each server whether it has answered that it hasn't got it
pub record SegmentAt : Type 0 where
  pub arrived : Bool
  pub answered : List Bool
