-- What is known of a link.
use Rattle.std.specs.Prelude.{ℕ, Bool, List}

-- its server, whether it was greeted and is over, and the segments outstanding on it, the oldest first
pub record LinkAt : Type 0 where
  pub server : ℕ
  pub greeted : Bool
  pub over : Bool
  pub asked : List ℕ
