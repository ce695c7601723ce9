-- Which segments have the sides of a node.
use Rattle.std.specs.Prelude.{◌≡◌, ℕ, List, [], ◌∷◌, Option, Some, None, slice_get}
use Rattle.range_assembler.specs.declared.sequence.Range.{Range}

pub record HasSegment (segment : ℕ) (ranges : List Range) : Type 0 where
  pub place : ℕ
  pub range : Range
  pub there : slice_get ranges place ≡ Some range
  pub its : range.segment ≡ segment

-- a segment without sides has a range in the order
abbrev pub HaveSides : {X : Type 0} → List (Option X) → List Range → Type 0
HaveSides sides ranges = (k : ℕ) → slice_get sides k ≡ Some None → HasSegment k ranges

-- each segment has the sides of a node
abbrev pub AllSome : {X : Type 0} → List (Option X) → Type 0
AllSome [] = Unit {0}
AllSome (None ∷ sides) = ⊥
AllSome (Some side ∷ sides) = AllSome sides
