-- What a tree of ranges is seen as.
use Rattle.std.specs.Prelude.{◌≡◌, List, [], ◌∷◌, ◌++◌, length}
use Rattle.range_assembler.specs.declared.sequence.Range.{Range}
use Rattle.range_assembler.specs.declared.sequence.Node.{Node}
use Rattle.range_assembler.specs.declared.sequence.Node.TheVariants.{Leaf, Fork}

-- the ranges in order
abbrev pub ranges : Node → List Range
ranges Leaf = []
ranges (Fork left before range after right) = left.value ++ range ∷ right.value

-- the two counts are those of the sides
abbrev pub IsCounted : Node → Type 0
IsCounted Leaf = Unit {0}
IsCounted (Fork left before range after right) = (before ≡ length left.value) × (after ≡ length right.value)
