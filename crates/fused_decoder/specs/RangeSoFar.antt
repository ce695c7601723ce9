-- What the lines of a block say of the part's range, before all of them have come (yEnc draft 1.3, "Multi-part Encoded Binaries").
use Rattle.std.specs.Prelude.{◌≡◌, ℕ, ◌⊎◌, Bool, List, ◌++◌, Option, Some, None}
use Rattle.yenc_lines.specs.declared.keyword.Begin.{Begin}
use Rattle.yenc_body.specs.declared.fault.Fault.{Fault}
use Rattle.yenc_body.specs.Body.{IsHead}
use Rattle.fused_decoder.specs.HeardLine.{IsHeardAs}
use Rattle.fused_decoder.specs.Stands.{IsStanding, IsFixed}

-- one of these lines fixes this range: the header line of a file in one part, or the part line
pub record FixRange (lines : List (List ℕ)) (first last : ℕ) : Type 0 where
  pub begin : Begin
  pub head : List (List ℕ)
  pub more : List (List ℕ)
  pub lines_are : lines ≡ head ++ more
  pub is_head : IsHead head begin first last

-- none of these lines fixes one, or a fault stands in them or in the line that has begun
abbrev pub HaveNoRange : List (List ℕ) → List ℕ → Type 0
HaveNoRange lines content = (IsFixed lines → ⊥) ⊎ ((fault : Fault) × IsStanding lines content fault)

abbrev pub SaysOfRange : List (List ℕ) → List ℕ → Option (ℕ × ℕ) → Type 0
SaysOfRange lines content (Some range) = FixRange lines range.0 range.1
SaysOfRange lines content None = HaveNoRange lines content

-- the range that the bytes heard of a block that hasn't ended fix, or nothing
pub record IsRangeSoFar (heard : List ℕ) (range : Option (ℕ × ℕ)) : Type 0 where
  pub lines : List (List ℕ)
  pub dot : Bool
  pub content : List ℕ
  pub cr : Bool
  pub is_heard : IsHeardAs heard lines dot content cr
  pub says : SaysOfRange lines content range
