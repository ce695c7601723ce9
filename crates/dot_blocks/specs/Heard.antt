-- A block as it is heard, in pieces (RFC 3977, section 3.1.1).
use Rattle.std.specs.Prelude.{◌≡◌, ◌≢◌, ℕ, List, [], ◌∷◌, ◌++◌}
use Rattle.dot_blocks.specs.Blocks.{HoldsNoLineEnd, IsWireForm, AreWireLines, IsBlock}
use Rattle.dot_blocks.specs.declared.framer.Frame.{Frame}
use Rattle.dot_blocks.specs.declared.framer.Frame.TheVariants.{More, LineEnd, End}
use Rattle.dot_blocks.specs.declared.place.Place.{Place}
use Rattle.dot_blocks.specs.declared.place.Place.TheVariants.{Start, Dot, DotReturn, Return, Middle}

-- The bytes that were heard of a block that hasn't ended: whole lines on the wire, and what has come of the next one,
-- without its CRLF. No block stands at their front.
pub record IsHeard (heard : List ℕ) (lines : List (List ℕ)) (begun : List ℕ) : Type 0 where
  pub whole : List ℕ
  pub are_lines : AreWireLines lines whole
  pub goes_on : HoldsNoLineEnd begun
  pub heard_is : heard ≡ whole ++ begun

abbrev pub EndsWithReturn : List ℕ → Type 0
EndsWithReturn bytes = (front : List ℕ) × (bytes ≡ front ++ 13 ∷ [])

-- what a place says of a line that has begun
abbrev pub IsAt : Place → List ℕ → Type 0
IsAt Start begun = begun ≡ []
IsAt Dot begun = begun ≡ 46 ∷ []
IsAt DotReturn begun = begun ≡ 46 ∷ 13 ∷ []
IsAt Return begun = EndsWithReturn begun × (begun ≢ 46 ∷ 13 ∷ [])
IsAt Middle begun = ¬ (EndsWithReturn begun) × (begun ≢ []) × (begun ≢ 46 ∷ [])

-- what a framer keeps after these bytes of a block that hasn't ended: its lines so far, and where the next one stands
pub record HasFramed (framer : Place) (heard : List ℕ) (lines : List (List ℕ)) (begun : List ℕ) : Type 0 where
  pub is_heard : IsHeard heard lines begun
  pub is_at : IsAt framer begun

-- a line with its CRLF, of bytes on the wire
abbrev pub IsEnded : List ℕ → Type 0
IsEnded bytes = (wire : List ℕ) × HoldsNoLineEnd wire × (bytes ≡ wire ++ 13 ∷ 10 ∷ [])

-- What a step over a piece says by its answer, after these bytes. `More`: the line goes on. `LineEnd`: the piece ends with
-- the CRLF of the line, the first that came. `End`: it ends with that of the dot, and the framer is as new.
abbrev pub StepsOver : Place → List ℕ → List (List ℕ) → List ℕ → List ℕ → Frame → Type 0
StepsOver framer heard lines begun piece More = HasFramed framer (heard ++ piece) lines (begun ++ piece)
StepsOver framer heard lines begun piece LineEnd =
    (line wire : List ℕ) × IsWireForm line wire × (begun ++ piece ≡ wire ++ 13 ∷ 10 ∷ [])
    × HasFramed framer (heard ++ piece) (lines ++ line ∷ []) []
StepsOver framer heard lines begun piece End =
    (begun ++ piece ≡ 46 ∷ 13 ∷ 10 ∷ []) × IsBlock lines (heard ++ piece) × HasFramed framer [] [] []
