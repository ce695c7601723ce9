-- Where the reading of a body's lines stands.
use Rattle.std.specs.Prelude.{◌≡◌, ℕ, ◌+◌, ◌≤◌, List, length, take, Ok, Err, Result, ⊤}
use Rattle.yenc_body.specs.declared.place.Place.{Place}
use Rattle.yenc_body.specs.declared.fault.Fault.{Fault}
use Rattle.yenc_body.specs.declared.stage.Head.{Head}
use Rattle.yenc_body.specs.declared.stage.Stage.{Stage}
use Rattle.yenc_body.specs.declared.stage.Stage.TheVariants.{Filling}
use Rattle.yenc_body.specs.BodyReading.{body_of, place_from, place_of}

-- Behind so many of all lines, at a place, the lines that are left give what all lines give.
pub record StandsAt (all rest : List (List ℕ)) (place : Place) (before : ℕ) : Type 0 where
  pub reads_on : place_from rest place before ≡ place_of all
  pub count : before + length rest ≡ length all

-- lines have this fault first
abbrev pub EndsIn : List (List ℕ) → Fault → Type 0
EndsIn all fault = body_of all ≡ Err fault

-- the range isn't fixed yet
abbrev pub IsBeforeData : Stage → Type 0
IsBeforeData (Filling head) = ⊥
IsBeforeData other = ⊤

-- The part's bytes are the first of a buffer, or the lines have a fault.
abbrev pub ReadsData : List (List ℕ) → Head → List ℕ → Result ℕ Fault → Type 0
ReadsData all head buf (Ok count) = (count ≤ length buf) × (body_of all ≡ Ok (record { begin = head.begin; first = head.first; last = head.last; content = take count buf }))
ReadsData all head buf (Err fault) = EndsIn all fault

-- the same of what is said of the part before its bytes, and how many these are
abbrev pub ReadsText : List (List ℕ) → List ℕ → Result (Head × ℕ) Fault → Type 0
ReadsText all buf (Ok (head, count)) = ReadsData all head buf (Ok count)
ReadsText all buf (Err fault) = EndsIn all fault
