-- What the reading of all lines finds is what they are.
use Rattle.std.proofs.Common.{◌≡◌, ℕ, List, [], ◌++◌, Result, Ok, Err, ap, arith, drop, length, length-drop, subst, sym, take, ◌∙◌}
use Rattle.std.specs.Prelude.{MatchResult}
use Rattle.std.proofs.lemmas.List.{append-nil, nil_from_length, take_all}
use Rattle.yenc_body.specs.declared.part.Part.{Part}
use Rattle.yenc_body.specs.declared.fault.Fault.{Fault}
use Rattle.yenc_body.specs.Body.{IsBody}
use Rattle.yenc_body.specs.FirstFault.{IsFirstFault}
use Rattle.yenc_body.specs.BodyReading.{body_of}
use Rattle.yenc_body.proofs.BodyLaws.{Answered, AreLinesOfBytes, body_read, body_told, fault_read}

pub told : (all : List (List ℕ)) (result : Result Part Fault) → AreLinesOfBytes all → body_of all ≡ result → MatchResult result (IsBody all) (IsFirstFault all)
told all (Ok p) bytes e = subst (Answered all) e (body_told all bytes)
told all (Err f) bytes e = subst (Answered all) e (body_told all bytes)

pub each_body : (all : List (List ℕ)) (result : Result Part Fault) → body_of all ≡ result → (p : Part) → IsBody all p → result ≡ Ok p
each_body all result e p body = sym e ∙ body_read all p body

pub each_fault : (all : List (List ℕ)) (result : Result Part Fault) → body_of all ≡ result → (f : Fault) → IsFirstFault all f → result ≡ Err f
each_fault all result e f fault = sym e ∙ fault_read all f fault

-- the first elements of a vector that was written through as a slice
pub first_written : (items new : List ℕ) (len count : ℕ) → length items ≡ len → length new ≡ len → take count (take len (new ++ drop (length new) items)) ≡ take count new
first_written items new len count old_long long =
    let none : drop (length new) items ≡ [] = nil_from_length (drop (length new) items) (omega (arith, length-drop (length new) items)) in
    ap (λ r. take count (take len (new ++ r))) none ∙ ap (λ l. take count (take len l)) (append-nil new) ∙ ap (take count) (take_all len new (omega arith))
