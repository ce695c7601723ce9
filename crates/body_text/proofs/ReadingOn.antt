-- The reading goes on by a line, or ends.
use Rattle.std.proofs.Common.{◌≡◌, ℕ, ◌+◌, List, [], ◌∷◌, length, drop, refl, sym, ◌∙◌, ap, subst, arith, Ok, Err, ◌≤◌, length-drop}
use Rattle.lists.specs.Text.{text_lines}
use Rattle.lists.proofs.TextLines.{no_line}
use Rattle.yenc_body.specs.declared.place.Place.{Place}
use Rattle.yenc_body.specs.declared.place.Place.TheVariants.{Closed, Opening}
use Rattle.yenc_body.specs.declared.part.Part.{Part}
use Rattle.yenc_body.specs.declared.fault.Fault.{Fault}
use Rattle.yenc_body.specs.declared.fault.Reason.{Reason}
use Rattle.yenc_body.specs.BodyReading.{body_of, ended_at, fault_at, line_of, place_from}
use Rattle.yenc_body.specs.declared.stage.Head.{Head}
use Rattle.yenc_body.specs.declared.stage.Stage.{Stage}
use Rattle.yenc_body.specs.declared.stage.Stage.TheVariants.{Filling}
use Rattle.body_text.specs.Standing.{EndsIn, IsBeforeData, StandsAt}

-- before the first line
pub at_first : (all : List (List ℕ)) → StandsAt all all Opening 0
at_first all = record { reads_on = refl; count = omega arith }

leads : (rest : List (List ℕ)) (line : List ℕ) (place next : Place) (before : ℕ) → line_of place line ≡ Ok next → place_from (line ∷ rest) place before ≡ place_from rest next (before + 1)
unfolding place_from
leads rest line place next before e = rw (e, place_from) refl

refuses : (rest : List (List ℕ)) (line : List ℕ) (place : Place) (before column : ℕ) (reason : Reason) → line_of place line ≡ Err (column, reason) →
    place_from (line ∷ rest) place before ≡ Err (fault_at (before + 1) column reason)
unfolding place_from
refuses rest line place before column reason e = rw (e, place_from) refl

-- a line leads to the next place
pub behind_line : (all rest : List (List ℕ)) (line : List ℕ) (place next : Place) (before : ℕ) → StandsAt all (line ∷ rest) place before → line_of place line ≡ Ok next → StandsAt all rest next (before + 1)
behind_line all rest line place next before s e = record {
  reads_on = sym (leads rest line place next before e) ∙ s.reads_on;
  count = omega (arith, s.count);
}

-- a line is refused
pub ends_in : (all rest : List (List ℕ)) (line : List ℕ) (place : Place) (before column : ℕ) (reason : Reason) → StandsAt all (line ∷ rest) place before → line_of place line ≡ Err (column, reason) →
    EndsIn all (fault_at (before + 1) column reason)
ends_in all rest line place before column reason s e =
    ap (ended_at (length all)) (sym s.reads_on ∙ refuses rest line place before column reason e)

-- no line is left
pub at_end : (all : List (List ℕ)) (place : Place) (before : ℕ) → StandsAt all [] place before → body_of all ≡ ended_at before (Ok place)
unfolding place_from
at_end all place before s =
    let e : length all ≡ before = omega (arith, s.count) in
    ap (ended_at (length all)) (sym s.reads_on) ∙ ap (λ n. ended_at n (Ok place)) e

-- the same of the lines that are left of a text
pub behind_first : (all : List (List ℕ)) (left rest line : List ℕ) (place next : Place) (before : ℕ) → StandsAt all (text_lines left) place before → text_lines left ≡ line ∷ text_lines rest → line_of place line ≡ Ok next →
    StandsAt all (text_lines rest) next (before + 1)
behind_first all left rest line place next before s first e = behind_line all (text_lines rest) line place next before (subst (λ (l : List (List ℕ)). StandsAt all l place before) first s) e

pub refused_first : (all : List (List ℕ)) (left rest line : List ℕ) (place : Place) (before column : ℕ) (reason : Reason) → StandsAt all (text_lines left) place before → text_lines left ≡ line ∷ text_lines rest →
    line_of place line ≡ Err (column, reason) → (fault : Fault) → fault ≡ fault_at (before + 1) column reason → EndsIn all fault
refused_first all left rest line place before column reason s first e fault is =
    ends_in all (text_lines rest) line place before column reason (subst (λ (l : List (List ℕ)). StandsAt all l place before) first s) e ∙ ap Err (sym is)

pub cut_short : (all : List (List ℕ)) (text : List ℕ) (at : ℕ) (place : Place) (before : ℕ) (reason : Reason) → StandsAt all (text_lines (drop at text)) place before → length text ≤ at →
    ((n : ℕ) → ended_at n (Ok place) ≡ Err (fault_at (n + 1) 1 reason)) → (fault : Fault) → fault ≡ fault_at (before + 1) 1 reason → EndsIn all fault
cut_short all text at place before reason s past ends fault is =
    let none : text_lines (drop at text) ≡ [] = no_line (drop at text) (omega (arith, length-drop at text)) in
    at_end all place before (subst (λ (l : List (List ℕ)). StandsAt all l place before) none s) ∙ ends before ∙ ap Err (sym is)

-- a stage at which the range isn't fixed
pub not_data : (s : Stage) → ((head : Head) → s ≡ Filling head → ⊥) → IsBeforeData s
not_data (Filling head) other = other head refl
not_data other rest = tt

-- what follows the trailer line changes nothing
closed_stays : (lines : List (List ℕ)) (p : Part) (before : ℕ) → place_from lines (Closed p) before ≡ Ok (Closed p)
unfolding place_from line_of
closed_stays [] p before = refl
closed_stays (line ∷ lines) p before = closed_stays lines p (before + 1)

-- behind the trailer line
pub at_closed : (all rest : List (List ℕ)) (p : Part) (before : ℕ) → StandsAt all rest (Closed p) before → body_of all ≡ Ok p
at_closed all rest p before s = ap (ended_at (length all)) (sym s.reads_on ∙ closed_stays rest p before)
