-- Places in scripts, and what a receive gets from there.
use Rattle.std.proofs.Common.{◌≡◌, ℕ, zero, suc, ◌+◌, ◌<◌, ◌≤◌, true, false, List, [], ◌∷◌, length, drop, set, get_or, refl, sym, ◌∙◌, ap, arith, drop-cons, length-drop}
use Rattle.std.specs.Prelude.{replicate}
use Rattle.std.proofs.lemmas.Bool.{leb-true, leb-false}
use Rattle.io_memory.specs.declared.script.Place.{Place}
use Rattle.io_memory.specs.declared.script.Turn.{Turn}
use Rattle.io_memory.specs.declared.script.Turn.TheVariants as turn
use Rattle.io_memory.specs.Script.{cut, due, due_on, is_spent, left_of, rest_at, rests_at}

-- ---- one script

pub cut_none : (script : List Turn) → cut 0 script ≡ script
cut_none [] = refl
cut_none (turn.Give bytes ∷ turns) = refl
cut_none (turn.Quiet ∷ turns) = refl
cut_none (turn.End ∷ turns) = refl
cut_none (turn.Fail ∷ turns) = refl

drop_all : (n : ℕ) (bytes : List ℕ) → length bytes ≤ n → drop n bytes ≡ []
drop_all zero [] short = refl
drop_all zero (byte ∷ bytes) short = absurd (omega arith)
drop_all (suc n) [] short = refl
drop_all (suc n) (byte ∷ bytes) short = drop_all n bytes (omega arith)

-- a piece all of whose bytes were given is passed over
spent_due : (x : Turn) (turns : List Turn) (given : ℕ) → is_spent given x ≡ true → due (cut given (x ∷ turns)) ≡ due (cut 0 turns)
spent_due (turn.Give bytes) turns given spent =
    ap (λ (piece : List ℕ). due (turn.Give piece ∷ turns)) (drop_all given bytes (leb-true (length bytes) given spent)) ∙ sym (ap due (cut_none turns))
spent_due turn.Quiet turns given spent = cc
spent_due turn.End turns given spent = cc
spent_due turn.Fail turns given spent = cc

-- any other turn is due
unspent_due : (x : Turn) (turns : List Turn) (given : ℕ) → is_spent given x ≡ false → due (cut given (x ∷ turns)) ≡ cut given (x ∷ turns)
unspent_due (turn.Give bytes) turns given unspent = by_piece (drop given bytes) (omega (arith, leb-false (length bytes) given unspent, length-drop given bytes))
  where
    by_piece : (piece : List ℕ) → 1 ≤ length piece → due (turn.Give piece ∷ turns) ≡ turn.Give piece ∷ turns
    by_piece [] some = absurd (omega arith)
    by_piece (byte ∷ piece) some = refl
unspent_due turn.Quiet turns given unspent = refl
unspent_due turn.End turns given unspent = refl
unspent_due turn.Fail turns given unspent = refl

-- a script from the turn at an index on
from_turn : (script : List Turn) (k : ℕ) (x : Turn) → k < length script → x ≡ get_or script k x → drop k script ≡ x ∷ drop (k + 1) script
from_turn script k x inside is =
    let e : k + 1 ≡ suc k = omega arith in
    rw e (drop-cons script k x inside ∙ ap (λ (y : Turn). y ∷ drop (suc k) script) (sym is))

no_turn : (script : List Turn) (k : ℕ) → length script ≤ k → drop k script ≡ []
no_turn [] zero past = refl
no_turn [] (suc k) past = refl
no_turn (x ∷ script) zero past = absurd (omega arith)
no_turn (x ∷ script) (suc k) past = no_turn script k (omega arith)

-- one turn of which all was given is over
pub past_spent : (script : List Turn) (k given : ℕ) (x : Turn) → k < length script → x ≡ get_or script k x → is_spent given x ≡ true
    → due (cut 0 (drop (k + 1) script)) ≡ due (cut given (drop k script))
past_spent script k given x inside is spent =
    sym (spent_due x (drop (k + 1) script) given spent) ∙ ap (λ (turns : List Turn). due (cut given turns)) (sym (from_turn script k x inside is))

-- at a turn that isn't over, and at the end, nothing is passed over
pub at_due : (script : List Turn) (k given : ℕ) (x : Turn) → k < length script → x ≡ get_or script k x → is_spent given x ≡ false
    → cut given (drop k script) ≡ due (cut given (drop k script))
at_due script k given x inside is unspent =
    let from = from_turn script k x inside is in
    rw from (sym (unspent_due x (drop (k + 1) script) given unspent))

pub end_due : (script : List Turn) (k given : ℕ) → length script ≤ k → cut given (drop k script) ≡ due (cut given (drop k script))
end_due script k given past = rw (no_turn script k past) refl

-- a piece that is due has bytes
due_has_bytes : (turns rest : List Turn) (piece : List ℕ) → due turns ≡ turn.Give piece ∷ rest → 1 ≤ length piece
due_has_bytes [] rest piece is = cc
due_has_bytes (turn.Give [] ∷ turns) rest piece is = due_has_bytes turns rest piece is
due_has_bytes (turn.Give (byte ∷ bytes) ∷ turns) rest piece is =
    let same : byte ∷ bytes ≡ piece = cc in
    rw (← same) (omega arith)
due_has_bytes (turn.Quiet ∷ turns) rest piece is = cc
due_has_bytes (turn.End ∷ turns) rest piece is = cc
due_has_bytes (turn.Fail ∷ turns) rest piece is = cc

-- so a place in it is before its end
place_inside : (turns rest : List Turn) (bytes : List ℕ) (given : ℕ) → turn.Give (drop given bytes) ∷ rest ≡ due turns → given < length bytes
place_inside turns rest bytes given is = omega (arith, due_has_bytes turns rest (drop given bytes) (sym is), length-drop given bytes)

pub place_in_piece : (script turns : List Turn) (k given : ℕ) (x : Turn) (bytes : List ℕ) → k < length script → x ≡ get_or script k x → x ≡ turn.Give bytes
    → cut given (drop k script) ≡ due turns → given < length bytes
place_in_piece script turns k given x bytes inside is give front =
    let from : drop k script ≡ turn.Give bytes ∷ drop (k + 1) script = from_turn script k x inside is ∙ ap (λ (y : Turn). y ∷ drop (k + 1) script) give in
    place_inside turns (drop (k + 1) script) bytes given (sym (ap (cut given) from) ∙ front)

-- ---- all scripts

pub rests_from_start : (scripts : List (List Turn)) → rests_at (replicate (length scripts) (record { turn = 0; given = 0 })) scripts ≡ scripts
rests_from_start [] = refl
rests_from_start (script ∷ scripts) = cons_same (cut_none script) (rests_from_start scripts)
  where
    cons_same : {a b : List Turn} {more others : List (List Turn)} → a ≡ b → more ≡ others → a ∷ more ≡ b ∷ others
    cons_same e f = cc

-- there are as many as scripts
pub rests_length : (places : List Place) (scripts : List (List Turn)) → length places ≡ length scripts → length (rests_at places scripts) ≡ length scripts
rests_length [] [] same = refl
rests_length [] (script ∷ scripts) same = absurd (omega arith)
rests_length (place ∷ places) [] same = absurd (omega arith)
rests_length (place ∷ places) (script ∷ scripts) same = ap (λ n. suc n) (rests_length places scripts (omega arith))

rest_of : (places : List Place) (scripts : List (List Turn)) (k : ℕ) (place : Place) (script : List Turn) → length places ≡ length scripts → k < length scripts
    → place ≡ get_or places k place → script ≡ get_or scripts k script → get_or (rests_at places scripts) k [] ≡ rest_at place script
rest_of [] [] k place script same inside p s = absurd (omega arith)
rest_of [] (first ∷ scripts) k place script same inside p s = absurd (omega arith)
rest_of (here ∷ places) [] k place script same inside p s = absurd (omega arith)
rest_of (here ∷ places) (first ∷ scripts) zero place script same inside p s = cc
rest_of (here ∷ places) (first ∷ scripts) (suc k) place script same inside p s = rest_of places scripts k place script (omega arith) (omega arith) p s

rests_set : (places : List Place) (scripts : List (List Turn)) (k : ℕ) (behind : Place) (script : List Turn) → length places ≡ length scripts → k < length scripts
    → script ≡ get_or scripts k script → rests_at (set places k behind) scripts ≡ set (rests_at places scripts) k (rest_at behind script)
rests_set [] [] k behind script same inside s = absurd (omega arith)
rests_set [] (first ∷ scripts) k behind script same inside s = absurd (omega arith)
rests_set (here ∷ places) [] k behind script same inside s = absurd (omega arith)
rests_set (here ∷ places) (first ∷ scripts) zero behind script same inside s = ap (λ (x : List Turn). rest_at behind x ∷ rests_at places scripts) (sym s)
rests_set (here ∷ places) (first ∷ scripts) (suc k) behind script same inside s =
    ap (λ (xs : List (List Turn)). rest_at here first ∷ xs) (rests_set places scripts k behind script (omega arith) (omega arith) s)

-- what is due on a link
pub due_is : (places : List Place) (scripts : List (List Turn)) (k : ℕ) (place : Place) (script : List Turn) → length places ≡ length scripts → k < length scripts
    → place ≡ get_or places k place → script ≡ get_or scripts k script → due_on (rests_at places scripts) k ≡ due (rest_at place script)
due_is places scripts k place script same inside p s = ap due (rest_of places scripts k place script same inside p s)

-- a turn is taken on one link
pub turn_taken : (places : List Place) (scripts : List (List Turn)) (k room : ℕ) (place behind : Place) (script : List Turn) → length places ≡ length scripts → k < length scripts
    → place ≡ get_or places k place → script ≡ get_or scripts k script → rest_at behind script ≡ left_of room (due (rest_at place script))
    → rests_at (set places k behind) scripts ≡ set (rests_at places scripts) k (left_of room (due_on (rests_at places scripts) k))
turn_taken places scripts k room place behind script same inside p s taken =
    rests_set places scripts k behind script same inside s
    ∙ ap (λ (x : List Turn). set (rests_at places scripts) k x) (taken ∙ ap (left_of room) (sym (due_is places scripts k place script same inside p s)))
