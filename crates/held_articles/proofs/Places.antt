-- A list from a place on.
use Rattle.std.proofs.Common.{◌≡◌, ℕ, zero, suc, ◌+◌, true, false, List, [], ◌∷◌, Some, length, drop, refl, arith}
use Rattle.std.specs.Prelude.{slice_get}
use Rattle.held_articles.specs.Fields.{begins, field_of}

-- what stands at a place, and what follows it
pub from_place : {X : Type 0} (xs : List X) (k : ℕ) (x : X) → slice_get xs k ≡ Some x → drop k xs ≡ x ∷ drop (k + 1) xs
from_place [] k x is = cc
from_place (y ∷ xs) zero x is = cc
from_place (y ∷ xs) (suc k) x is = let e : suc k + 1 ≡ suc (k + 1) = omega arith in rw e (from_place xs k x is)

-- a line that doesn't begin with the name is passed over, and the first that does counts
pub passed_line : (name : List ℕ) (head : List (List ℕ)) (i : ℕ) (line : List ℕ) → slice_get head i ≡ Some line → begins name line ≡ false
    → field_of name (drop (i + 1) head) ≡ field_of name (drop i head)
passed_line name head i line is other = rw (from_place head i line is) (rw other refl)

pub found_line : (name : List ℕ) (head : List (List ℕ)) (i : ℕ) (line : List ℕ) → slice_get head i ≡ Some line → begins name line ≡ true
    → Some (drop (length name) line) ≡ field_of name (drop i head)
found_line name head i line is begun = rw (from_place head i line is) (rw begun refl)
