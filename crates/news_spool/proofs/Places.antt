-- Places of a list.
use Rattle.std.proofs.Common.{◌≡◌, ℕ, zero, suc, ◌<◌, List, [], ◌∷◌, Some, length, set, get_or, refl, sym, ap, arith}
use Rattle.std.specs.Prelude.{slice_get}

-- what an index finds is what stands there
pub at_place : {X : Type 0} (xs : List X) (k : ℕ) (x other : X) → k < length xs → x ≡ get_or xs k x → get_or xs k other ≡ x
at_place [] k x other inside is = absurd (omega arith)
at_place (y ∷ xs) zero x other inside is = sym is
at_place (y ∷ xs) (suc k) x other inside is = at_place xs k x other (omega arith) is

pub got_at : {X : Type 0} (xs : List X) (k : ℕ) (x : X) → k < length xs → x ≡ get_or xs k x → slice_get xs k ≡ Some x
got_at [] k x inside is = absurd (omega arith)
got_at (y ∷ xs) zero x inside is = ap Some (sym is)
got_at (y ∷ xs) (suc k) x inside is = got_at xs k x (omega arith) is

-- the last of two changes at a place counts
pub set_again : {X : Type 0} (xs : List X) (k : ℕ) (x y : X) → set (set xs k x) k y ≡ set xs k y
set_again [] k x y = refl
set_again (z ∷ xs) zero x y = refl
set_again (z ∷ xs) (suc k) x y = ap (λ (rest : List _). z ∷ rest) (set_again xs k x y)

pub set_found : {X : Type 0} (xs : List X) (k : ℕ) (x other : X) → k < length xs → get_or (set xs k x) k other ≡ x
set_found [] k x other inside = absurd (omega arith)
set_found (z ∷ xs) zero x other inside = refl
set_found (z ∷ xs) (suc k) x other inside = set_found xs k x other (omega arith)
