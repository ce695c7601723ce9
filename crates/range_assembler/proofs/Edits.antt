-- Edits of a list that has an element between two sides.
use Rattle.std.proofs.Common.{◌≡◌, ◌-◌, ◌<◌, ◌≤◌, zero, suc, ℕ, List, [], ◌∷◌, ◌++◌, None, Some, length, refl, ap, ◌∙◌, arith}
use Rattle.std.proofs.Common.{set}
use Rattle.std.specs.Prelude.{insert, remove, slice_get}

pub insert_left : {X : Type 0} (left : List X) (x : X) (right : List X) (i : ℕ) (y : X) → i ≤ length left → insert (left ++ x ∷ right) i y ≡ insert left i y ++ x ∷ right
insert_left left x right zero y low = refl
insert_left [] x right (suc i) y low = absurd (omega arith)
insert_left (z ∷ left) x right (suc i) y low = ap (λ t. z ∷ t) (insert_left left x right i y (omega arith))

pub insert_right : {X : Type 0} (left : List X) (x : X) (right : List X) (i : ℕ) (y : X) → length left < i → insert (left ++ x ∷ right) i y ≡ left ++ x ∷ insert right (i - length left - 1) y
insert_right left x right zero y low = absurd (omega arith)
insert_right [] x right (suc i) y low = ap (λ k. x ∷ insert right k y) (let e : i ≡ suc i - 0 - 1 = omega arith in e)
insert_right (z ∷ left) x right (suc i) y low = ap (λ t. z ∷ t) (insert_right left x right i y (omega arith)) ∙ ap (λ k. z ∷ left ++ x ∷ insert right k y) (let e : i - length left - 1 ≡ suc i - length (z ∷ left) - 1 = omega arith in e)

pub remove_left : {X : Type 0} (left : List X) (x : X) (right : List X) (i : ℕ) → i < length left → remove (left ++ x ∷ right) i ≡ remove left i ++ x ∷ right
remove_left [] x right i low = absurd (omega arith)
remove_left (z ∷ left) x right zero low = refl
remove_left (z ∷ left) x right (suc i) low = ap (λ t. z ∷ t) (remove_left left x right i (omega arith))

pub remove_right : {X : Type 0} (left : List X) (x : X) (right : List X) (i : ℕ) → length left < i → remove (left ++ x ∷ right) i ≡ left ++ x ∷ remove right (i - length left - 1)
remove_right left x right zero low = absurd (omega arith)
remove_right [] x right (suc i) low = ap (λ k. x ∷ remove right k) (let e : i ≡ suc i - 0 - 1 = omega arith in e)
remove_right (z ∷ left) x right (suc i) low = ap (λ t. z ∷ t) (remove_right left x right i (omega arith)) ∙ ap (λ k. z ∷ left ++ x ∷ remove right k) (let e : i - length left - 1 ≡ suc i - length (z ∷ left) - 1 = omega arith in e)

pub remove_middle : {X : Type 0} (left : List X) (x : X) (right : List X) → remove (left ++ x ∷ right) (length left) ≡ left ++ right
remove_middle [] x right = refl
remove_middle (z ∷ left) x right = ap (λ t. z ∷ t) (remove_middle left x right)

pub first_and_rest : {X : Type 0} (xs : List X) (x : X) → slice_get xs 0 ≡ Some x → xs ≡ x ∷ remove xs 0
first_and_rest [] x is = cc
first_and_rest (y ∷ xs) x is = let same : y ≡ x = cc in ap (λ t. t ∷ xs) same

pub none_first : {X : Type 0} (xs : List X) → slice_get xs 0 ≡ None → xs ≡ []
none_first [] is = refl
none_first (y ∷ xs) is = cc

pub length_remove : {X : Type 0} (xs : List X) (i : ℕ) → length (remove xs i) ≤ length xs
length_remove [] zero = omega arith
length_remove [] (suc i) = omega arith
length_remove (x ∷ xs) zero = omega arith
length_remove (x ∷ xs) (suc i) = let e : length (remove xs i) ≤ length xs = length_remove xs i in omega (arith, e)

pub set_left : {X : Type 0} (left : List X) (x : X) (right : List X) (i : ℕ) (y : X) → i < length left → set (left ++ x ∷ right) i y ≡ set left i y ++ x ∷ right
set_left [] x right i y low = absurd (omega arith)
set_left (z ∷ left) x right zero y low = refl
set_left (z ∷ left) x right (suc i) y low = ap (λ t. z ∷ t) (set_left left x right i y (omega arith))

pub set_right : {X : Type 0} (left : List X) (x : X) (right : List X) (i : ℕ) (y : X) → length left < i → set (left ++ x ∷ right) i y ≡ left ++ x ∷ set right (i - length left - 1) y
set_right left x right zero y low = absurd (omega arith)
set_right [] x right (suc i) y low = ap (λ k. x ∷ set right k y) (let e : i ≡ suc i - 0 - 1 = omega arith in e)
set_right (z ∷ left) x right (suc i) y low = ap (λ t. z ∷ t) (set_right left x right i y (omega arith)) ∙ ap (λ k. z ∷ left ++ x ∷ set right k y) (let e : i - length left - 1 ≡ suc i - length (z ∷ left) - 1 = omega arith in e)

pub set_middle : {X : Type 0} (left : List X) (x : X) (right : List X) (y : X) → set (left ++ x ∷ right) (length left) y ≡ left ++ y ∷ right
set_middle [] x right y = refl
set_middle (z ∷ left) x right y = ap (λ t. z ∷ t) (set_middle left x right y)

pub length_set : {X : Type 0} (xs : List X) (i : ℕ) (y : X) → length (set xs i y) ≡ length xs
length_set [] i y = refl
length_set (x ∷ xs) zero y = refl
length_set (x ∷ xs) (suc i) y = ap (λ n. suc n) (length_set xs i y)
