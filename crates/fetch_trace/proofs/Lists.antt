-- Lists made of numbers, and one place of a list changed.
use Rattle.std.proofs.Common.{◌≡◌, ◌≢◌, ◌⊎◌, inl, inr, ◌+◌, ◌<◌, ◌≤◌, zero, suc, ℕ, List, [], ◌∷◌, ◌++◌, Some, length, map, drop, refl, ap, sym, ◌∙◌, arith}
use Rattle.std.specs.Prelude.{slice_get, slice_index_or}
use Rattle.lists.specs.Edit.{edit_at}
use Rattle.fetch_trace.specs.Standing.{from_numbers}

-- functions that agree make the same list
pub from-agree : {A : Type 0} (f g : ℕ → A) (start count : ℕ) → ((k : ℕ) → g k ≡ f k) → from_numbers g start count ≡ from_numbers f start count
from-agree f g start zero agree = refl
from-agree f g start (suc count) agree = rw (agree start, from-agree f g (start + 1) count agree) refl

from-above : {A : Type 0} (f g : ℕ → A) (low start count : ℕ) → low < start → ((k : ℕ) → low < k → g k ≡ f k) → from_numbers g start count ≡ from_numbers f start count
from-above f g low start zero above agree = refl
from-above f g low start (suc count) above agree = rw (agree start above, from-above f g low (start + 1) count (omega arith) agree) refl

-- functions that agree but at one number make lists that differ there
pub from-edit : {A : Type 0} (f g : ℕ → A) (h : A → A) (i start count : ℕ) → ((k : ℕ) → k ≢ start + i → g k ≡ f k) → g (start + i) ≡ h (f (start + i)) → from_numbers g start count ≡ edit_at i h (from_numbers f start count)
from-edit f g h i start zero agree here = refl
from-edit f g h zero start (suc count) agree here =
    let at : start + 0 ≡ start = omega arith in
    let first : g start ≡ h (f start) = ap g (sym at) ∙ here ∙ ap (λ k. h (f k)) at in
    let rest : from_numbers g (start + 1) count ≡ from_numbers f (start + 1) count = from-above f g start (start + 1) count (omega arith) (λ k above. agree k (λ e. absurd (omega arith))) in
    rw (first, rest) refl
from-edit f g h (suc i) start (suc count) agree here =
    let at : (start + 1) + i ≡ start + suc i = omega arith in
    let first : g start ≡ f start = agree start (λ e. absurd (omega (arith, e))) in
    let rest : from_numbers g (start + 1) count ≡ edit_at i h (from_numbers f (start + 1) count) = from-edit f g h i (start + 1) count (λ k other. agree k (λ e. other (e ∙ sym at))) (ap g at ∙ here ∙ ap (λ k. h (f k)) (sym at)) in
    rw (first, rest) refl

pub drop-append : {A : Type 0} (n : ℕ) (xs ys : List A) → n ≤ length xs → drop n (xs ++ ys) ≡ drop n xs ++ ys
drop-append zero xs ys within = refl
drop-append (suc n) [] ys within = absurd (omega arith)
drop-append (suc n) (x ∷ xs) ys within = drop-append n xs ys (omega arith)

pub drop-more : {A : Type 0} (n : ℕ) (xs : List A) → drop (suc n) xs ≡ drop 1 (drop n xs)
drop-more zero [] = refl
drop-more zero (x ∷ xs) = refl
drop-more (suc n) [] = refl
drop-more (suc n) (x ∷ xs) = drop-more n xs

-- what stands first behind n members is the member there
pub first-behind : (n : ℕ) (xs : List ℕ) (k : ℕ) (more : List ℕ) → drop n xs ≡ k ∷ more → slice_get xs n ≡ Some k
first-behind zero [] k more is = cc
first-behind zero (x ∷ xs) k more is = cc
first-behind (suc n) [] k more is = cc
first-behind (suc n) (x ∷ xs) k more is = first-behind n xs k more is

-- an edit that gives what stands there already
pub edit-nothing : {A : Type 0} (xs : List A) (i : ℕ) (f : A → A) (x : A) → slice_get xs i ≡ Some x → f x ≡ x → edit_at i f xs ≡ xs
edit-nothing [] i f x is same = refl
edit-nothing (y ∷ xs) zero f x is same = let here : y ≡ x = cc in rw (here, same) refl
edit-nothing (y ∷ xs) (suc i) f x is same = ap (λ t. y ∷ t) (edit-nothing xs i f x is same)

-- an edit seen through a function
pub edit-seen : {A B : Type 0} (see : A → B) (xs : List A) (i : ℕ) (x y : A) (g : B → B) → slice_get xs i ≡ Some x → see y ≡ g (see x) → map see (edit_at i (λ old. y) xs) ≡ edit_at i g (map see xs)
edit-seen see [] i x y g is same = cc
edit-seen see (a ∷ xs) zero x y g is same = let here : a ≡ x = cc in rw (here, same) refl
edit-seen see (a ∷ xs) (suc i) x y g is same = ap (λ t. see a ∷ t) (edit-seen see xs i x y g is same)

pub get-seen : {A B : Type 0} (see : A → B) (xs : List A) (i : ℕ) (x : A) → slice_get xs i ≡ Some x → slice_get (map see xs) i ≡ Some (see x)
get-seen see [] i x is = cc
get-seen see (a ∷ xs) zero x is = let here : a ≡ x = cc in rw here refl
get-seen see (a ∷ xs) (suc i) x is = get-seen see xs i x is

-- two numbers are the same, or they aren't
pub same_or_not : (k i : ℕ) → (k ≡ i) ⊎ (k ≢ i)
same_or_not zero zero = inl refl
same_or_not zero (suc i) = inr (λ e. absurd (omega (arith, e)))
same_or_not (suc k) zero = inr (λ e. absurd (omega (arith, e)))
same_or_not (suc k) (suc i) = elim (same_or_not k i) [ inl e ↦ inl (ap (λ n. suc n) e) | inr other ↦ inr (λ e. other (omega (arith, e))) ]

-- what stands at a place of a list made of numbers
pub get-numbered : {A : Type 0} (f : ℕ → A) (start count k : ℕ) → k < count → slice_get (from_numbers f start count) k ≡ Some (f (start + k))
get-numbered f start zero k below = absurd (omega (arith, below))
get-numbered f start (suc count) zero below = let z : start + 0 ≡ start = omega arith in ap (λ n. Some (f n)) (sym z)
get-numbered f start (suc count) (suc k) below =
    let less : k < count = omega (arith, below) in
    let z : (start + 1) + k ≡ start + suc k = omega arith in
    get-numbered f (start + 1) count k less ∙ ap (λ n. Some (f n)) z

pub index-found : {A : Type 0} (xs : List A) (k : ℕ) (x other : A) → slice_get xs k ≡ Some x → slice_index_or xs k other ≡ x
index-found [] k x other is = cc
index-found (y ∷ xs) zero x other is = cc
index-found (y ∷ xs) (suc k) x other is = index-found xs k x other is
