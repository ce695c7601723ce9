-- What a text begins with.
use Rattle.std.proofs.Common.{◌≡◌, ◌<◌, ℕ, ◌+◌, Bool, true, false, List, [], ◌∷◌, ◌++◌, length, take, drop, get_or, refl, sym, ap, ◌∙◌, arith, add-one, drop-cons, take-append-drop}
use Rattle.std.specs.List.{list_all, prefix_len}
use Rattle.std.proofs.lemmas.Bool.{and_parts}

-- what passes a test up to an element that doesn't
pub prefix_seam : (p : ℕ → Bool) (xs : List ℕ) (y : ℕ) (ys : List ℕ) → list_all p xs ≡ true → p y ≡ false → prefix_len p (xs ++ y ∷ ys) ≡ length xs
prefix_seam p [] y ys all ends = rw ends refl
prefix_seam p (x ∷ xs) y ys all ends =
    let parts = and_parts (p x) (list_all p xs) all in
    let rest = prefix_seam p xs y ys parts.1 ends in
    rw parts.0 (omega (arith, rest))

-- or up to the end
pub prefix_whole : (p : ℕ → Bool) (xs : List ℕ) → list_all p xs ≡ true → prefix_len p xs ≡ length xs
prefix_whole p [] all = refl
prefix_whole p (x ∷ xs) all =
    let parts = and_parts (p x) (list_all p xs) all in
    let rest = prefix_whole p xs parts.1 in
    rw parts.0 (omega (arith, rest))

-- a text is what stands before a place, what stands there, and what stands behind it
pub cut_there : (at : ℕ) (xs : List ℕ) → at < length xs → xs ≡ take at xs ++ get_or xs at 0 ∷ drop (at + 1) xs
cut_there at xs inside = sym (take-append-drop at xs) ∙ ap (λ (rest : List ℕ). take at xs ++ rest) (rw (drop-cons xs at 0, add-one) refl)

-- behind a text and one more
pub behind_seam : (xs : List ℕ) (y : ℕ) (ys : List ℕ) → drop (length xs + 1) (xs ++ y ∷ ys) ≡ ys
behind_seam [] y ys = refl
behind_seam (x ∷ xs) y ys = rw add-one (rw add-one at (behind_seam xs y ys))
