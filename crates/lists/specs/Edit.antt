-- A list with a change in one place.
use Rattle.std.specs.Prelude.{ℕ, zero, suc, List, [], ◌∷◌}

-- what stands at a place, counted from 0, changed, or the list as it is where it has no such place
abbrev pub edit_at : {A : Type 0} → ℕ → (A → A) → List A → List A
edit_at i f [] = []
edit_at zero f (x ∷ xs) = f x ∷ xs
edit_at (suc i) f (x ∷ xs) = x ∷ edit_at i f xs
