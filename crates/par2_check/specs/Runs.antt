-- Runs of numbers, each as its first and its last one.
use Rattle.std.specs.Prelude.{◌≡◌, ℕ, ◌≤◌, ◌+◌, ◌==◌, ◌&&◌, Bool, nat_le, if◌then◌else◌, List, [], ◌∷◌, ⊤}
use Rattle.std.specs.List.{list_any}

-- a number stands in a run, and in one of the runs
abbrev pub is_in : ℕ → (ℕ × ℕ) → Bool
is_in number run = nat_le run.0 number && nat_le number run.1

abbrev pub is_among : ℕ → List (ℕ × ℕ) → Bool
is_among number runs = list_any (is_in number) runs

-- the runs ascend from a number on and up to another, and between two of them a number stands in none
abbrev pub AreApart : ℕ → ℕ → List (ℕ × ℕ) → Type 0
AreApart least most [] = ⊤
AreApart least most (run ∷ runs) = (least ≤ run.0) × (run.0 ≤ run.1) × (run.1 ≤ most) × AreApart (run.1 + 2) most runs

-- The greatest runs of the numbers from 1 up to another that pass a test, ascending.
pub record AreRuns (test : ℕ → Bool) (most : ℕ) (runs : List (ℕ × ℕ)) : Type 0 where
  pub apart : AreApart 1 most runs
  pub members : (number : ℕ) → 1 ≤ number → number ≤ most → is_among number runs ≡ test number

-- the runs with one more number behind them: in the last run where it stands next to it, and else as a run of its own
abbrev pub with_number : ℕ → List (ℕ × ℕ) → List (ℕ × ℕ)
with_number number [] = (number, number) ∷ []
with_number number (run ∷ []) = if run.1 + 1 == number then (run.0, number) ∷ [] else run ∷ (number, number) ∷ []
with_number number (run ∷ next ∷ runs) = run ∷ with_number number (next ∷ runs)
