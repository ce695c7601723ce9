-- The numbers that pass a test have one list of greatest runs.
use Rattle.std.proofs.Common.{◌≡◌, ℕ, ◌+◌, ◌<◌, ◌≤◌, Bool, true, false, ◌||◌, List, [], ◌∷◌, inl, inr, refl, sym, ap, subst, ◌∙◌, arith}
use Rattle.std.specs.Prelude.{nat_le}
use Rattle.std.proofs.lemmas.Bool.{and_from, and_left, and_right, cases_order, le-leb, lt-leb, or_from, or_left}
use Rattle.par2_check.specs.Runs.{AreApart, AreRuns, is_among, is_in}

within : (number : ℕ) (run : ℕ × ℕ) → run.0 ≤ number → number ≤ run.1 → is_in number run ≡ true
within number run low high = and_from (nat_le run.0 number) (nat_le number run.1) (le-leb run.0 number low) (le-leb number run.1 high)

before_it : (number : ℕ) (run : ℕ × ℕ) → number < run.0 → is_in number run ≡ false
before_it number run lt = and_left (nat_le run.0 number) (nat_le number run.1) (lt-leb run.0 number lt)

behind_it : (number : ℕ) (run : ℕ × ℕ) → run.1 < number → is_in number run ≡ false
behind_it number run lt = and_right (nat_le run.0 number) (nat_le number run.1) (lt-leb number run.1 lt)

none_below : (least most number : ℕ) (runs : List (ℕ × ℕ)) → AreApart least most runs → number < least → is_among number runs ≡ false
none_below least most number [] are lt = refl
none_below least most number (run ∷ runs) are lt =
    or_from (is_in number run) (is_among number runs) (before_it number run (omega (arith, are.0))) (none_below (run.1 + 2) most number runs are.3 (omega (arith, are.0, are.1)))

-- a number of a run isn't in runs that lack it
never : (number : ℕ) (run : ℕ × ℕ) (runs others : List (ℕ × ℕ)) → run.0 ≤ number → number ≤ run.1 → is_among number others ≡ false → is_among number (run ∷ runs) ≡ is_among number others → ⊥
never number run runs others low high none same =
    let there : is_among number (run ∷ runs) ≡ true = or_left (is_in number run) (is_among number runs) (within number run low high) in
    let both : true ≡ false = sym there ∙ same ∙ none in
    absurd (cc)

-- the first run begins no later than the other first run
begins_first : (least most : ℕ) (one other : ℕ × ℕ) (ones others : List (ℕ × ℕ)) → AreApart least most (one ∷ ones) → AreApart least most (other ∷ others)
    → ((number : ℕ) → least ≤ number → number ≤ most → is_among number (one ∷ ones) ≡ is_among number (other ∷ others)) → one.0 < other.0 → ⊥
begins_first least most one other ones others a b same lt =
    never one.0 one ones (other ∷ others) (omega arith) a.1
    (or_from (is_in one.0 other) (is_among one.0 others) (before_it one.0 other lt) (none_below (other.1 + 2) most one.0 others b.3 (omega (arith, b.1))))
    (same one.0 a.0 (omega (arith, a.1, a.2)))

-- nor does it end earlier, where both begin at one number
ends_first : (least most : ℕ) (one other : ℕ × ℕ) (ones others : List (ℕ × ℕ)) → AreApart least most (one ∷ ones) → AreApart least most (other ∷ others)
    → ((number : ℕ) → least ≤ number → number ≤ most → is_among number (one ∷ ones) ≡ is_among number (other ∷ others)) → one.0 ≡ other.0 → one.1 < other.1 → ⊥
ends_first least most one other ones others a b same begins lt =
    never (one.1 + 1) other others (one ∷ ones) (omega (arith, a.1)) (omega arith)
    (or_from (is_in (one.1 + 1) one) (is_among (one.1 + 1) ones) (behind_it (one.1 + 1) one (omega arith)) (none_below (one.1 + 2) most (one.1 + 1) ones a.3 (omega arith)))
    (sym (same (one.1 + 1) (omega (arith, a.0, a.1)) (omega (arith, b.2))))

same_number : (a b : ℕ) → (a < b → ⊥) → (b < a → ⊥) → a ≡ b
same_number a b below above = elim (cases_order a b) [ inl is ↦ is | inr other ↦ (elim other [ inl lt ↦ absurd (below lt) | inr lt ↦ absurd (above lt) ]) ]

same_runs : (least most : ℕ) (ones others : List (ℕ × ℕ)) → AreApart least most ones → AreApart least most others → ((number : ℕ) → least ≤ number → number ≤ most → is_among number ones ≡ is_among number others)
    → ones ≡ others
same_runs least most [] [] a b same = refl
same_runs least most (one ∷ ones) [] a b same = absurd (never one.0 one ones [] (omega arith) a.1 refl (same one.0 a.0 (omega (arith, a.1, a.2))))
same_runs least most [] (other ∷ others) a b same = absurd (never other.0 other others [] (omega arith) b.1 refl (sym (same other.0 b.0 (omega (arith, b.1, b.2)))))
same_runs least most (one ∷ ones) (other ∷ others) a b same =
    let turned : (number : ℕ) → least ≤ number → number ≤ most → is_among number (other ∷ others) ≡ is_among number (one ∷ ones) = λ number low high. sym (same number low high) in
    let first : one.0 ≡ other.0 = same_number one.0 other.0 (begins_first least most one other ones others a b same) (begins_first least most other one others ones b a turned) in
    let last : one.1 ≡ other.1 = same_number one.1 other.1 (ends_first least most one other ones others a b same first) (ends_first least most other one others ones b a turned (sym first)) in
    let rest : AreApart (one.1 + 2) most others = subst (λ (n : ℕ). AreApart (n + 2) most others) (sym last) b.3 in
    let behind : ones ≡ others =
    same_runs (one.1 + 2) most ones others a.3 rest (λ number low high.
    sym (ap (λ (t : Bool). t || is_among number ones) (behind_it number one (omega (arith, low)))) ∙ same number (omega (arith, a.0, a.1, low)) high
    ∙ ap (λ (t : Bool). t || is_among number others) (behind_it number other (omega (arith, low, last)))) in
    λ i. (first i, last i) ∷ behind i

pub one_list : (test : ℕ → Bool) (most : ℕ) (ones others : List (ℕ × ℕ)) → AreRuns test most ones → AreRuns test most others → ones ≡ others
one_list test most ones others a b = same_runs 1 most ones others a.apart b.apart (λ number low high. a.members number low high ∙ sym (b.members number low high))
