-- Runs, with one more number.
use Rattle.std.proofs.Common.{◌≡◌, ℕ, suc, ◌+◌, ◌-◌, ◌<◌, ◌≤◌, ◌==◌, Bool, true, false, cond, ◌||◌, List, [], ◌∷◌, ◌++◌, length, get_or, set, inl, inr, refl, sym, ap, ◌∙◌, arith}
use Rattle.std.specs.Prelude.{nat_le, ◌&&◌, not}
use Rattle.std.proofs.lemmas.Bool.{and_from, and_left, and_right, cases_lt, cond-false, cond-true, cond_both, eq-eqb, eqb-true, eqb-false, le-leb, lt-leb, ne_eqb, or_from, or_left, or_right}
use Rattle.par2_check.specs.Runs.{AreApart, AreRuns, is_among, is_in, with_number}

-- ---- as they are kept

pub joined : (number : ℕ) (runs : List (ℕ × ℕ)) (d : ℕ × ℕ) → 0 < length runs → number - (get_or runs (length runs - 1) d).1 ≡ 1
    → set runs (length runs - 1) ((get_or runs (length runs - 1) d).0, number) ≡ with_number number runs
joined number [] d some is = absurd (omega arith)
joined number (run ∷ []) d some is = sym (cond-true (run.1 + 1 == number) ((run.0, number) ∷ []) (run ∷ (number, number) ∷ []) (eq-eqb (run.1 + 1) number (omega (arith, is))))
joined number (run ∷ next ∷ runs) d some is =
    let all : List (ℕ × ℕ) = run ∷ next ∷ runs in
    let e : length all - 1 ≡ suc (length (next ∷ runs) - 1) = omega arith in
    ap (λ (n : ℕ). set all n ((get_or all n d).0, number)) e
    ∙ ap (λ (rest : List (ℕ × ℕ)). run ∷ rest) (joined number (next ∷ runs) d (omega arith) (sym (ap (λ (n : ℕ). number - (get_or all n d).1) e) ∙ is))

pub apart : (number : ℕ) (runs : List (ℕ × ℕ)) (d : ℕ × ℕ) → 0 < length runs → ¬ (number - (get_or runs (length runs - 1) d).1 ≡ 1)
    → runs ++ (number, number) ∷ [] ≡ with_number number runs
apart number [] d some is = absurd (omega arith)
apart number (run ∷ []) d some is =
    sym (cond-false (run.1 + 1 == number) ((run.0, number) ∷ []) (run ∷ (number, number) ∷ []) (ne_eqb (run.1 + 1) number (λ e. is (omega (arith, e)))))
apart number (run ∷ next ∷ runs) d some is =
    let all : List (ℕ × ℕ) = run ∷ next ∷ runs in
    let e : length all - 1 ≡ suc (length (next ∷ runs) - 1) = omega arith in
    ap (λ (rest : List (ℕ × ℕ)). run ∷ rest) (apart number (next ∷ runs) d (omega arith) (λ h. is (ap (λ (n : ℕ). number - (get_or all n d).1) e ∙ h)))

pub joined_at : (number : ℕ) (runs seen more : List (ℕ × ℕ)) (count difference : ℕ) → seen ≡ runs → count ≡ length runs → ¬ (count ≡ 0) → difference ≡ number - (get_or seen (count - 1) (0, 0)).1 → difference ≡ 1
    → more ≡ set runs (count - 1) ((get_or seen (count - 1) (0, 0)).0, number) → more ≡ with_number number runs
joined_at number runs seen more count difference seen_is count_is some difference_is one is =
    let one_is : number - (get_or runs (length runs - 1) (0, 0)).1 ≡ 1 =
    sym (difference_is ∙ ap (λ (l : List (ℕ × ℕ)). number - (get_or l (count - 1) (0, 0)).1) seen_is ∙ ap (λ (n : ℕ). number - (get_or runs (n - 1) (0, 0)).1) count_is) ∙ one in
    is ∙ ap (λ (l : List (ℕ × ℕ)). set runs (count - 1) ((get_or l (count - 1) (0, 0)).0, number)) seen_is
    ∙ ap (λ (n : ℕ). set runs (n - 1) ((get_or runs (n - 1) (0, 0)).0, number)) count_is ∙ joined number runs (0, 0) (omega arith) one_is

pub apart_at : (number : ℕ) (runs seen : List (ℕ × ℕ)) (count difference : ℕ) → seen ≡ runs → count ≡ length runs → ¬ (count ≡ 0) → difference ≡ number - (get_or seen (count - 1) (0, 0)).1 → ¬ (difference ≡ 1)
    → runs ++ (number, number) ∷ [] ≡ with_number number runs
apart_at number runs seen count difference seen_is count_is some difference_is other =
    let e : difference ≡ number - (get_or runs (length runs - 1) (0, 0)).1 =
    difference_is ∙ ap (λ (l : List (ℕ × ℕ)). number - (get_or l (count - 1) (0, 0)).1) seen_is ∙ ap (λ (n : ℕ). number - (get_or runs (n - 1) (0, 0)).1) count_is in
    apart number runs (0, 0) (omega arith) (λ h. other (e ∙ h))

-- ---- greatest runs, up to one number further on

wider : (least most more : ℕ) (runs : List (ℕ × ℕ)) → most ≤ more → AreApart least most runs → AreApart least more runs
wider least most more [] le are = tt
wider least most more (run ∷ runs) le are = (are.0, are.1, omega (arith, are.2), wider (run.1 + 2) most more runs le are.3)

none_above : (least most number : ℕ) (runs : List (ℕ × ℕ)) → most < number → AreApart least most runs → is_among number runs ≡ false
none_above least most number [] lt are = refl
none_above least most number (run ∷ runs) lt are =
    or_from (is_in number run) (is_among number runs) (and_right (nat_le run.0 number) (nat_le number run.1) (lt-leb number run.1 (omega (arith, are.2))))
    (none_above (run.1 + 2) most number runs lt are.3)

apart_with : (least most number : ℕ) (runs : List (ℕ × ℕ)) → number ≡ most + 1 → least ≤ number → AreApart least most runs → AreApart least number (with_number number runs)
apart_with least most number [] is low are = (low, omega arith, omega arith, tt)
apart_with least most number (run ∷ []) is low are =
    cond_both (run.1 + 1 == number) ((run.0, number) ∷ []) (run ∷ (number, number) ∷ []) (AreApart least number)
    (λ e. (are.0, omega (arith, are.1, are.2), omega arith, tt))
    (λ e. let other = eqb-false (run.1 + 1) number e in (are.0, are.1, omega (arith, are.2), (omega (arith, are.2, other), omega arith, omega arith, tt)))
apart_with least most number (run ∷ next ∷ runs) is low are =
    let rest = are.3 in
    (are.0, are.1, omega (arith, are.2), apart_with (run.1 + 2) most number (next ∷ runs) is (omega (arith, rest.0, rest.1, rest.2)) rest)

among_old : (n number : ℕ) (runs : List (ℕ × ℕ)) → n < number → is_among n (with_number number runs) ≡ is_among n runs
among_old n number [] lt = or_from (is_in n (number, number)) false (and_left (nat_le number n) (nat_le n number) (lt-leb number n lt)) refl
among_old n number (run ∷ []) lt =
    cond_both (run.1 + 1 == number) ((run.0, number) ∷ []) (run ∷ (number, number) ∷ []) (λ (runs : List (ℕ × ℕ)). is_among n runs ≡ is_among n (run ∷ []))
    (λ e.
    let is : run.1 + 1 ≡ number = eqb-true (run.1 + 1) number e in
    let same : nat_le n number ≡ nat_le n run.1 = le-leb n number (omega arith) ∙ sym (le-leb n run.1 (omega arith)) in
    ap (λ (b : Bool). (nat_le run.0 n && b) || false) same)
    (λ e. ap (λ (b : Bool). is_in n run || b) (or_from (is_in n (number, number)) false (and_left (nat_le number n) (nat_le n number) (lt-leb number n lt)) refl))
among_old n number (run ∷ next ∷ runs) lt = ap (λ (b : Bool). is_in n run || b) (among_old n number (next ∷ runs) lt)

among_new : (least most number : ℕ) (runs : List (ℕ × ℕ)) → number ≡ most + 1 → AreApart least most runs → is_among number (with_number number runs) ≡ true
among_new least most number [] is are = or_left (is_in number (number, number)) false (and_from (nat_le number number) (nat_le number number) (le-leb number number (omega arith)) (le-leb number number (omega arith)))
among_new least most number (run ∷ []) is are =
    cond_both (run.1 + 1 == number) ((run.0, number) ∷ []) (run ∷ (number, number) ∷ []) (λ (runs : List (ℕ × ℕ)). is_among number runs ≡ true)
    (λ e. or_left (is_in number (run.0, number)) false (and_from (nat_le run.0 number) (nat_le number number) (le-leb run.0 number (omega (arith, are.1, are.2))) (le-leb number number (omega arith))))
    (λ e. or_right (is_in number run) (is_in number (number, number) || false) (or_left (is_in number (number, number)) false (and_from (nat_le number number) (nat_le number number) (le-leb number number (omega arith)) (le-leb number number (omega arith)))))
among_new least most number (run ∷ next ∷ runs) is are =
    or_right (is_in number run) (is_among number (with_number number (next ∷ runs))) (among_new (run.1 + 2) most number (next ∷ runs) is are.3)

-- of no number
pub no_runs : (test : ℕ → Bool) → AreRuns test 0 []
no_runs test = record { apart = tt; members = λ number some most. absurd (omega arith) }

-- the next number doesn't pass
pub runs_same : (test : ℕ → Bool) (most : ℕ) (runs : List (ℕ × ℕ)) → AreRuns test most runs → test (most + 1) ≡ false → AreRuns test (most + 1) runs
runs_same test most runs are fails = record {
  apart = wider 1 most (most + 1) runs (omega arith) are.apart;
  members = λ number some upto. elim (cases_lt most number) [
    | inl lt ↦ none_above 1 most number runs lt are.apart ∙ sym (let e : number ≡ most + 1 = omega arith in ap test e ∙ fails)
    | inr le ↦ are.members number some le
  ];
}

-- the next number passes
pub runs_more : (test : ℕ → Bool) (most : ℕ) (runs : List (ℕ × ℕ)) → AreRuns test most runs → test (most + 1) ≡ true → AreRuns test (most + 1) (with_number (most + 1) runs)
runs_more test most runs are passes = record {
  apart = apart_with 1 most (most + 1) runs refl (omega arith) are.apart;
  members = λ number some upto. elim (cases_lt most number) [
    | inl lt ↦ (let e : number ≡ most + 1 = omega arith in ap (λ (n : ℕ). is_among n (with_number (most + 1) runs)) e ∙ among_new 1 most (most + 1) runs refl are.apart ∙ sym (ap test e ∙ passes))
    | inr le ↦ among_old number (most + 1) runs (omega arith) ∙ are.members number some le
  ];
}

-- the next number is judged
pub runs_judged : (test : ℕ → Bool) (most : ℕ) (runs : List (ℕ × ℕ)) (sound : Bool) → AreRuns test most runs → test (most + 1) ≡ not sound → AreRuns test (most + 1) (cond sound runs (with_number (most + 1) runs))
runs_judged test most runs true are is = runs_same test most runs are is
runs_judged test most runs false are is = runs_more test most runs are is
