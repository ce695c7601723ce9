-- A search goes on after one number.
use Rattle.std.proofs.Common.{◌≡◌, ◌+◌, ◌-◌, ◌<◌, ◌≤◌, ◌⊎◌, inl, inr, zero, suc, ℕ, Bool, true, false, ◌&&◌, Option, Some, None, refl, ap, sym, ◌∙◌, arith}
use Rattle.std.specs.Prelude.{cond}
use Rattle.std.proofs.lemmas.Bool.{cases_lt}
use Rattle.pipeline_core.specs.Searches.{all_from, first_from}

both_false : (b : Bool) → (b && false) ≡ false
both_false true = refl
both_false false = refl

same_or_above : (start k : ℕ) → start ≤ k → (start ≡ k) ⊎ (start + 1 ≤ k)
same_or_above start k low = elim (cases_lt start k) [ inl above ↦ inr (omega arith) | inr upto ↦ inl (omega arith) ]

gap : (i n : ℕ) → i < n → n - i ≡ suc (n - (i + 1))
gap i n below = omega arith

pub first_no : (test : ℕ → Bool) (i n : ℕ) → i < n → test i ≡ false → first_from test i (n - i) ≡ first_from test (i + 1) (n - (i + 1))
first_no test i n below fails = ap (λ k. first_from test i k) (gap i n below) ∙ rw fails refl

pub first_yes : (test : ℕ → Bool) (i n : ℕ) → i < n → test i ≡ true → first_from test i (n - i) ≡ Some i
first_yes test i n below holds = ap (λ k. first_from test i k) (gap i n below) ∙ rw holds refl

pub first_end : (test : ℕ → Bool) (i n : ℕ) → n ≤ i → first_from test i (n - i) ≡ None
first_end test i n past = let none : n - i ≡ 0 = omega arith in ap (λ k. first_from test i k) none

pub all_yes : (test : ℕ → Bool) (i n : ℕ) → i < n → test i ≡ true → all_from test i (n - i) ≡ all_from test (i + 1) (n - (i + 1))
all_yes test i n below holds = ap (λ k. all_from test i k) (gap i n below) ∙ rw holds refl

pub all_no : (test : ℕ → Bool) (i n : ℕ) → i < n → test i ≡ false → all_from test i (n - i) ≡ false
all_no test i n below fails = ap (λ k. all_from test i k) (gap i n below) ∙ rw fails refl

pub all_end : (test : ℕ → Bool) (i n : ℕ) → n ≤ i → all_from test i (n - i) ≡ true
all_end test i n past = let none : n - i ≡ 0 = omega arith in ap (λ k. all_from test i k) none

-- tests that agree find the same
pub first_agree : (test other : ℕ → Bool) (start count : ℕ) → ((k : ℕ) → start ≤ k → k < start + count → test k ≡ other k) → first_from test start count ≡ first_from other start count
first_agree test other start zero agree = refl
first_agree test other start (suc count) agree =
    let here : test start ≡ other start = agree start (omega arith) (omega arith) in
    rw (here, first_agree test other (start + 1) count (λ k low high. agree k (omega arith) (omega arith))) refl

pub all_agree : (test other : ℕ → Bool) (start count : ℕ) → ((k : ℕ) → start ≤ k → k < start + count → test k ≡ other k) → all_from test start count ≡ all_from other start count
all_agree test other start zero agree = refl
all_agree test other start (suc count) agree =
    let here : test start ≡ other start = agree start (omega arith) (omega arith) in
    rw (here, all_agree test other (start + 1) count (λ k low high. agree k (omega arith) (omega arith))) refl

-- one number at which the test fails
pub not_all : (test : ℕ → Bool) (start count k : ℕ) → start ≤ k → k < start + count → test k ≡ false → all_from test start count ≡ false
not_all test start zero k low high fails = absurd (omega arith)
not_all test start (suc count) k low high fails = elim (same_or_above start k low) [
  | inl e ↦ (let here : test start ≡ false = ap test e ∙ fails in rw here refl)
  | inr above ↦ rw (not_all test (start + 1) count k (omega arith) (omega arith) fails) (both_false (test start))
]

pub chosen : {A : Type 0} (b : Bool) (x y : A) → cond b (Some x) None ≡ Some y → (b ≡ true) × (x ≡ y)
chosen true x y is = (refl, (cc))
chosen false x y is = cc

pub chosen_from : {A : Type 0} (b : Bool) (o : Option A) (y : A) → cond b o None ≡ Some y → (b ≡ true) × (o ≡ Some y)
chosen_from true o y is = (refl, is)
chosen_from false o y is = cc

found_by : (test : ℕ → Bool) (start count k : ℕ) (b : Bool) → test start ≡ b → (first_from test (start + 1) count ≡ Some k → (test k ≡ true) × (start + 1 ≤ k) × (k < (start + 1) + count)) → cond b (Some start) (first_from test (start + 1) count) ≡ Some k → (test k ≡ true) × (start ≤ k) × (k < start + suc count)
found_by test start count k true here on is = let same : start ≡ k = cc in (ap test (sym same) ∙ here, omega arith, omega arith)
found_by test start count k false here on is = let later = on is in (later.0, omega (arith, later.1), omega (arith, later.2))

-- what a search finds
pub first_found : (test : ℕ → Bool) (start count k : ℕ) → first_from test start count ≡ Some k → (test k ≡ true) × (start ≤ k) × (k < start + count)
first_found test start zero k is = cc
first_found test start (suc count) k is = found_by test start count k (test start) refl (first_found test (start + 1) count k) is

least_by : (test : ℕ → Bool) (start count k s : ℕ) (b : Bool) → test start ≡ b → (first_from test (start + 1) count ≡ Some k → start + 1 ≤ s → test s ≡ false) → cond b (Some start) (first_from test (start + 1) count) ≡ Some k → start ≤ s → s < k → test s ≡ false
least_by test start count k s true here on is low below = let same : start ≡ k = cc in absurd (omega arith)
least_by test start count k s false here on is low below = elim (same_or_above start s low) [
  | inl e ↦ ap test (sym e) ∙ here
  | inr above ↦ on is above
]

-- the test holds at no number before the one that is found
pub first_least : (test : ℕ → Bool) (start count k s : ℕ) → first_from test start count ≡ Some k → start ≤ s → s < k → test s ≡ false
first_least test start zero k s is low below = cc
first_least test start (suc count) k s is low below =
    least_by test start count k s (test start) refl (λ rest above. first_least test (start + 1) count k s rest above below) is low below

none_at_by : (test : ℕ → Bool) (start count s : ℕ) (b : Bool) → test start ≡ b → (first_from test (start + 1) count ≡ None → start + 1 ≤ s → test s ≡ false) → cond b (Some start) (first_from test (start + 1) count) ≡ None → start ≤ s → test s ≡ false
none_at_by test start count s true here on is low = let no_way : Some start ≡ None = is in cc
none_at_by test start count s false here on is low = elim (same_or_above start s low) [
  | inl e ↦ ap test (sym e) ∙ here
  | inr above ↦ on is above
]

-- where nothing is found the test holds nowhere
pub first_none_at : (test : ℕ → Bool) (start count s : ℕ) → first_from test start count ≡ None → start ≤ s → s < start + count → test s ≡ false
first_none_at test start zero s is low high = absurd (omega arith)
first_none_at test start (suc count) s is low high =
    none_at_by test start count s (test start) refl (λ rest above. first_none_at test (start + 1) count s rest above (omega arith)) is low

-- where the test holds nowhere nothing is found
pub first_nowhere : (test : ℕ → Bool) (start count : ℕ) → ((s : ℕ) → start ≤ s → s < start + count → test s ≡ false) → first_from test start count ≡ None
first_nowhere test start zero fails = refl
first_nowhere test start (suc count) fails =
    let here : test start ≡ false = fails start (omega arith) (omega arith) in
    rw (here, first_nowhere test (start + 1) count (λ s low high. fails s (omega arith) (omega arith))) refl

-- the least number at which the test holds is found
pub first_at : (test : ℕ → Bool) (start count k : ℕ) → test k ≡ true → start ≤ k → k < start + count → ((s : ℕ) → start ≤ s → s < k → test s ≡ false) → first_from test start count ≡ Some k
first_at test start zero k holds low high fails = absurd (omega arith)
first_at test start (suc count) k holds low high fails = elim (same_or_above start k low) [
  | inl e ↦ (let here : test start ≡ true = ap test e ∙ holds in rw here (ap (λ n. Some n) e))
  | inr above ↦ (let here : test start ≡ false = fails start (omega arith) (omega arith) in
      rw (here, first_at test (start + 1) count k holds above (omega arith) (λ s under below. fails s (omega arith) below)) refl)
]

pub all_of : (test : ℕ → Bool) (start count : ℕ) → ((s : ℕ) → start ≤ s → s < start + count → test s ≡ true) → all_from test start count ≡ true
all_of test start zero holds = refl
all_of test start (suc count) holds =
    let here : test start ≡ true = holds start (omega arith) (omega arith) in
    rw (here, all_of test (start + 1) count (λ s low high. holds s (omega arith) (omega arith))) refl

mono_by : (a b x y : Bool) → (a ≡ true → b ≡ true) → (x ≡ true → y ≡ true) → (a && x) ≡ true → (b && y) ≡ true
mono_by true b x y one two both = rw (one refl, two both) refl
mono_by false b x y one two both = cc

pub all_mono : (test other : ℕ → Bool) (start count : ℕ) → ((s : ℕ) → test s ≡ true → other s ≡ true) → all_from test start count ≡ true → all_from other start count ≡ true
all_mono test other start zero more all = refl
all_mono test other start (suc count) more all =
    mono_by (test start) (other start) (all_from test (start + 1) count) (all_from other (start + 1) count) (more start) (all_mono test other (start + 1) count more) all

window_by : (test : ℕ → Bool) (start end n : ℕ) (o : Option ℕ) → first_from test start (end - start) ≡ o → end ≤ n → ((s : ℕ) → s < start → test s ≡ false) → (o ≡ None → (s : ℕ) → end ≤ s → s < n → test s ≡ false) → o ≡ first_from test 0 n
window_by test start end n None is within low high =
    sym (first_nowhere test 0 n (λ s under below. elim (cases_lt s start) [
      | inl before ↦ low s before
      | inr from ↦ elim (cases_lt s end) [
        | inl inside ↦ first_none_at test start (end - start) s is from (omega arith)
        | inr behind ↦ high refl s behind (omega arith)
      ]
    ]))
window_by test start end n (Some k) is within low high =
    let found = first_found test start (end - start) k is in
    sym (first_at test 0 n k found.0 (omega arith) (omega (arith, found.1, found.2)) (λ s under below. elim (cases_lt s start) [
      | inl before ↦ low s before
      | inr from ↦ first_least test start (end - start) k s is from below
    ]))

-- a search of a part finds what one of the whole does, where the test holds nowhere before it, and nowhere behind it unless it found something
pub first_window : (test : ℕ → Bool) (start end n : ℕ) → end ≤ n → ((s : ℕ) → s < start → test s ≡ false) → (first_from test start (end - start) ≡ None → (s : ℕ) → end ≤ s → s < n → test s ≡ false) → first_from test start (end - start) ≡ first_from test 0 n
first_window test start end n within low high = window_by test start end n (first_from test start (end - start)) refl within low high
