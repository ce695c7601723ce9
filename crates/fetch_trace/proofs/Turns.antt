-- What is in turn is computed to be so, and the other way round.
use Rattle.std.proofs.Common.{◌≡◌, ◌+◌, ◌<◌, ◌≤◌, ◌⊎◌, inl, inr, zero, suc, ℕ, Bool, true, false, not, ◌&&◌, ◌||◌, List, [], ◌∷◌, Option, Some, None, refl, ap, sym, subst, ◌∙◌, arith}
use Rattle.std.specs.Prelude.{slice_get, nat_lt, nat_le}
use Rattle.std.proofs.lemmas.Bool.Decides.{nat_tests}
use Rattle.io_traits.specs.declared.links.LinkEvent.{LinkEvent}
use Rattle.io_traits.specs.declared.links.LinkEvent.TheVariants as event
use Rattle.fetch_trace.specs.Setting.{Setting}
use Rattle.fetch_trace.specs.LinkNow.{LinkNow, is_over, is_ready, waiting_of}
use Rattle.fetch_trace.specs.Standing.{Standing, place_from}
use Rattle.fetch_trace.specs.Moving.{moved}
use Rattle.fetch_trace.specs.LawfulReading.{is_empty, awaits}
use Rattle.fetch_trace.specs.Turns.{IsBetween, InRotation, IsReceivedInTurn, ComesInTurn, AreInTurn, is_between, in_rotation, rotation_from, rotation_at, comes_in_turn, are_in_turn, TurnsAreComputed}
use Rattle.fetch_trace.proofs.LawfulReads.{both, either}
use Rattle.fetch_trace.proofs.LawfulTold.{and_true, or_first, or_second, and_parts, or_parts}

-- ---- what is computed is so

lt_is : (a b : ℕ) → a < b → nat_lt a b ≡ true
lt_is a b less = grind (arith, nat_tests)

le_is : (a b : ℕ) → a ≤ b → nat_le a b ≡ true
le_is a b less = grind (arith, nat_tests)

first_way : (a b c : Bool) → a ≡ true → b ≡ true → ((a && b) || c) ≡ true
first_way a b c one two = rw (one, two) refl

second_way : (a b c : Bool) → c ≡ true → (a ≡ true) ⊎ (b ≡ true) → ((a && b) || (c && (a || b))) ≡ true
second_way a true c one (inl two) = rw (one, two) refl
second_way a false c one (inl two) = rw (one, two) refl
second_way true b c one (inr two) = rw (one, two) refl
second_way false b c one (inr two) = rw (one, two) refl

between_is : (last i k : ℕ) → IsBetween last i k → is_between last i k ≡ true
between_is last i k (inl two) = first_way (nat_lt last k) (nat_lt k i) (nat_le i last && (nat_lt last k || nat_lt k i)) (lt_is last k two.0) (lt_is k i two.1)
between_is last i k (inr two) = second_way (nat_lt last k) (nat_lt k i) (nat_le i last) (le_is i last two.0) (elim two.1 [ inl less ↦ inl (lt_is last k less) | inr less ↦ inr (lt_is k i less) ])

skipped_by : (ready : Bool) (waiting : List ℕ) → not (not ready || not (is_empty waiting)) ≡ true → (ready ≡ true) × (waiting ≡ [])
skipped_by true [] is = (refl, refl)
skipped_by true (k ∷ waiting) is = cc
skipped_by false waiting is = cc

passed : (last i k : ℕ) (l : LinkNow) → IsBetween last i k → (not (is_between last i k) || (is_over l || not (awaits l))) ≡ true → (is_over l ≡ true) ⊎ ((is_ready l ≡ true) × (waiting_of l.asking ≡ []))
passed last i k l between is =
    let test = between_is last i k between in
    let rest : (is_over l || not (awaits l)) ≡ true = sym (ap (λ b. not b || (is_over l || not (awaits l))) test) ∙ is in
    elim (either (is_over l) (not (awaits l)) rest) [
      | inl over ↦ inl over
      | inr idle ↦ inr (skipped_by (is_ready l) (waiting_of l.asking) idle)
    ]

rotation_is : (k last i : ℕ) (links : List LinkNow) → in_rotation k last i links ≡ true → (j : ℕ) (l : LinkNow) → IsBetween last i (k + j) → slice_get links j ≡ Some l → (is_over l ≡ true) ⊎ ((is_ready l ≡ true) × (waiting_of l.asking ≡ []))
rotation_is k last i [] is j l between at = cc
rotation_is k last i (a ∷ links) is zero l between at =
    let two = both (not (is_between last i k) || (is_over a || not (awaits a))) (in_rotation (k + 1) last i links) is in
    let same : a ≡ l = cc in
    let z : k + 0 ≡ k = omega arith in
    subst (λ (b : LinkNow). (is_over b ≡ true) ⊎ ((is_ready b ≡ true) × (waiting_of b.asking ≡ []))) same (passed last i k a (subst (λ n. IsBetween last i n) z between) two.0)
rotation_is k last i (a ∷ links) is (suc j) l between at =
    let two = both (not (is_between last i k) || (is_over a || not (awaits a))) (in_rotation (k + 1) last i links) is in
    let z : k + suc j ≡ (k + 1) + j = omega arith in
    rotation_is (k + 1) last i links two.1 j l (subst (λ n. IsBetween last i n) z between) at

rotation_by : (s : Standing) (last : Option ℕ) (i : ℕ) → rotation_from last i s.links ≡ true → InRotation s last i
rotation_by s None i is = tt
rotation_by s (Some last) i is = λ k l between at. rotation_is 0 last i s.links is k l (subst (λ n. IsBetween last i n) (sym (let z : 0 + k ≡ k = omega arith in z)) between) at

-- ---- what is so is computed

less_of : (a b : ℕ) → nat_lt a b ≡ true → a < b
less_of a b is = grind (arith, nat_tests)

most_of : (a b : ℕ) → nat_le a b ≡ true → a ≤ b
most_of a b is = grind (arith, nat_tests)

between_of : (last i k : ℕ) → is_between last i k ≡ true → IsBetween last i k
between_of last i k is = elim (or_parts (nat_lt last k && nat_lt k i) (nat_le i last && (nat_lt last k || nat_lt k i)) is) [
  | inl inside ↦ (let two = and_parts (nat_lt last k) (nat_lt k i) inside in inl (less_of last k two.0, less_of k i two.1))
  | inr round ↦ (let two = and_parts (nat_le i last) (nat_lt last k || nat_lt k i) round in
      inr (most_of i last two.0, elim (or_parts (nat_lt last k) (nat_lt k i) two.1) [ inl behind ↦ inl (less_of last k behind) | inr before ↦ inr (less_of k i before) ]))
]

waits_not : (ready : Bool) (waiting : List ℕ) → ready ≡ true → waiting ≡ [] → not (not ready || not (is_empty waiting)) ≡ true
waits_not true [] one two = refl
waits_not true (x ∷ waiting) one two = cc
waits_not false waiting one two = cc

rotation_of : (k last i : ℕ) (links : List LinkNow) → ((j : ℕ) (l : LinkNow) → IsBetween last i (k + j) → slice_get links j ≡ Some l → (is_over l ≡ true) ⊎ ((is_ready l ≡ true) × (waiting_of l.asking ≡ []))) → in_rotation k last i links ≡ true
rotation_of k last i [] all = refl
rotation_of k last i (l ∷ links) all =
    and_true (not (is_between last i k) || (is_over l || not (awaits l))) (in_rotation (k + 1) last i links) (here (is_between last i k) refl)
    (rotation_of (k + 1) last i links (λ j m between there. all (suc j) m (subst (λ n. IsBetween last i n) (let z : (k + 1) + j ≡ k + suc j = omega arith in z) between) there))
  where
    here : (b : Bool) → is_between last i k ≡ b → (not b || (is_over l || not (awaits l))) ≡ true
    here false is = refl
    here true is = elim (all 0 l (subst (λ n. IsBetween last i n) (let z : k ≡ k + 0 = omega arith in z) (between_of last i k is)) refl) [
      | inl over ↦ or_first (is_over l) (not (awaits l)) over
      | inr rests ↦ or_second (is_over l) (not (awaits l)) (waits_not (is_ready l) (waiting_of l.asking) rests.0 rests.1)
    ]

rotation_by_of : (s : Standing) (last : Option ℕ) (i : ℕ) → InRotation s last i → rotation_from last i s.links ≡ true
rotation_by_of s None i is = refl
rotation_by_of s (Some last) i is = rotation_of 0 last i s.links (λ j l between there. is j l (subst (λ n. IsBetween last i n) (let z : 0 + j ≡ j = omega arith in z) between) there)

-- ---- events

place_is : (s : Standing) (n : ℕ) (o : Option ℕ) → place_from 0 n s.links ≡ o → rotation_at s o ≡ true → IsReceivedInTurn s n
place_is s n None at is i place = let no : None ≡ Some i = sym at ∙ place in cc
place_is s n (Some j) at is i place =
    let both_are : Some j ≡ Some i = sym at ∙ place in
    let same : j ≡ i = cc in
    subst (InRotation s s.last) same (rotation_by s s.last j is)

received_is : (s : Standing) (n : ℕ) → rotation_at s (place_from 0 n s.links) ≡ true → IsReceivedInTurn s n
received_is s n is = place_is s n (place_from 0 n s.links) refl is

place_told : (s : Standing) (n : ℕ) (o : Option ℕ) → place_from 0 n s.links ≡ o → IsReceivedInTurn s n → rotation_at s o ≡ true
place_told s n None at turn = refl
place_told s n (Some i) at turn = rotation_by_of s s.last i (turn i at)

received_told : (s : Standing) (n : ℕ) → IsReceivedInTurn s n → rotation_at s (place_from 0 n s.links) ≡ true
received_told s n turn = place_told s n (place_from 0 n s.links) refl turn

event_is : (s : Standing) (e : LinkEvent) → comes_in_turn s e ≡ true → ComesInTurn s e
event_is s (event.Opened n address) is = tt
event_is s (event.Sent n bytes) is = tt
event_is s (event.Heard n bytes) is = received_is s n is
event_is s (event.Quiet n) is = received_is s n is
event_is s (event.Ended n) is = tt

event_told : (s : Standing) (e : LinkEvent) → ComesInTurn s e → comes_in_turn s e ≡ true
event_told s (event.Opened n address) turn = refl
event_told s (event.Sent n bytes) turn = refl
event_told s (event.Heard n bytes) turn = received_told s n turn
event_told s (event.Quiet n) turn = received_told s n turn
event_told s (event.Ended n) turn = refl

turns_are : (setting : Setting) (s : Standing) (events : List LinkEvent) → are_in_turn setting s events ≡ true → AreInTurn setting s events
turns_are setting s [] is = tt
turns_are setting s (e ∷ events) is =
    let two = both (comes_in_turn s e) (are_in_turn setting (moved setting s e) events) is in
    (event_is s e two.0, turns_are setting (moved setting s e) events two.1)

turns_told : (setting : Setting) (s : Standing) (events : List LinkEvent) → AreInTurn setting s events → are_in_turn setting s events ≡ true
turns_told setting s [] turns = refl
turns_told setting s (e ∷ events) turns =
    and_true (comes_in_turn s e) (are_in_turn setting (moved setting s e) events) (event_told s e turns.0) (turns_told setting (moved setting s e) events turns.1)

pub turns_are_computed : TurnsAreComputed
turns_are_computed setting s events = (turns_are setting s events, turns_told setting s events)
