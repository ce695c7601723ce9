-- What is computed to be lawful is lawful.
use Rattle.std.proofs.Common.{◌≡◌, ◌≢◌, ◌+◌, ◌<◌, ◌≤◌, ◌⊎◌, inl, inr, zero, suc, ℕ, Bool, true, false, not, ◌&&◌, ◌||◌, List, [], ◌∷◌, ◌++◌, Option, Some, None, length, map, refl, ap, sym, subst, ◌∙◌, arith}
use Rattle.std.specs.Prelude.{slice_get, is_some, ◌==◌, nat_le}
use Rattle.std.proofs.lemmas.Bool.{cases_lt}
use Rattle.std.proofs.lemmas.Bool.Decides.{nat_tests}
use Rattle.io_traits.specs.declared.links.LinkEvent.{LinkEvent}
use Rattle.io_traits.specs.declared.links.LinkEvent.TheVariants as event
use Rattle.io_traits.specs.Trace.{link_of}
use Rattle.pipeline_core.specs.Pipeline.{next_segment, next_on, is_finished}
use Rattle.pipeline_core.specs.Searches.{all_from}
use Rattle.fetch_trace.specs.Setting.{Setting}
use Rattle.fetch_trace.specs.LinkNow.{LinkNow, link_at, is_over, is_ready, waiting_of}
use Rattle.fetch_trace.specs.Standing.{Standing, pipeline_of, place_from}
use Rattle.fetch_trace.specs.Due.{Due, due_on, login_due}
use Rattle.fetch_trace.specs.Moving.{moved}
use Rattle.fetch_trace.specs.Lawful.{most_received, IsOn, OthersRest, IsFront, IsPieceDue, Awaits, AreFull, MayReceive, MayCome, IsLawful}
use Rattle.fetch_trace.specs.LawfulReading.{is_empty, others_rest, begins_with, is_front, is_front_of, is_piece_due, awaits, no_login_due, are_full, may_receive, may_come_on, may_come_at, may_come_by, may_come, is_lawful}

-- ---- truth values

pub both : (a b : Bool) → (a && b) ≡ true → (a ≡ true) × (b ≡ true)
both true b is = (refl, is)
both false b is = cc

pub either : (a b : Bool) → (a || b) ≡ true → (a ≡ true) ⊎ (b ≡ true)
either true b is = inl refl
either false b is = inr is

not_true : (b : Bool) → not b ≡ true → b ≡ false
not_true true is = cc
not_true false is = refl

empty_is : {A : Type 0} (xs : List A) → is_empty xs ≡ true → xs ≡ []
empty_is [] is = refl
empty_is (x ∷ xs) is = cc

some_is : {A : Type 0} (xs : List A) → not (is_empty xs) ≡ true → xs ≢ []
some_is [] is none = cc
some_is (x ∷ xs) is none = cc

none_is : {A : Type 0} (o : Option A) → not (is_some o) ≡ true → o ≡ None
none_is None is = refl
none_is (Some x) is = cc

-- ---- pieces

begins_is : (piece bytes : List ℕ) → begins_with piece bytes ≡ true → (rest : List ℕ) × (piece ++ rest ≡ bytes)
begins_is [] bytes is = (bytes, refl)
begins_is (x ∷ piece) [] is = cc
begins_is (x ∷ piece) (y ∷ bytes) is =
    let two = both (x == y) (begins_with piece bytes) is in
    let test : (x == y) ≡ true = two.0 in
    let same : x ≡ y = grind (arith, nat_tests) in
    let rest = begins_is piece bytes two.1 in
    (rest.0, ap (λ (n : ℕ). n ∷ piece ++ rest.0) same ∙ ap (λ (t : List ℕ). y ∷ t) rest.1)

front_is : (piece bytes : List ℕ) → is_front piece bytes ≡ true → IsFront piece bytes
front_is piece bytes is = let two = both (not (is_empty piece)) (begins_with piece bytes) is in (some_is piece two.0, begins_is piece bytes two.1)

due_is : (setting : Setting) (s : Standing) (bytes : List ℕ) (i : ℕ) (l : LinkNow) (o : Option Due) → due_on setting (pipeline_of setting s.links) i l ≡ o → is_front_of bytes o ≡ true → (due : Due) × (due_on setting (pipeline_of setting s.links) i l ≡ Some due) × IsFront bytes due.text
due_is setting s bytes i l None at is = cc
due_is setting s bytes i l (Some due) at is = (due, at, front_is bytes due.text is)

piece_is : (setting : Setting) (s : Standing) (bytes : List ℕ) (i : ℕ) (l : LinkNow) (unsent : List ℕ) → is_piece_due setting s bytes i l unsent ≡ true → IsPieceDue setting s bytes i l unsent
piece_is setting s bytes i l [] is = due_is setting s bytes i l (due_on setting (pipeline_of setting s.links) i l) refl is
piece_is setting s bytes i l (byte ∷ unsent) is = front_is bytes (byte ∷ unsent) is

-- ---- the other links

others_are : (k i : ℕ) (links : List LinkNow) → others_rest k i links ≡ true → (j : ℕ) (l : LinkNow) → k + j ≢ i → slice_get links j ≡ Some l → (l.saying.unsent ≡ []) ⊎ (is_over l ≡ true)
others_are k i [] is j l other at = cc
others_are k i (a ∷ links) is zero l other at =
    let two = both ((k == i) || (is_over a || is_empty a.saying.unsent)) (others_rest (k + 1) i links) is in
    let same : a ≡ l = cc in
    elim (either (k == i) (is_over a || is_empty a.saying.unsent) two.0) [
      | inl here ↦ (let test : (k == i) ≡ true = here in let e : k ≡ i = grind (arith, nat_tests) in absurd (other (omega (arith, e))))
      | inr rest ↦ elim (either (is_over a) (is_empty a.saying.unsent) rest) [
        | inl over ↦ inr (ap (λ (b : LinkNow). is_over b) (sym same) ∙ over)
        | inr none ↦ inl (ap (λ (b : LinkNow). b.saying.unsent) (sym same) ∙ empty_is a.saying.unsent none)
      ]
    ]
others_are k i (a ∷ links) is (suc j) l other at =
    let two = both ((k == i) || (is_over a || is_empty a.saying.unsent)) (others_rest (k + 1) i links) is in
    others_are (k + 1) i links two.1 j l (λ e. other (omega (arith, e))) at

others_rest_is : (s : Standing) (i : ℕ) → others_rest 0 i s.links ≡ true → OthersRest s i
others_rest_is s i is k l other at = others_are 0 i s.links is k l (λ e. other (omega (arith, e))) at

awaits_is : (l : LinkNow) → awaits l ≡ true → Awaits l
awaits_is l is = elim (either (not (is_ready l)) (not (is_empty (waiting_of l.asking))) is) [
  | inl unready ↦ inl (not_true (is_ready l) unready)
  | inr some ↦ inr (some_is (waiting_of l.asking) some)
]

-- ---- full pipelines, and no login due

login_is : (links : List LinkNow) → no_login_due links ≡ true → (k : ℕ) (l : LinkNow) → slice_get links k ≡ Some l → is_over l ≡ false → login_due l.opening.login l.hearing.replies l.hearing.waiting ≡ None
login_is [] is k l at live = cc
login_is (a ∷ links) is zero l at live =
    let two = both (is_over a || not (is_some (login_due a.opening.login a.hearing.replies a.hearing.waiting))) (no_login_due links) is in
    let same : a ≡ l = cc in
    let still : is_over a ≡ false = ap (λ (b : LinkNow). is_over b) same ∙ live in
    let none : not (is_some (login_due a.opening.login a.hearing.replies a.hearing.waiting)) ≡ true = sym (ap (λ b. b || not (is_some (login_due a.opening.login a.hearing.replies a.hearing.waiting))) still) ∙ two.0 in
    subst (λ (b : LinkNow). login_due b.opening.login b.hearing.replies b.hearing.waiting ≡ None) same (none_is (login_due a.opening.login a.hearing.replies a.hearing.waiting) none)
login_is (a ∷ links) is (suc k) l at live =
    let two = both (is_over a || not (is_some (login_due a.opening.login a.hearing.replies a.hearing.waiting))) (no_login_due links) is in
    login_is links two.1 k l at live

all_are : (test : ℕ → Bool) (start count : ℕ) → all_from test start count ≡ true → (k : ℕ) → k < count → test (start + k) ≡ true
all_are test start zero is k below = absurd (omega (arith, below))
all_are test start (suc count) is zero below = let z : start + 0 ≡ start = omega arith in ap test z ∙ (both (test start) (all_from test (start + 1) count) is).0
all_are test start (suc count) is (suc k) below =
    let z : start + suc k ≡ (start + 1) + k = omega arith in
    ap test z ∙ all_are test (start + 1) count (both (test start) (all_from test (start + 1) count) is).1 k (omega (arith, below))

no_link : (links : List LinkNow) (k : ℕ) → length links ≤ k → slice_get (map link_at links) k ≡ None
no_link [] k past = refl
no_link (a ∷ links) zero past = absurd (omega (arith, past))
no_link (a ∷ links) (suc k) past = no_link links k (omega (arith, past))

full_is : (setting : Setting) (s : Standing) → are_full (pipeline_of setting s.links) (length s.links) ≡ true → AreFull setting s
full_is setting s is k = elim (cases_lt k (length s.links)) [
  | inl below ↦ (let z : 0 + k ≡ k = omega arith in none_is (next_segment (pipeline_of setting s.links) k) (ap (λ n. not (is_some (next_segment (pipeline_of setting s.links) n))) (sym z) ∙ all_are (λ n. not (is_some (next_segment (pipeline_of setting s.links) n))) 0 (length s.links) is k below))
  | inr past ↦ ap (next_on (pipeline_of setting s.links)) (no_link s.links k (omega (arith, past)))
]

-- ---- events

receive_is : (setting : Setting) (s : Standing) (n i : ℕ) (l : LinkNow) → IsOn s n i l → OthersRest s i → may_receive setting s i l ≡ true → MayReceive setting s n
receive_is setting s n i l on others is =
    let halves = both ((is_empty l.saying.unsent && not l.saying.quits) && awaits l) ((are_full (pipeline_of setting s.links) (length s.links) && no_login_due s.links) && not (is_finished (pipeline_of setting s.links))) is in
    let one = both (is_empty l.saying.unsent && not l.saying.quits) (awaits l) halves.0 in
    let said = both (is_empty l.saying.unsent) (not l.saying.quits) one.0 in
    let two = both (are_full (pipeline_of setting s.links) (length s.links) && no_login_due s.links) (not (is_finished (pipeline_of setting s.links))) halves.1 in
    let full = both (are_full (pipeline_of setting s.links) (length s.links)) (no_login_due s.links) two.0 in
    record {
      i = i;
      l = l;
      on = on;
      whole = empty_is l.saying.unsent said.0;
      unquit = not_true l.saying.quits said.1;
      others = others;
      awaits = awaits_is l one.1;
      full = full_is setting s full.0;
      no_login = λ k other at live. login_is s.links full.1 k other at live;
      unfinished = not_true (is_finished (pipeline_of setting s.links)) two.1;
    }

small : (n : ℕ) → nat_le n most_received ≡ true → n ≤ most_received
small n is = grind (arith, nat_tests)

on_is : (setting : Setting) (s : Standing) (e : LinkEvent) (i : ℕ) (l : LinkNow) → IsOn s (link_of e) i l → OthersRest s i → may_come_on setting s e i l ≡ true → MayCome setting s e
on_is setting s (event.Opened n address) i l on others is = cc
on_is setting s (event.Sent n bytes) i l on others is = record { i = i; l = l; on = on; others = others; piece = piece_is setting s bytes i l l.saying.unsent is }
on_is setting s (event.Heard n bytes) i l on others is =
    let two = both (may_receive setting s i l) (not (is_empty bytes) && nat_le (length bytes) most_received) is in
    let sized = both (not (is_empty bytes)) (nat_le (length bytes) most_received) two.1 in
    (receive_is setting s n i l on others two.0, (some_is bytes sized.0, small (length bytes) sized.1))
on_is setting s (event.Quiet n) i l on others is = receive_is setting s n i l on others is
on_is setting s (event.Ended n) i l on others is = record { i = i; l = l; on = on; others = others }

at_is : (setting : Setting) (s : Standing) (e : LinkEvent) (i : ℕ) (o : Option LinkNow) → place_from 0 (link_of e) s.links ≡ Some i → slice_get s.links i ≡ o → may_come_at setting s e i o ≡ true → MayCome setting s e
at_is setting s e i None place here is = cc
at_is setting s e i (Some l) place here is =
    let two = both (not (is_over l) && others_rest 0 i s.links) (may_come_on setting s e i l) is in
    let one = both (not (is_over l)) (others_rest 0 i s.links) two.0 in
    on_is setting s e i l (record { place = place; here = here; live = not_true (is_over l) one.0 }) (others_rest_is s i one.1) two.1

by_is : (setting : Setting) (s : Standing) (e : LinkEvent) (o : Option ℕ) → place_from 0 (link_of e) s.links ≡ o → may_come_by setting s e o ≡ true → MayCome setting s e
by_is setting s e None place is = cc
by_is setting s e (Some i) place is = at_is setting s e i (slice_get s.links i) place refl is

-- what is computed to be lawful is lawful
pub lawful_is : (setting : Setting) (s : Standing) (events : List LinkEvent) → is_lawful setting s events ≡ true → IsLawful setting s events
lawful_is setting s [] is = tt
lawful_is setting s (e ∷ events) is =
    let two = both (may_come setting s e) (is_lawful setting (moved setting s e) events) is in
    (by_is setting s e (place_from 0 (link_of e) s.links) refl two.0, lawful_is setting (moved setting s e) events two.1)
