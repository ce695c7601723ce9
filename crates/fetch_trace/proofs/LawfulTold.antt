-- What is lawful is computed to be so.
use Rattle.std.proofs.Common.{◌≡◌, ◌≢◌, ◌+◌, ◌≤◌, ◌⊎◌, inl, inr, zero, suc, ℕ, Bool, true, false, not, ◌&&◌, ◌||◌, List, [], ◌∷◌, ◌++◌, Option, Some, None, length, refl, ap, sym, subst, ◌∙◌, arith}
use Rattle.std.specs.Prelude.{slice_get, nat_le, ◌==◌, is_some}
use Rattle.std.proofs.lemmas.Bool.Decides.{nat_tests}
use Rattle.io_traits.specs.declared.links.LinkEvent.{LinkEvent}
use Rattle.io_traits.specs.declared.links.LinkEvent.TheVariants as event
use Rattle.io_traits.specs.Trace.{link_of}
use Rattle.pipeline_core.specs.Pipeline.{next_segment, is_finished}
use Rattle.pipeline_core.specs.Searches.{all_from}
use Rattle.fetch_trace.specs.Setting.{Setting}
use Rattle.fetch_trace.specs.LinkNow.{LinkNow, is_over, is_ready, waiting_of}
use Rattle.fetch_trace.specs.Standing.{Standing, pipeline_of}
use Rattle.fetch_trace.specs.Due.{Due, login_due}
use Rattle.fetch_trace.specs.Moving.{moved}
use Rattle.fetch_trace.specs.Lawful.{most_received, IsOn, OthersRest, IsFront, IsPieceDue, Awaits, MayReceive, MayCome, IsLawful, HasQuit}
use Rattle.fetch_trace.specs.LawfulReading.{is_empty, others_rest, begins_with, is_front, is_front_of, is_piece_due, awaits, no_login_due, are_full, may_receive, may_come_on, may_come_at, may_come_by, may_come, is_lawful, have_quit, LawfulIsComputed, EndIsComputed}
use Rattle.fetch_trace.proofs.LawfulReads.{lawful_is}

pub and_true : (a b : Bool) → a ≡ true → b ≡ true → (a && b) ≡ true
and_true true b one two = two
and_true false b one two = cc

pub or_first : (a b : Bool) → a ≡ true → (a || b) ≡ true
or_first true b is = refl
or_first false b is = cc

pub or_second : (a b : Bool) → b ≡ true → (a || b) ≡ true
or_second true b is = refl
or_second false b is = is

not_false : (a : Bool) → a ≡ false → not a ≡ true
not_false true is = cc
not_false false is = refl

empty_of : {A : Type 0} (xs : List A) → xs ≡ [] → is_empty xs ≡ true
empty_of [] is = refl
empty_of (x ∷ xs) is = cc

some_of : {A : Type 0} (xs : List A) → xs ≢ [] → not (is_empty xs) ≡ true
some_of [] other = absurd (other refl)
some_of (x ∷ xs) other = refl

begins_of : (piece bytes rest : List ℕ) → piece ++ rest ≡ bytes → begins_with piece bytes ≡ true
begins_of [] bytes rest is = refl
begins_of (x ∷ piece) [] rest is = cc
begins_of (x ∷ piece) (y ∷ bytes) rest is =
    let first : x ≡ y = cc in
    let tails : piece ++ rest ≡ bytes = cc in
    let test : (x == y) ≡ true = grind (arith, nat_tests) in
    and_true (x == y) (begins_with piece bytes) test (begins_of piece bytes rest tails)

front_of : (piece bytes : List ℕ) → IsFront piece bytes → is_front piece bytes ≡ true
front_of piece bytes front = and_true (not (is_empty piece)) (begins_with piece bytes) (some_of piece front.0) (begins_of piece bytes front.1.0 front.1.1)

piece_of : (setting : Setting) (s : Standing) (bytes : List ℕ) (i : ℕ) (l : LinkNow) (unsent : List ℕ) → IsPieceDue setting s bytes i l unsent → is_piece_due setting s bytes i l unsent ≡ true
piece_of setting s bytes i l [] turn = ap (λ (o : Option Due). is_front_of bytes o) turn.1 ∙ front_of bytes turn.0.text turn.2
piece_of setting s bytes i l (byte ∷ unsent) turn = front_of bytes (byte ∷ unsent) turn

others_of : (k i : ℕ) (links : List LinkNow) → ((j : ℕ) (l : LinkNow) → k + j ≢ i → slice_get links j ≡ Some l → (l.saying.unsent ≡ []) ⊎ (is_over l ≡ true)) → others_rest k i links ≡ true
others_of k i [] all = refl
others_of k i (l ∷ links) all =
    and_true ((k == i) || (is_over l || is_empty l.saying.unsent)) (others_rest (k + 1) i links) (here (k == i) refl)
    (others_of (k + 1) i links (λ j m other there. all (suc j) m (λ e. other (omega (arith, e))) there))
  where
    here : (b : Bool) → (k == i) ≡ b → (b || (is_over l || is_empty l.saying.unsent)) ≡ true
    here true is = refl
    here false is = elim (all 0 l (λ e. (let test : (k == i) ≡ true = (let same : k ≡ i = omega (arith, e) in grind (arith, nat_tests)) in let no : true ≡ false = sym test ∙ is in cc)) refl) [
      | inl none ↦ or_second (is_over l) (is_empty l.saying.unsent) (empty_of l.saying.unsent none)
      | inr over ↦ or_first (is_over l) (is_empty l.saying.unsent) over
    ]

others_rest_of : (s : Standing) (i : ℕ) → OthersRest s i → others_rest 0 i s.links ≡ true
others_rest_of s i rest = others_of 0 i s.links (λ j l other there. rest j l (λ e. other (let z : 0 + j ≡ j = omega arith in z ∙ e)) there)

awaits_of : (l : LinkNow) → Awaits l → awaits l ≡ true
awaits_of l (inl unready) = or_first (not (is_ready l)) (not (is_empty (waiting_of l.asking))) (not_false (is_ready l) unready)
awaits_of l (inr some) = or_second (not (is_ready l)) (not (is_empty (waiting_of l.asking))) (some_of (waiting_of l.asking) some)

pub and_parts : (a b : Bool) → (a && b) ≡ true → (a ≡ true) × (b ≡ true)
and_parts true b is = (refl, is)
and_parts false b is = cc

pub or_parts : (a b : Bool) → (a || b) ≡ true → (a ≡ true) ⊎ (b ≡ true)
or_parts true b is = inl refl
or_parts false b is = inr is

-- ---- commands that are due

none_of : {A : Type 0} (o : Option A) → o ≡ None → not (is_some o) ≡ true
none_of None is = refl
none_of (Some x) is = cc

login_of : (links : List LinkNow) → ((k : ℕ) (l : LinkNow) → slice_get links k ≡ Some l → is_over l ≡ false → login_due l.opening.login l.hearing.replies l.hearing.waiting ≡ None) → no_login_due links ≡ true
login_of [] all = refl
login_of (l ∷ links) all =
    and_true (is_over l || not (is_some (login_due l.opening.login l.hearing.replies l.hearing.waiting))) (no_login_due links) (here (is_over l) refl) (login_of links (λ k m there live. all (suc k) m there live))
  where
    here : (b : Bool) → is_over l ≡ b → (b || not (is_some (login_due l.opening.login l.hearing.replies l.hearing.waiting))) ≡ true
    here true over = refl
    here false live = none_of (login_due l.opening.login l.hearing.replies l.hearing.waiting) (all 0 l refl live)

all_of : (test : ℕ → Bool) (start count : ℕ) → ((k : ℕ) → test k ≡ true) → all_from test start count ≡ true
all_of test start zero each = refl
all_of test start (suc count) each = and_true (test start) (all_from test (start + 1) count) (each start) (all_of test (start + 1) count each)

receive_of : (setting : Setting) (s : Standing) (n : ℕ) (may : MayReceive setting s n) → may_receive setting s may.i may.l ≡ true
receive_of setting s n may =
    let p = pipeline_of setting s.links in
    and_true ((is_empty may.l.saying.unsent && not may.l.saying.quits) && awaits may.l) ((are_full p (length s.links) && no_login_due s.links) && not (is_finished p))
    (and_true (is_empty may.l.saying.unsent && not may.l.saying.quits) (awaits may.l)
    (and_true (is_empty may.l.saying.unsent) (not may.l.saying.quits) (empty_of may.l.saying.unsent may.whole) (not_false may.l.saying.quits may.unquit))
    (awaits_of may.l may.awaits))
    (and_true (are_full p (length s.links) && no_login_due s.links) (not (is_finished p))
    (and_true (are_full p (length s.links)) (no_login_due s.links) (all_of (λ k. not (is_some (next_segment p k))) 0 (length s.links) (λ k. none_of (next_segment p k) (may.full k))) (login_of s.links may.no_login))
    (not_false (is_finished p) may.unfinished))

-- ---- events

at_of : (setting : Setting) (s : Standing) (e : LinkEvent) (i : ℕ) (l : LinkNow) → IsOn s (link_of e) i l → OthersRest s i → may_come_on setting s e i l ≡ true → may_come setting s e ≡ true
at_of setting s e i l on rest is =
    ap (λ (o : Option ℕ). may_come_by setting s e o) on.place ∙ ap (λ (o : Option LinkNow). may_come_at setting s e i o) on.here
    ∙ and_true (not (is_over l) && others_rest 0 i s.links) (may_come_on setting s e i l) (and_true (not (is_over l)) (others_rest 0 i s.links) (not_false (is_over l) on.live) (others_rest_of s i rest)) is

few_of : (n : ℕ) → n ≤ most_received → nat_le n most_received ≡ true
few_of n is = grind (arith, nat_tests)

event_of : (setting : Setting) (s : Standing) (e : LinkEvent) → MayCome setting s e → may_come setting s e ≡ true
event_of setting s (event.Opened n address) may = absurd may
event_of setting s (event.Sent n bytes) may = at_of setting s (event.Sent n bytes) may.i may.l may.on may.others (piece_of setting s bytes may.i may.l may.l.saying.unsent may.piece)
event_of setting s (event.Heard n bytes) may =
    at_of setting s (event.Heard n bytes) may.0.i may.0.l may.0.on may.0.others
    (and_true (may_receive setting s may.0.i may.0.l) (not (is_empty bytes) && nat_le (length bytes) most_received) (receive_of setting s n may.0) (and_true (not (is_empty bytes)) (nat_le (length bytes) most_received) (some_of bytes may.1.0) (few_of (length bytes) may.1.1)))
event_of setting s (event.Quiet n) may = at_of setting s (event.Quiet n) may.i may.l may.on may.others (receive_of setting s n may)
event_of setting s (event.Ended n) may = at_of setting s (event.Ended n) may.i may.l may.on may.others refl

pub lawful_of : (setting : Setting) (s : Standing) (events : List LinkEvent) → IsLawful setting s events → is_lawful setting s events ≡ true
lawful_of setting s [] lawful = refl
lawful_of setting s (e ∷ events) lawful = and_true (may_come setting s e) (is_lawful setting (moved setting s e) events) (event_of setting s e lawful.0) (lawful_of setting (moved setting s e) events lawful.1)

-- what isn't computed to be lawful isn't
pub unlawful : (setting : Setting) (s : Standing) (events : List LinkEvent) → is_lawful setting s events ≡ false → IsLawful setting s events → ⊥
unlawful setting s events is lawful = let no : true ≡ false = sym (lawful_of setting s events lawful) ∙ is in cc

pub lawful_is_computed : LawfulIsComputed
lawful_is_computed setting s events = (lawful_is setting s events, lawful_of setting s events)

-- ---- the end

not_true_is : (a : Bool) → not a ≡ true → a ≡ false
not_true_is true is = cc
not_true_is false is = refl

nothing_is : {A : Type 0} (xs : List A) → is_empty xs ≡ true → xs ≡ []
nothing_is [] is = refl
nothing_is (x ∷ xs) is = cc

quit_is : (l : LinkNow) → (is_over l || (not (is_ready l) || (l.saying.quits && is_empty l.saying.unsent))) ≡ true → HasQuit l
quit_is l is = elim (or_parts (is_over l) (not (is_ready l) || (l.saying.quits && is_empty l.saying.unsent)) is) [
  | inl over ↦ inl over
  | inr rest ↦ elim (or_parts (not (is_ready l)) (l.saying.quits && is_empty l.saying.unsent) rest) [
    | inl unready ↦ inr (inl (not_true_is (is_ready l) unready))
    | inr said ↦ (let two = and_parts l.saying.quits (is_empty l.saying.unsent) said in inr (inr (two.0, nothing_is l.saying.unsent two.1)))
  ]
]

quit_of : (l : LinkNow) → HasQuit l → (is_over l || (not (is_ready l) || (l.saying.quits && is_empty l.saying.unsent))) ≡ true
quit_of l (inl over) = or_first (is_over l) (not (is_ready l) || (l.saying.quits && is_empty l.saying.unsent)) over
quit_of l (inr (inl unready)) = or_second (is_over l) (not (is_ready l) || (l.saying.quits && is_empty l.saying.unsent)) (or_first (not (is_ready l)) (l.saying.quits && is_empty l.saying.unsent) (not_false (is_ready l) unready))
quit_of l (inr (inr said)) =
    or_second (is_over l) (not (is_ready l) || (l.saying.quits && is_empty l.saying.unsent)) (or_second (not (is_ready l)) (l.saying.quits && is_empty l.saying.unsent) (and_true l.saying.quits (is_empty l.saying.unsent) said.0 (empty_of l.saying.unsent said.1)))

quits_are : (links : List LinkNow) → have_quit links ≡ true → (k : ℕ) (l : LinkNow) → slice_get links k ≡ Some l → HasQuit l
quits_are [] is k l there = cc
quits_are (a ∷ links) is k l there =
    let two = and_parts (is_over a || (not (is_ready a) || (a.saying.quits && is_empty a.saying.unsent))) (have_quit links) is in
    by k there two.0 (λ j later. quits_are links two.1 j l later)
  where
    by : (j : ℕ) → slice_get (a ∷ links) j ≡ Some l → (is_over a || (not (is_ready a) || (a.saying.quits && is_empty a.saying.unsent))) ≡ true → ((n : ℕ) → slice_get links n ≡ Some l → HasQuit l) → HasQuit l
    by zero here first rest = let same : a ≡ l = cc in subst HasQuit same (quit_is a first)
    by (suc j) here first rest = rest j here

quits_of : (links : List LinkNow) → ((k : ℕ) (l : LinkNow) → slice_get links k ≡ Some l → HasQuit l) → have_quit links ≡ true
quits_of [] all = refl
quits_of (a ∷ links) all = and_true (is_over a || (not (is_ready a) || (a.saying.quits && is_empty a.saying.unsent))) (have_quit links) (quit_of a (all 0 a refl)) (quits_of links (λ k l there. all (suc k) l there))

pub end_is_computed : EndIsComputed
end_is_computed setting s = (
  (λ is. (let two = and_parts (is_finished (pipeline_of setting s.links)) (have_quit s.links) is in record { finished = two.0; quits = quits_are s.links two.1 })),
  (λ at. and_true (is_finished (pipeline_of setting s.links)) (have_quit s.links) at.finished (quits_of s.links at.quits)),
)
