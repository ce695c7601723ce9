-- What each call leaves.
use Rattle.std.proofs.Common.{◌≡◌, ◌≢◌, ◌+◌, ◌<◌, ◌≤◌, inl, inr, zero, suc, ℕ, Bool, true, false, List, [], ◌∷◌, ◌++◌, Option, Some, None, length, drop, refl, ap, sym, subst, ◌∙◌, arith, set, length-set, length-append, zero-add, append-nil, replicate, map, take}
use Rattle.std.specs.Prelude.{slice_get, slice_index, cond, nat_lt, ◌==◌}
use Rattle.std.proofs.Math.ListN.{length-map, length-replicate}
use Rattle.std.proofs.lemmas.Bool.Decides.{nat_tests}
use Rattle.std.proofs.lemmas.Bool.{cases_lt, cases_eq}
use Rattle.std.proofs.lemmas.Option.{slice_get_within}
use Rattle.lists.specs.Edit.{edit_at}
use Rattle.pipeline_core.specs.SegmentAt.{SegmentAt}
use Rattle.pipeline_core.specs.LinkAt.{LinkAt}
use Rattle.pipeline_core.specs.Links.{times, times_asked, holder, holder_from, with_asked, without_oldest, with_end, fresh_link}
use Rattle.pipeline_core.specs.PipelineAt.{Pipeline}
use Rattle.pipeline_core.specs.Searches.{is_arrived_at, is_answered_at, forgotten_at, without_link}
use Rattle.pipeline_core.specs.declared.state.Outcome.{Outcome}
use Rattle.pipeline_core.specs.Pipeline.{unanswered, with_arrival, with_links, with_outcome, server_on, server_of, after_reply, after_settling}
use Rattle.pipeline_core.specs.Sound.{AreIdle, IsExclusive, IsLimited, AreSoundLists}
use Rattle.lists.proofs.OnePlace.{get-set_other, get-set_same}
use Rattle.pipeline_core.proofs.Exclusive.{set-edit, times-append, times-set, no_holder, none_held, holder-kept, holder-new, holder-here, one_of_all}
use Rattle.pipeline_core.proofs.Free.{IsNext}
use Rattle.limits.specs.declared.TheConstants.{MOST_DEPTH, MOST_LINKS, MOST_SEGMENTS, MOST_SERVERS}

limited-set : (links : List LinkAt) (segments after : List SegmentAt) (levels : List ℕ) (depth i : ℕ) (old new : LinkAt) → IsLimited links segments levels depth → slice_get links i ≡ Some old → new.server ≡ old.server → length new.asked ≤ depth → length after ≡ length segments → IsLimited (set links i new) after levels depth
limited-set links segments after levels depth i old new limited is server few same = record {
  few_servers = limited.few_servers;
  few_links = rw length-set limited.few_links;
  few_segments = rw same limited.few_segments;
  small_depth = limited.small_depth;
  each = λ k link read. elim (cases_eq k i) [
    | inl e ↦ (let there : slice_get (set links i new) i ≡ Some link = ap (λ n. slice_get (set links i new) n) (sym e) ∙ read in
        let found : Some new ≡ Some link = sym (get-set_same links i new old is) ∙ there in
        let this : new ≡ link = cc in
        let was = limited.each i old is in
        let small : new.server < length levels = rw server was.0 in
        subst (λ (l : LinkAt). (l.server < length levels) × (length l.asked ≤ depth)) this (small, few))
    | inr other ↦ limited.each k link (sym (get-set_other links i k new other) ∙ read)
  ];
}

-- what is outstanding on no link was answered by its server, and what is outstanding on the changed one wasn't
unanswered-set : (links : List LinkAt) (segments after : List SegmentAt) (i : ℕ) (old new : LinkAt) → ((k s : ℕ) (link : LinkAt) → k ≢ i → slice_get links k ≡ Some link → 0 < times s link.asked → is_answered_at link.server (slice_get after s) ≡ false) → slice_get links i ≡ Some old → ((s : ℕ) → 0 < times s new.asked → is_answered_at new.server (slice_get after s) ≡ false) → (k s : ℕ) (link : LinkAt) → slice_get (set links i new) k ≡ Some link → 0 < times s link.asked → is_answered_at link.server (slice_get after s) ≡ false
unanswered-set links segments after i old new others is own k s link read held = elim (cases_eq k i) [
  | inl e ↦ (let there : slice_get (set links i new) i ≡ Some link = ap (λ n. slice_get (set links i new) n) (sym e) ∙ read in
      let found : Some new ≡ Some link = sym (get-set_same links i new old is) ∙ there in
      let this : new ≡ link = cc in
      subst (λ (l : LinkAt). 0 < times s l.asked → is_answered_at l.server (slice_get after s) ≡ false) this (own s) held)
  | inr other ↦ others k s link other (sym (get-set_other links i k new other) ∙ read) held
]

-- a link that is over still holds nothing, and so does the changed one, where it is over
idle-set : (links : List LinkAt) (i : ℕ) (old new : LinkAt) → AreIdle links → slice_get links i ≡ Some old → (new.over ≡ true → new.asked ≡ []) → AreIdle (set links i new)
idle-set links i old new idle is own k link read over = elim (cases_eq k i) [
  | inl e ↦ (let there : slice_get (set links i new) i ≡ Some link = ap (λ n. slice_get (set links i new) n) (sym e) ∙ read in
      let found : Some new ≡ Some link = sym (get-set_same links i new old is) ∙ there in
      let this : new ≡ link = cc in
      subst (λ (l : LinkAt). l.over ≡ true → l.asked ≡ []) this own over)
  | inr other ↦ idle k link (sym (get-set_other links i k new other) ∙ read) over
]

-- a link changes, and what is outstanding on it doesn't
pub sound-same : (links : List LinkAt) (segments : List SegmentAt) (holders : List (Option ℕ)) (levels : List ℕ) (depth i : ℕ) (old new : LinkAt) → AreSoundLists links segments holders levels depth → slice_get links i ≡ Some old → new.server ≡ old.server → new.asked ≡ old.asked → new.over ≡ old.over → AreSoundLists (set links i new) segments holders levels depth
sound-same links segments holders levels depth i old new sound is server asked end =
    let stays : (s : ℕ) → times_asked (set links i new) s ≡ times_asked links s = λ s.
    (let sums : times_asked (set links i new) s + times s old.asked ≡ times_asked links s + times s new.asked = times-set links i s old new is in
    let same : times s new.asked ≡ times s old.asked = ap (times s) asked in omega arith) in
    let was = sound.limited.each i old is in
    record {
      exclusive = record {
        once = λ s. rw (stays s) (sound.exclusive.once s);
        none_arrived = λ s here. stays s ∙ sound.exclusive.none_arrived s here;
        within = λ s past. stays s ∙ sound.exclusive.within s past;
      };
      unanswered = unanswered-set links segments segments i old new (λ k s link other. sound.unanswered k s link) is
          (λ s held. let same : times s new.asked ≡ times s old.asked = ap (times s) asked in ap (λ (v : ℕ). is_answered_at v (slice_get segments s)) server ∙ sound.unanswered i s old is (omega (arith, same, held)));
      idle = idle-set links i old new sound.idle is (λ over. asked ∙ sound.idle i old is (sym end ∙ over));
      limited = limited-set links segments segments levels depth i old new sound.limited is server (rw asked was.1) refl;
      held = record {
        same = sound.held.same;
        each = λ s below. sound.held.each s below ∙ ap (λ t. Some t) (sym (holder-kept 0 links i s old new is (ap (times s) asked)));
      };
    }

pub one_time : (s : ℕ) → times s (s ∷ []) ≡ 1
one_time s = let test : (s == s) ≡ true = grind (arith, nat_tests) in rw test refl

pub no_time : (s k : ℕ) → k ≢ s → times k (s ∷ []) ≡ 0
no_time s k other = let test : (s == k) ≡ false = grind (arith, nat_tests) in rw test refl

-- a link asks for its next segment
pub sound-next : (p : Pipeline) (holders : List (Option ℕ)) (i k : ℕ) (old : LinkAt) → AreSoundLists p.links p.segments holders p.levels p.depth → slice_get p.links i ≡ Some old → IsNext p old k → AreSoundLists (set p.links i (with_asked k old)) p.segments (set holders k (Some i)) p.levels p.depth
sound-next p holders i k old sound is next =
    let new : LinkAt = with_asked k old in
    let free : times_asked p.links k ≡ 0 = none_held 0 p.links k next.unheld in
    let sums : (s : ℕ) → times_asked (set p.links i new) s + times s old.asked ≡ times_asked p.links s + times s new.asked = λ s. times-set p.links i s old new is in
    let more : (s : ℕ) → times s new.asked ≡ times s old.asked + times s (k ∷ []) = λ s. times-append s old.asked (k ∷ []) in
    let here : times_asked (set p.links i new) k ≡ 1 = omega (arith, sums k, more k, one_time k) in
    let there : (s : ℕ) → s ≢ k → times_asked (set p.links i new) s ≡ times_asked p.links s = λ s other. omega (arith, sums s, more s, no_time k s other) in
    record {
      exclusive = record {
        once = λ s. elim (cases_eq s k) [
          | inl e ↦ (let at : times_asked (set p.links i new) s ≡ 1 = ap (times_asked (set p.links i new)) e ∙ here in omega arith)
          | inr other ↦ rw (there s other) (sound.exclusive.once s)
        ];
        none_arrived = λ s arrived. elim (cases_eq s k) [
          | inl e ↦ (let no : true ≡ false = sym arrived ∙ ap (λ n. is_arrived_at (slice_get p.segments n)) e ∙ next.not_arrived in cc)
          | inr other ↦ there s other ∙ sound.exclusive.none_arrived s arrived
        ];
        within = λ s past. there s (λ e. absurd (omega (arith, e, next.below))) ∙ sound.exclusive.within s past;
      };
      unanswered = unanswered-set p.links p.segments p.segments i old new (λ j s link other. sound.unanswered j s link) is
          (λ s held. elim (cases_eq s k) [
            | inl e ↦ ap (λ n. is_answered_at old.server (slice_get p.segments n)) e ∙ next.not_answered
            | inr other ↦ sound.unanswered i s old is (omega (arith, more s, no_time k s other, held))
          ]);
      idle = idle-set p.links i old new sound.idle is (λ over. let no_way : true ≡ false = sym over ∙ next.live in cc);
      limited = limited-set p.links p.segments p.segments p.levels p.depth i old new sound.limited is refl (rw length-append (omega (arith, next.room))) refl;
      held = record {
        same = length-set holders k (Some i) ∙ sound.held.same;
        each = λ s below. elim (cases_eq s k) [
          | inl e ↦ (let read : slice_get holders k ≡ Some (holder p.links k) = sound.held.each k next.below in
              ap (λ n. slice_get (set holders k (Some i)) n) e ∙ get-set_same holders k (Some i) (holder p.links k) read
              ∙ ap (λ t. Some t) (sym (holder-new 0 p.links i k old new is free (omega (arith, more k, one_time k)) ∙ ap (λ n. Some n) (zero-add i)) ∙ ap (λ n. holder (set p.links i new) n) (sym e)))
          | inr other ↦ get-set_other holders k s (Some i) other ∙ sound.held.each s below
              ∙ ap (λ t. Some t) (sym (holder-kept 0 p.links i s old new is (omega (arith, more s, no_time k s other))))
        ];
      };
    }

pub first_place : (xs : List ℕ) (x : ℕ) → slice_get xs 0 ≡ Some x → xs ≡ x ∷ drop 1 xs
first_place [] x is = cc
first_place (y ∷ ys) x is = let same : y ≡ x = cc in rw same refl

arrived-set : (segments : List SegmentAt) (k s : ℕ) (old new : SegmentAt) → slice_get segments k ≡ Some old → s ≢ k → is_arrived_at (slice_get (set segments k new) s) ≡ is_arrived_at (slice_get segments s)
arrived-set segments k s old new is other = ap is_arrived_at (get-set_other segments k s new other)

-- the oldest segment of a link is answered
pub sound-reply : (links : List LinkAt) (segments : List SegmentAt) (holders : List (Option ℕ)) (levels : List ℕ) (depth i k : ℕ) (old : LinkAt) (was now : SegmentAt) → AreSoundLists links segments holders levels depth → slice_get links i ≡ Some old → slice_get old.asked 0 ≡ Some k → slice_get segments k ≡ Some was → AreSoundLists (set links i (without_oldest old)) (set segments k now) (set holders k None) levels depth
sound-reply links segments holders levels depth i k old was now sound is first there =
    let new : LinkAt = without_oldest old in
    let parts : old.asked ≡ k ∷ drop 1 old.asked = first_place old.asked k first in
    let less : (s : ℕ) → times s old.asked ≡ times s (k ∷ []) + times s new.asked = λ s. ap (times s) parts ∙ times-append s (k ∷ []) (drop 1 old.asked) in
    let sums : (s : ℕ) → times_asked (set links i new) s + times s old.asked ≡ times_asked links s + times s new.asked = λ s. times-set links i s old new is in
    let here : times_asked (set links i new) k ≡ 0 = omega (arith, sums k, less k, one_time k, sound.exclusive.once k) in
    let elsewhere : (s : ℕ) → s ≢ k → times_asked (set links i new) s ≡ times_asked links s = λ s other. omega (arith, sums s, less s, no_time k s other) in
    let below_k : k < length segments = slice_get_within segments k was there in
    let fits = sound.limited.each i old is in
    let shorter : length old.asked ≡ length (k ∷ []) + length new.asked = ap (λ (t : List ℕ). length t) parts ∙ length-append (k ∷ []) (drop 1 old.asked) in
    record {
      exclusive = record {
        once = λ s. elim (cases_eq s k) [
          | inl e ↦ (let at : times_asked (set links i new) s ≡ 0 = ap (times_asked (set links i new)) e ∙ here in omega arith)
          | inr other ↦ rw (elsewhere s other) (sound.exclusive.once s)
        ];
        none_arrived = λ s arrived. elim (cases_eq s k) [
          | inl e ↦ ap (times_asked (set links i new)) e ∙ here
          | inr other ↦ elsewhere s other ∙ sound.exclusive.none_arrived s (sym (arrived-set segments k s was now there other) ∙ arrived)
        ];
        within = λ s past. let far : length segments ≤ s = rw (← length-set segments k now) past in elsewhere s (λ e. absurd (omega (arith, e))) ∙ sound.exclusive.within s far;
      };
      unanswered = λ j s link read held. elim (cases_eq s k) [
        | inl e ↦ absurd (let most = one_of_all (set links i new) j s link read in let none : times_asked (set links i new) s ≡ 0 = ap (times_asked (set links i new)) e ∙ here in omega (arith, most, none, held))
        | inr other ↦ ap (is_answered_at link.server) (get-set_other segments k s now other) ∙ unanswered-set links segments segments i old new (λ j s link differ. sound.unanswered j s link) is (λ s held. sound.unanswered i s old is (omega (arith, less s, held))) j s link read held
      ];
      idle = idle-set links i old new sound.idle is (λ over. ap (λ (xs : List ℕ). drop 1 xs) (sound.idle i old is over));
      limited = limited-set links segments (set segments k now) levels depth i old new sound.limited is refl (omega (arith, fits.1)) (length-set segments k now);
      held = record {
        same = length-set holders k None ∙ sound.held.same ∙ sym (length-set segments k now);
        each = λ s below. let under : s < length segments = rw (← length-set segments k now) below in elim (cases_eq s k) [
          | inl e ↦ (let read : slice_get holders k ≡ Some (holder links k) = sound.held.each k below_k in
              ap (λ n. slice_get (set holders k None) n) e ∙ get-set_same holders k None (holder links k) read
              ∙ ap (λ t. Some t) (sym (no_holder 0 (set links i new) k here) ∙ ap (λ n. holder (set links i new) n) (sym e)))
          | inr other ↦ get-set_other holders k s None other ∙ sound.held.each s under
              ∙ ap (λ t. Some t) (sym (holder-kept 0 links i s old new is (sym (omega (arith, less s, no_time k s other)))))
        ];
      };
    }

forgotten_other : (i : ℕ) (h : Option ℕ) → h ≢ Some i → without_link i h ≡ h
forgotten_other i None other = refl
forgotten_other i (Some l) other = let test : (l == i) ≡ false = let differ : l ≢ i = λ e. other (ap (λ n. Some n) e) in grind (arith, nat_tests) in rw test refl

forgotten_this : (i : ℕ) → without_link i (Some i) ≡ None
forgotten_this i = let test : (i == i) ≡ true = grind (arith, nat_tests) in rw test refl

above_by : (n x : ℕ) (b : Bool) (o : Option ℕ) → (o ≡ Some x → n ≤ x) → cond b (Some n) o ≡ Some x → n ≤ x
above_by n x true o later is = let same : n ≡ x = cc in omega arith
above_by n x false o later is = later is

holder_above : (n : ℕ) (links : List LinkAt) (s x : ℕ) → holder_from n links s ≡ Some x → n ≤ x
holder_above n [] s x is = cc
holder_above n (link ∷ links) s x is = above_by n x (nat_lt 0 (times s link.asked)) (holder_from (n + 1) links s) (λ e. omega (arith, holder_above (n + 1) links s x e)) is

held_at : (n : ℕ) (links : List LinkAt) (i s : ℕ) (old : LinkAt) → slice_get links i ≡ Some old → holder_from n links s ≡ Some (n + i) → 0 < times s old.asked
held_at n [] i s old is held = cc
held_at n (link ∷ links) zero s old is held = elim (cases_lt 0 (times s link.asked)) [
  | inl some ↦ (let same : link ≡ old = cc in let P : LinkAt → Type 0 = λ l. 0 < times s l.asked in subst P same some)
  | inr few ↦ (let test : nat_lt 0 (times s link.asked) ≡ false = grind (arith, nat_tests) in
      absurd (omega (arith, holder_above (n + 1) links s (n + 0) (sym (rw test refl) ∙ held))))
]
held_at n (link ∷ links) (suc i) s old is held = elim (cases_lt 0 (times s link.asked)) [
  | inl some ↦ (let test : nat_lt 0 (times s link.asked) ≡ true = grind (arith, nat_tests) in
      let same : Some n ≡ Some (n + suc i) = sym (rw test refl) ∙ held in
      let equal : n ≡ n + suc i = cc in absurd (omega arith))
  | inr few ↦ (let test : nat_lt 0 (times s link.asked) ≡ false = grind (arith, nat_tests) in
      let next : (n + 1) + i ≡ n + suc i = omega arith in
      held_at (n + 1) links i s old is (sym (rw test refl) ∙ held ∙ ap (λ t. Some t) (sym next)))
]

-- a link is lost
pub sound-over : (links : List LinkAt) (segments : List SegmentAt) (holders after : List (Option ℕ)) (levels : List ℕ) (depth i : ℕ) (old : LinkAt) → AreSoundLists links segments holders levels depth → slice_get links i ≡ Some old → length after ≡ length holders → ((k : ℕ) → slice_get after k ≡ forgotten_at i (slice_get holders k)) → AreSoundLists (set links i (with_end old)) segments after levels depth
sound-over links segments holders after levels depth i old sound is same each =
    let new : LinkAt = with_end old in
    let sums : (s : ℕ) → times_asked (set links i new) s + times s old.asked ≡ times_asked links s = λ s. omega (arith, times-set links i s old new is) in
    record {
      exclusive = record {
        once = λ s. omega (arith, sums s, sound.exclusive.once s);
        none_arrived = λ s arrived. omega (arith, sums s, sound.exclusive.none_arrived s arrived);
        within = λ s past. omega (arith, sums s, sound.exclusive.within s past);
      };
      unanswered = unanswered-set links segments segments i old new (λ j s link other. sound.unanswered j s link) is (λ s held. absurd (omega (arith, held)));
      idle = idle-set links i old new sound.idle is (λ over. refl);
      limited = limited-set links segments segments levels depth i old new sound.limited is refl (omega arith) refl;
      held = record {
        same = same ∙ sound.held.same;
        each = λ s below. each s ∙ ap (forgotten_at i) (sound.held.each s below) ∙ elim (cases_lt 0 (times s old.asked)) [
          | inl some ↦ (let gone : times_asked (set links i new) s ≡ 0 = omega (arith, sums s, sound.exclusive.once s) in
              ap (λ t. Some t) (ap (without_link i) (holder-here 0 links i s old is (sound.exclusive.once s) some ∙ ap (λ n. Some n) (zero-add i)) ∙ forgotten_this i ∙ sym (no_holder 0 (set links i new) s gone)))
          | inr few ↦ (let none : times s old.asked ≡ 0 = omega arith in
              ap (λ t. Some t) (forgotten_other i (holder links s) (λ e. absurd (omega (arith, held_at 0 links i s old is (e ∙ ap (λ n. Some n) (sym (zero-add i)))))) ∙ sym (holder-kept 0 links i s old new is (sym none))))
        ];
      };
    }

-- a segment that no link holds has arrived
pub sound-settling : (links : List LinkAt) (segments : List SegmentAt) (holders : List (Option ℕ)) (levels : List ℕ) (depth k : ℕ) (was : SegmentAt) → AreSoundLists links segments holders levels depth → slice_get segments k ≡ Some was → holder links k ≡ None → AreSoundLists links (set segments k (with_arrival was)) holders levels depth
sound-settling links segments holders levels depth k was sound there unheld =
    let now : SegmentAt = with_arrival was in
    let free : times_asked links k ≡ 0 = none_held 0 links k unheld in
    record {
      exclusive = record {
        once = sound.exclusive.once;
        none_arrived = λ s arrived. elim (cases_eq s k) [
          | inl e ↦ ap (times_asked links) e ∙ free
          | inr other ↦ sound.exclusive.none_arrived s (sym (arrived-set segments k s was now there other) ∙ arrived)
        ];
        within = λ s past. sound.exclusive.within s (rw (← length-set segments k now) past);
      };
      unanswered = λ j s link read held. elim (cases_eq s k) [
        | inl e ↦ absurd (let most = one_of_all links j s link read in let none : times_asked links s ≡ 0 = ap (times_asked links) e ∙ free in omega (arith, most, none, held))
        | inr other ↦ ap (is_answered_at link.server) (get-set_other segments k s now other) ∙ sound.unanswered j s link read held
      ];
      idle = sound.idle;
      limited = record {
        few_servers = sound.limited.few_servers;
        few_links = sound.limited.few_links;
        few_segments = rw length-set sound.limited.few_segments;
        small_depth = sound.limited.small_depth;
        each = sound.limited.each;
      };
      held = record {
        same = sound.held.same ∙ sym (length-set segments k now);
        each = λ s below. sound.held.each s (rw (← length-set segments k now) below);
      };
    }

-- a core of which nothing was asked
pub no_times : (servers : List ℕ) (s : ℕ) → times_asked (map fresh_link servers) s ≡ 0
no_times [] s = refl
no_times (server ∷ servers) s = let rest : times_asked (map fresh_link servers) s ≡ 0 = no_times servers s in omega arith

pub get-replicate : {A : Type 0} (n k : ℕ) (x : A) → k < n → slice_get (replicate n x) k ≡ Some x
get-replicate zero k x below = absurd (omega arith)
get-replicate (suc n) zero x below = refl
get-replicate (suc n) (suc k) x below = get-replicate n k x (omega arith)

none_arrived_in : (n k : ℕ) → is_arrived_at (slice_get (replicate n unanswered) k) ≡ false
none_arrived_in zero k = refl
none_arrived_in (suc n) zero = refl
none_arrived_in (suc n) (suc k) = none_arrived_in n k

fresh_each : (server_of_link : List ℕ) (servers depth k : ℕ) (link : LinkAt) → ((j : ℕ) → j < length server_of_link → slice_index server_of_link j < servers) → slice_get (map fresh_link server_of_link) k ≡ Some link → (link.server < servers) × (length link.asked ≤ depth)
fresh_each [] servers depth k link each is = cc
fresh_each (server ∷ rest) servers depth zero link each is =
    let same : fresh_link server ≡ link = cc in
    let low : server < servers = each 0 (omega arith) in
    let P : LinkAt → Type 0 = λ l. (l.server < servers) × (length l.asked ≤ depth) in
    subst P same (low, omega arith)
fresh_each (server ∷ rest) servers depth (suc k) link each is = fresh_each rest servers depth k link (λ j below. each (suc j) (omega arith)) is

fresh_idle : (servers : List ℕ) (k : ℕ) (link : LinkAt) → slice_get (map fresh_link servers) k ≡ Some link → link.asked ≡ []
fresh_idle [] k link is = cc
fresh_idle (server ∷ rest) zero link is = let same : fresh_link server ≡ link = cc in ap (λ (l : LinkAt). l.asked) (sym same)
fresh_idle (server ∷ rest) (suc k) link is = fresh_idle rest k link is

pub sound-start : (server_of_link levels : List ℕ) (n depth : ℕ) → length levels ≤ MOST_SERVERS → length server_of_link ≤ MOST_LINKS → n ≤ MOST_SEGMENTS → depth ≤ MOST_DEPTH → ((j : ℕ) → j < length server_of_link → slice_index server_of_link j < length levels) → AreSoundLists (map fresh_link server_of_link) (replicate n unanswered) (replicate n None) levels depth
sound-start server_of_link levels n depth few_servers few_links few small each = record {
  exclusive = record {
    once = λ s. rw (no_times server_of_link s) (omega arith);
    none_arrived = λ s arrived. no_times server_of_link s;
    within = λ s past. no_times server_of_link s;
  };
  unanswered = λ k s link read held. absurd (let most = one_of_all (map fresh_link server_of_link) k s link read in let none = no_times server_of_link s in omega (arith, most, none, held));
  idle = λ k link read over. fresh_idle server_of_link k link read;
  limited = record {
    few_servers = few_servers;
    few_links = rw length-map few_links;
    few_segments = rw length-replicate few;
    small_depth = small;
    each = λ k link is. fresh_each server_of_link (length levels) depth k link each is;
  };
  held = record {
    same = length-replicate n None ∙ sym (length-replicate n unanswered);
    each = λ s below. let under : s < n = rw (← length-replicate n unanswered) below in get-replicate n s None under ∙ ap (λ t. Some t) (sym (no_holder 0 (map fresh_link server_of_link) s (no_times server_of_link s)));
  };
}

-- a core in which one link changed
pub view-link : (links : List LinkAt) (segments : List SegmentAt) (levels : List ℕ) (depth i : ℕ) (f : LinkAt → LinkAt) (old new : LinkAt) → slice_get links i ≡ Some old → new ≡ f old → with_links record { links = links; segments = segments; levels = levels; depth = depth } (set links i new) ≡ with_links record { links = links; segments = segments; levels = levels; depth = depth } (edit_at i f links)
view-link links segments levels depth i f old new is made =
    ap (with_links record { links = links; segments = segments; levels = levels; depth = depth }) (ap (λ (l : LinkAt). set links i l) made ∙ set-edit links i f old is)

-- a core in which the oldest segment of a link was answered
pub view-reply : (p : Pipeline) (i k : ℕ) (outcome : Outcome) (old : LinkAt) (was now : SegmentAt) → slice_get p.links i ≡ Some old → slice_get p.segments k ≡ Some was → now ≡ with_outcome old.server outcome was → record { links = set p.links i (without_oldest old); segments = set p.segments k now; levels = p.levels; depth = p.depth } ≡ after_reply p i k outcome
view-reply p i k outcome old was now is there made =
    let links : set p.links i (without_oldest old) ≡ edit_at i without_oldest p.links = set-edit p.links i without_oldest old is in
    let server : server_on p i ≡ old.server = ap server_of is in
    let segments : set p.segments k now ≡ edit_at k (with_outcome (server_on p i) outcome) p.segments =
    ap (λ (s : SegmentAt). set p.segments k s) made ∙ set-edit p.segments k (with_outcome old.server outcome) was there ∙ ap (λ v. edit_at k (with_outcome v outcome) p.segments) (sym server) in
    ap (λ (ls : List LinkAt). record { links = ls; segments = set p.segments k now; levels = p.levels; depth = p.depth }) links
    ∙ ap (λ (ss : List SegmentAt). record { links = edit_at i without_oldest p.links; segments = ss; levels = p.levels; depth = p.depth }) segments

-- a core in which a segment arrived that no link holds
pub view-settling : (p : Pipeline) (k : ℕ) (was now : SegmentAt) → slice_get p.segments k ≡ Some was → now ≡ with_arrival was → record { links = p.links; segments = set p.segments k now; levels = p.levels; depth = p.depth } ≡ after_settling p k
view-settling p k was now there made =
    ap (λ (ss : List SegmentAt). record { links = p.links; segments = ss; levels = p.levels; depth = p.depth }) (ap (λ (s : SegmentAt). set p.segments k s) made ∙ set-edit p.segments k with_arrival was there)

drop_whole : {A : Type 0} (xs : List A) → drop (length xs) xs ≡ []
drop_whole [] = refl
drop_whole (x ∷ xs) = drop_whole xs

take_whole : {A : Type 0} (xs : List A) → take (length xs) xs ≡ xs
take_whole [] = refl
take_whole (x ∷ xs) = ap (λ t. x ∷ t) (take_whole xs)

-- what a slice of a whole vector leaves
pub written_whole : {A : Type 0} (n : ℕ) (xs ys : List A) → length ys ≡ n → length xs ≡ length ys → take n (xs ++ drop (length xs) ys) ≡ xs
written_whole n xs ys whole same =
    let rest : drop (length xs) ys ≡ [] = ap (λ k. drop k ys) same ∙ drop_whole ys in
    ap (λ t. take n (xs ++ t)) rest ∙ ap (λ t. take n t) (append-nil xs) ∙ ap (λ k. take k xs) (sym whole ∙ sym same) ∙ take_whole xs

pub oldest_within : (links : List LinkAt) (segments : List SegmentAt) (i k : ℕ) (old : LinkAt) → IsExclusive links segments → slice_get links i ≡ Some old → slice_get old.asked 0 ≡ Some k → k < length segments
oldest_within links segments i k old exclusive is first = elim (cases_lt k (length segments)) [
  | inl below ↦ below
  | inr past ↦ (let parts : times k old.asked ≡ times k (k ∷ []) + times k (drop 1 old.asked) = ap (times k) (first_place old.asked k first) ∙ times-append k (k ∷ []) (drop 1 old.asked) in
      absurd (omega (arith, exclusive.within k past, one_of_all links i k old is, parts, one_time k)))
]
