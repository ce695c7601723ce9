-- A link that has nothing to ask for has nothing to ask for after another link asked.
use Rattle.std.proofs.Common.{◌≡◌, ◌≢◌, ◌+◌, ◌<◌, inl, inr, zero, suc, ℕ, Bool, true, false, not, ◌&&◌, ◌||◌, List, [], ◌∷◌, ◌++◌, Option, Some, None, length, refl, ap, sym, ◌∙◌, arith}
use Rattle.std.specs.Prelude.{slice_get, cond, nat_lt, ◌==◌, is_some}
use Rattle.std.proofs.lemmas.Bool.Decides.{nat_tests}
use Rattle.std.proofs.lemmas.Bool.{cases_lt}
use Rattle.lists.specs.Edit.{edit_at}
use Rattle.pipeline_core.specs.LinkAt.{LinkAt}
use Rattle.pipeline_core.specs.Links.{may_ask, has_link_left, holder, holder_from, times, with_asked, with_end}
use Rattle.pipeline_core.specs.PipelineAt.{Pipeline}
use Rattle.pipeline_core.specs.Searches.{all_from, first_from, is_done_with, is_arrived_at, is_answered_at, is_below, lets_pass}
use Rattle.pipeline_core.specs.Pipeline.{is_spent, is_turn, state_by, is_open, can_be_asked, next_segment, next_on, after_next, after_over, with_links}
use Rattle.pipeline_core.proofs.Exclusive.{times-append}

pub get-edit_other : {A : Type 0} (xs : List A) (i k : ℕ) (f : A → A) → k ≢ i → slice_get (edit_at i f xs) k ≡ slice_get xs k
get-edit_other [] i k f other = refl
get-edit_other (y ∷ xs) zero zero f other = absurd (other refl)
get-edit_other (y ∷ xs) zero (suc k) f other = refl
get-edit_other (y ∷ xs) (suc i) zero f other = refl
get-edit_other (y ∷ xs) (suc i) (suc k) f other = get-edit_other xs i k f (λ e. other (ap (λ n. suc n) e))

left-same : (links : List LinkAt) (i k server : ℕ) → has_link_left (edit_at i (with_asked k) links) server ≡ has_link_left links server
left-same [] i k server = refl
left-same (link ∷ links) zero k server = refl
left-same (link ∷ links) (suc i) k server = ap (λ b. ((link.server == server) && not link.over) || b) (left-same links i k server)

all_agree : (test other : ℕ → Bool) (start count : ℕ) → ((n : ℕ) → test n ≡ other n) → all_from test start count ≡ all_from other start count
all_agree test other start zero agree = refl
all_agree test other start (suc count) agree = rw (agree start, all_agree test other (start + 1) count agree) refl

held_if : (n : ℕ) (o after : Option ℕ) (b : Bool) → (is_some o ≡ true → is_some after ≡ true) → is_some (cond b (Some n) o) ≡ true → is_some (cond b (Some n) after) ≡ true
held_if n o after true stays held = refl
held_if n o after false stays held = stays held

-- a segment that is held stays held
held_stays : (n : ℕ) (links : List LinkAt) (i k s : ℕ) → is_some (holder_from n links s) ≡ true → is_some (holder_from n (edit_at i (with_asked k) links) s) ≡ true
held_stays n [] i k s held = held
held_stays n (link ∷ links) zero k s held = elim (cases_lt 0 (times s link.asked)) [
  | inl some ↦ (let grown : nat_lt 0 (times s (link.asked ++ k ∷ [])) ≡ true = let sum = times-append s link.asked (k ∷ []) in let more : 0 < times s (link.asked ++ k ∷ []) = omega arith in grind (arith, nat_tests) in rw grown refl)
  | inr none ↦ (let test : nat_lt 0 (times s link.asked) ≡ false = grind (arith, nat_tests) in
      let rest : is_some (holder_from (n + 1) links s) ≡ true = sym (rw test refl) ∙ held in
      elim (nat_lt 0 (times s (link.asked ++ k ∷ []))) as (λ b. is_some (cond b (Some n) (holder_from (n + 1) links s)) ≡ true) [ true ↦ refl | false ↦ rest ])
]
held_stays n (link ∷ links) (suc i) k s held =
    held_if n (holder_from (n + 1) links s) (holder_from (n + 1) (edit_at i (with_asked k) links) s) (nat_lt 0 (times s link.asked)) (held_stays (n + 1) links i k s) held

closed_by : (arrived unanswered spent turn : Bool) (h after : Option ℕ) → (is_some h ≡ true → is_some after ≡ true) → ((is_open (state_by arrived h spent) && unanswered) && turn) ≡ false → ((is_open (state_by arrived after spent) && unanswered) && turn) ≡ false
closed_by true unanswered spent turn h after stays closed = closed
closed_by false unanswered spent turn h (Some link) stays closed = refl
closed_by false unanswered spent turn None None stays closed = closed
closed_by false unanswered spent turn (Some link) None stays closed = let no_way : false ≡ true = stays refl in cc

none_by : (test other : ℕ → Bool) (start count : ℕ) (b : Bool) → test start ≡ b → (first_from test (start + 1) count ≡ None → first_from other (start + 1) count ≡ None) → ((n : ℕ) → test n ≡ false → other n ≡ false) → cond b (Some start) (first_from test (start + 1) count) ≡ None → cond (other start) (Some start) (first_from other (start + 1) count) ≡ None
none_by test other start count true here on fewer none = let no_way : Some start ≡ None = none in cc
none_by test other start count false here on fewer none = rw (fewer start here) (on none)

first_none : (test other : ℕ → Bool) (start count : ℕ) → ((n : ℕ) → test n ≡ false → other n ≡ false) → first_from test start count ≡ None → first_from other start count ≡ None
first_none test other start zero fewer none = refl
first_none test other start (suc count) fewer none = none_by test other start count (test start) refl (first_none test other (start + 1) count fewer) fewer none

-- what can't be asked for still can't after another segment was asked for
pub can_stays : (p : Pipeline) (i k server s : ℕ) → can_be_asked p server s ≡ false → can_be_asked (after_next p i (Some k)) server s ≡ false
can_stays p i k server s closed =
    let links : List LinkAt = edit_at i (with_asked k) p.links in
    let spent : is_spent (after_next p i (Some k)) s ≡ is_spent p s =
    all_agree (is_done_with links (slice_get p.segments s)) (is_done_with p.links (slice_get p.segments s)) 0 (length p.levels)
    (λ v. ap (λ b. is_answered_at v (slice_get p.segments s) || not b) (left-same p.links i k v)) in
    let turn : is_turn (after_next p i (Some k)) server s ≡ is_turn p server s =
    all_agree (lets_pass links p.levels server (slice_get p.segments s)) (lets_pass p.links p.levels server (slice_get p.segments s)) 0 (length p.levels)
    (λ v. ap (λ b. not (is_below p.levels v server) || (is_answered_at v (slice_get p.segments s) || not b)) (left-same p.links i k v)) in
    ap (λ b. (is_open (state_by (is_arrived_at (slice_get p.segments s)) (holder links s) b) && not (is_answered_at server (slice_get p.segments s))) && is_turn (after_next p i (Some k)) server s) spent
    ∙ ap (λ b. (is_open (state_by (is_arrived_at (slice_get p.segments s)) (holder links s) (is_spent p s)) && not (is_answered_at server (slice_get p.segments s))) && b) turn
    ∙ closed_by (is_arrived_at (slice_get p.segments s)) (not (is_answered_at server (slice_get p.segments s))) (is_spent p s) (is_turn p server s) (holder p.links s) (holder links s) (held_stays 0 p.links i k s) closed

asks_by : (p : Pipeline) (i k : ℕ) (link : LinkAt) (b : Bool) → may_ask p.depth link ≡ b → cond (may_ask p.depth link) (first_from (can_be_asked p link.server) 0 (length p.segments)) None ≡ None → cond (may_ask p.depth link) (first_from (can_be_asked (after_next p i (Some k)) link.server) 0 (length p.segments)) None ≡ None
asks_by p i k link true may none =
    rw may (first_none (can_be_asked p link.server) (can_be_asked (after_next p i (Some k)) link.server) 0 (length p.segments) (λ s closed. can_stays p i k link.server s closed) (sym (rw may refl) ∙ none))
asks_by p i k link false may none = rw may refl

on_stays : (p : Pipeline) (i k : ℕ) (o : Option LinkAt) → next_on p o ≡ None → next_on (after_next p i (Some k)) o ≡ None
on_stays p i k None none = refl
on_stays p i k (Some link) none = asks_by p i k link (may_ask p.depth link) refl none

-- asking on one link leaves each other link that is full as it is
pub full_stays : (p : Pipeline) (i k j : ℕ) → j ≢ i → next_segment p j ≡ None → next_segment (after_next p i (Some k)) j ≡ None
full_stays p i k j other none =
    ap (next_on (after_next p i (Some k))) (get-edit_other p.links i j (with_asked k) other) ∙ on_stays p i k (slice_get p.links j) none

ended_after_asking : (links : List LinkAt) (i k : ℕ) → edit_at i with_end (edit_at i (with_asked k) links) ≡ edit_at i with_end links
ended_after_asking [] i k = refl
ended_after_asking (link ∷ links) zero k = refl
ended_after_asking (link ∷ links) (suc i) k = ap (λ t. link ∷ t) (ended_after_asking links i k)

-- a link that is lost right after it asked
pub lost_before_sent : (p : Pipeline) (i k : ℕ) → after_over (after_next p i (Some k)) i ≡ after_over p i
lost_before_sent p i k = ap (λ (links : List LinkAt). with_links p links) (ended_after_asking p.links i k)
