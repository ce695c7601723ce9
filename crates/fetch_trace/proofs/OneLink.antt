-- What happens on one link leaves what is said of every other.
use Rattle.std.proofs.Common.{◌≡◌, ◌+◌, ◌<◌, inl, inr, ℕ, Bool, true, false, not, ◌&&◌, [], ◌∷◌, Option, Some, None, length, drop, refl, ap, sym, ◌∙◌, arith}
use Rattle.std.specs.Prelude.{slice_get}
use Rattle.std.proofs.lemmas.Bool.{cases_lt}
use Rattle.pipeline_core.specs.LinkAt.{LinkAt}
use Rattle.pipeline_core.specs.Links.{times, holder, with_greeting, with_asked, without_oldest, with_end}
use Rattle.lists.specs.Edit.{edit_at}
use Rattle.pipeline_core.specs.PipelineAt.{Pipeline}
use Rattle.pipeline_core.specs.Searches.{is_arrived_at, is_answered_at}
use Rattle.pipeline_core.specs.Pipeline.{is_spent, is_turn, is_open, can_be_asked, state_by, segment_state, next_segment, with_outcome, server_on}
use Rattle.pipeline_core.proofs.Searching.{first_found}
use Rattle.pipeline_core.specs.declared.state.Outcome.{Outcome}
use Rattle.pipeline_core.specs.declared.state.SegmentState.TheVariants.{Outstanding, Arrived, Exhausted}
use Rattle.pipeline_core.specs.Sound.{IsExclusive}
use Rattle.pipeline_core.proofs.Exclusive.{one_of_all, holder-here}
use Rattle.fetch_trace.proofs.Lists.{same_or_not}
use Rattle.pipeline_core.proofs.Full.{get-edit_other}
use Rattle.pipeline_core.proofs.Free.{is_next, next_found}
use Rattle.pipeline_core.proofs.Calls.{one_time, first_place}
use Rattle.pipeline_core.proofs.Alike.{left-kept, spent-more, state-same, holder-edit, times-other, times-rest, none-after}
use Rattle.fetch_trace.specs.Calls.{Call, after_call}
use Rattle.fetch_trace.specs.Calls.Call.{Nothing, Greets, Asks, Answers, Loses}
use Rattle.fetch_trace.specs.OneLink.{Keeps}
use Rattle.fetch_trace.proofs.Exclusives.{Fits}

same_keeps : (before after : Pipeline) (i segment : ℕ) → segment_state after segment ≡ segment_state before segment → Keeps before after i segment
same_keeps before after i segment same = record { arrived = λ e. same ∙ e; exhausted = λ e. same ∙ e; elsewhere = λ other apart e. same ∙ e }

-- ---- of a state, what it says of the segment

arrived_of : (arrived spent : Bool) (held : Option ℕ) → state_by arrived held spent ≡ Arrived → arrived ≡ true
arrived_of true spent held is = refl
arrived_of false spent (Some link) is = cc
arrived_of false true None is = cc
arrived_of false false None is = cc

record IsSpentOf (arrived spent : Bool) (held : Option ℕ) : Type 0 where
  not_arrived : arrived ≡ false
  none : held ≡ None
  spent_is : spent ≡ true

spent_of : (arrived spent : Bool) (held : Option ℕ) → state_by arrived held spent ≡ Exhausted → IsSpentOf arrived spent held
spent_of true spent held is = cc
spent_of false spent (Some link) is = cc
spent_of false true None is = record { not_arrived = refl; none = refl; spent_is = refl }
spent_of false false None is = cc

held_of : (arrived spent : Bool) (held : Option ℕ) (link : ℕ) → state_by arrived held spent ≡ Outstanding link → (arrived ≡ false) × (held ≡ Some link)
held_of true spent held link is = cc
held_of false spent (Some other) link is = let same : other ≡ link = cc in (refl, ap (λ n. Some n) same)
held_of false true None link is = cc
held_of false false None link is = cc

-- ---- the calls

greets_keeps : (p : Pipeline) (i segment : ℕ) (link : LinkAt) → slice_get p.links i ≡ Some link → Keeps p (after_call Greets i p) i segment
greets_keeps p i segment link is =
    same_keeps p (after_call Greets i p) i segment
    (state-same p (edit_at i with_greeting p.links) p.segments segment refl (λ v. left-kept p.links i v with_greeting (λ l. refl) (λ l. refl)) (holder-edit p.links i segment with_greeting link is refl))

open_spent : (arrived : Bool) (held : Option ℕ) (spent unanswered turn : Bool) → ((is_open (state_by arrived held spent) && unanswered) && turn) ≡ true → spent ≡ false
open_spent true held spent unanswered turn is = cc
open_spent false (Some link) spent unanswered turn is = cc
open_spent false None true unanswered turn is = cc
open_spent false None false unanswered turn is = refl

unspent : (p : Pipeline) (i k : ℕ) (link : LinkAt) → slice_get p.links i ≡ Some link → next_segment p i ≡ Some k → is_spent p k ≡ false
unspent p i k link is asks =
    let found = first_found (can_be_asked p link.server) 0 (length p.segments) k (next_found p i k link is asks) in
    open_spent (is_arrived_at (slice_get p.segments k)) (holder p.links k) (is_spent p k) (not (is_answered_at link.server (slice_get p.segments k))) (is_turn p link.server k) found.0

asks_keeps : (p : Pipeline) (i segment k : ℕ) (link : LinkAt) → slice_get p.links i ≡ Some link → next_segment p i ≡ Some k → Keeps p (after_call (Asks k) i p) i segment
asks_keeps p i segment k link is asks = elim (same_or_not segment k) [
  | inl e ↦ (let next = is_next p i k link is asks in
      let none : holder p.links segment ≡ None = ap (holder p.links) e ∙ next.unheld in
      let not_arrived : is_arrived_at (slice_get p.segments segment) ≡ false = ap (λ n. is_arrived_at (slice_get p.segments n)) e ∙ next.not_arrived in
      record {
        arrived = λ state. (let was = arrived_of (is_arrived_at (slice_get p.segments segment)) (is_spent p segment) (holder p.links segment) state in let no : true ≡ false = sym was ∙ not_arrived in cc);
        exhausted = λ state. (let was = spent_of (is_arrived_at (slice_get p.segments segment)) (is_spent p segment) (holder p.links segment) state in
            let open_ : is_spent p segment ≡ false = ap (is_spent p) e ∙ unspent p i k link is asks in
            let spent : is_spent p segment ≡ true = was.spent_is in
            let no : true ≡ false = sym spent ∙ open_ in cc);
        elsewhere = λ other apart state. (let was = held_of (is_arrived_at (slice_get p.segments segment)) (is_spent p segment) (holder p.links segment) other state in let no : None ≡ Some other = sym none ∙ was.1 in cc);
      })
  | inr other ↦ same_keeps p (after_call (Asks k) i p) i segment
      (state-same p (edit_at i (with_asked k) p.links) p.segments segment refl (λ v. left-kept p.links i v (with_asked k) (λ l. refl) (λ l. refl)) (holder-edit p.links i segment (with_asked k) link is (times-other segment k link.asked other)))
]

answers_keeps : (p : Pipeline) (i segment k : ℕ) (outcome : Outcome) (link : LinkAt) → IsExclusive p.links p.segments → slice_get p.links i ≡ Some link → slice_get link.asked 0 ≡ Some k → Keeps p (after_call (Answers k outcome) i p) i segment
answers_keeps p i segment k outcome link exclusive is first = elim (same_or_not segment k) [
  | inl e ↦ (let some : 0 < times k link.asked = (let parts = first_place link.asked k first in let one : times k (k ∷ drop 1 link.asked) ≡ times k link.asked = ap (times k) (sym parts) in let start : times k (k ∷ []) ≡ 1 = one_time k in omega (arith, one, start)) in
      let held : holder p.links segment ≡ Some (0 + i) = ap (holder p.links) e ∙ holder-here 0 p.links i k link is (exclusive.once k) some in
      let all = one_of_all p.links i k link is in
      record {
        arrived = λ state. (let was : is_arrived_at (slice_get p.segments segment) ≡ true = arrived_of (is_arrived_at (slice_get p.segments segment)) (is_spent p segment) (holder p.links segment) state in
            let none = exclusive.none_arrived k (ap (λ n. is_arrived_at (slice_get p.segments n)) (sym e) ∙ was) in absurd (omega (arith, none, some, all)));
        exhausted = λ state. (let was = spent_of (is_arrived_at (slice_get p.segments segment)) (is_spent p segment) (holder p.links segment) state in let none = was.none in let no : None ≡ Some (0 + i) = sym none ∙ held in cc);
        elsewhere = λ other apart state. (let was = held_of (is_arrived_at (slice_get p.segments segment)) (is_spent p segment) (holder p.links segment) other state in
            let both : Some other ≡ Some (0 + i) = sym was.1 ∙ held in let same : other ≡ 0 + i = cc in absurd (apart (same ∙ (let z : 0 + i ≡ i = omega arith in z))));
      })
  | inr other ↦ same_keeps p (after_call (Answers k outcome) i p) i segment
      (state-same p (edit_at i without_oldest p.links) (edit_at k (with_outcome (server_on p i) outcome) p.segments) segment (get-edit_other p.segments k segment (with_outcome (server_on p i) outcome) other)
      (λ v. left-kept p.links i v without_oldest (λ l. refl) (λ l. refl)) (holder-edit p.links i segment without_oldest link is (times-rest segment k link.asked first other)))
]

arrived_state : (arrived : Bool) (held : Option ℕ) (spent : Bool) → arrived ≡ true → state_by arrived held spent ≡ Arrived
arrived_state arrived held spent is = rw is refl

spent_state : (arrived : Bool) (held : Option ℕ) (spent : Bool) → arrived ≡ false → held ≡ None → spent ≡ true → state_by arrived held spent ≡ Exhausted
spent_state arrived held spent one two three = rw (one, two, three) refl

held_state : (arrived : Bool) (held : Option ℕ) (spent : Bool) (link : ℕ) → arrived ≡ false → held ≡ Some link → state_by arrived held spent ≡ Outstanding link
held_state arrived held spent link one two = rw (one, two) refl

loses_keeps : (p : Pipeline) (i segment : ℕ) (link : LinkAt) → IsExclusive p.links p.segments → slice_get p.links i ≡ Some link → Keeps p (after_call Loses i p) i segment
loses_keeps p i segment link exclusive is =
    let after = after_call Loses i p in
    record {
      arrived = λ state. arrived_state (is_arrived_at (slice_get p.segments segment)) (holder after.links segment) (is_spent after segment) (arrived_of (is_arrived_at (slice_get p.segments segment)) (is_spent p segment) (holder p.links segment) state);
      exhausted = λ state. (let was = spent_of (is_arrived_at (slice_get p.segments segment)) (is_spent p segment) (holder p.links segment) state in
          spent_state (is_arrived_at (slice_get p.segments segment)) (holder after.links segment) (is_spent after segment) was.not_arrived (none-after p.links i segment link is was.none) (spent-more p i segment was.spent_is));
      elsewhere = λ other apart state. (let was = held_of (is_arrived_at (slice_get p.segments segment)) (is_spent p segment) (holder p.links segment) other state in
          let none : times segment link.asked ≡ 0 = elim (cases_lt 0 (times segment link.asked)) [
            | inl some ↦ (let here : holder p.links segment ≡ Some (0 + i) = holder-here 0 p.links i segment link is (exclusive.once segment) some in
                let both : Some other ≡ Some (0 + i) = sym was.1 ∙ here in let same : other ≡ 0 + i = cc in absurd (apart (same ∙ (let z : 0 + i ≡ i = omega arith in z))))
            | inr few ↦ (let e : times segment link.asked ≡ 0 = omega (arith, few) in e)
          ] in
          held_state (is_arrived_at (slice_get p.segments segment)) (holder after.links segment) (is_spent after segment) other was.0 (holder-edit p.links i segment with_end link is (sym none) ∙ was.1));
    }

-- each call keeps what has arrived, what is exhausted, and what is outstanding on other links
pub call_keeps : (call : Call) (p : Pipeline) (i segment : ℕ) (link : LinkAt) → IsExclusive p.links p.segments → slice_get p.links i ≡ Some link → Fits call i p link → Keeps p (after_call call i p) i segment
call_keeps Nothing p i segment link exclusive is fits = same_keeps p p i segment refl
call_keeps Greets p i segment link exclusive is fits = greets_keeps p i segment link is
call_keeps (Asks k) p i segment link exclusive is fits = asks_keeps p i segment k link is fits
call_keeps (Answers k outcome) p i segment link exclusive is fits = answers_keeps p i segment k outcome link exclusive is fits
call_keeps Loses p i segment link exclusive is fits = loses_keeps p i segment link exclusive is
