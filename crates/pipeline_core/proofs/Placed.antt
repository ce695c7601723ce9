-- The places at which searches begin, after each call.
use Rattle.std.proofs.Common.{◌≡◌, ◌≢◌, ◌+◌, ◌-◌, ◌<◌, ◌≤◌, inl, inr, zero, suc, ℕ, Bool, true, false, not, ◌&&◌, List, [], ◌∷◌, ◌++◌, Option, Some, None, length, drop, refl, ap, sym, subst, ◌∙◌, arith, set, length-set, zero-add, replicate, map, get_or}
use Rattle.std.specs.Prelude.{slice_get, slice_index_or, nat_eq}
use Rattle.std.proofs.Math.ListN.{length-replicate}
use Rattle.std.proofs.lemmas.Bool.Decides.{nat_tests}
use Rattle.std.proofs.lemmas.Bool.{cases_lt, cases_eq}
use Rattle.std.proofs.lemmas.Option.{slice_get-get_or, slice_get_within}
use Rattle.lists.specs.Edit.{edit_at}
use Rattle.pipeline_core.specs.SegmentAt.{SegmentAt}
use Rattle.pipeline_core.specs.LinkAt.{LinkAt}
use Rattle.pipeline_core.specs.Links.{has_link_left, holder, times, fresh_link, with_greeting, with_asked, without_oldest, with_end}
use Rattle.pipeline_core.specs.PipelineAt.{Pipeline}
use Rattle.pipeline_core.specs.Searches.{all_from, first_from, is_done_with, is_arrived_at, is_answered_at, lets_pass}
use Rattle.pipeline_core.specs.declared.state.Outcome.{Outcome}
use Rattle.pipeline_core.specs.declared.state.Outcome.TheVariants.{Arrived as HasArrived, NotHere}
use Rattle.pipeline_core.specs.declared.state.SegmentState.{SegmentState}
use Rattle.pipeline_core.specs.declared.state.SegmentState.TheVariants.{Open, Outstanding, Arrived, Exhausted}
use Rattle.pipeline_core.specs.Pipeline.{is_spent, state_by, is_open, is_decided, can_be_asked, segment_state, after_greeting, after_next, after_over, after_reply, server_on, server_of, unanswered, with_arrival, with_outcome, after_settling, start, is_finished}
use Rattle.pipeline_core.specs.Sound.{IsExclusive, IsPlaced, IsUnaskedOrArrived, HasFallen}
use Rattle.lists.proofs.OnePlace.{get-set_other, get-set_same}
use Rattle.pipeline_core.proofs.Searching.{all_of, not_all, first_least, first_none_at, first_found, first_window}
use Rattle.pipeline_core.proofs.Exclusive.{times-append, one_of_all, holder-new, holder-here, none_held, no_holder, set-edit}
use Rattle.pipeline_core.proofs.Calls.{one_time, no_times, first_place, get-replicate}
use Rattle.pipeline_core.proofs.Free.{IsNext, held_cannot, arrived_cannot, answered_cannot}
use Rattle.pipeline_core.proofs.Full.{can_stays, get-edit_other}
use Rattle.pipeline_core.proofs.Alike.{left-kept, spent-more, state-same, can-same, holder-edit, times-other, times-rest, none-after}
use Rattle.limits.specs.declared.TheConstants.{MOST_SERVERS}

-- a segment that was never asked for and hasn't arrived is one of which nothing is known
untouched_open : (o : Option SegmentAt) → IsUnaskedOrArrived o → is_arrived_at o ≡ false → o ≡ Some unanswered
untouched_open o (inl known) waited = known
untouched_open o (inr arrived) waited = let no_way : true ≡ false = sym arrived ∙ waited in cc

-- a link was greeted
pub placed-greeted : (p : Pipeline) (i : ℕ) (old : LinkAt) (lows : List ℕ) (fresh decided : ℕ) → slice_get p.links i ≡ Some old → IsPlaced p lows fresh decided → IsPlaced (after_greeting p i) lows fresh decided
placed-greeted p i old lows fresh decided is placed =
    let links : List LinkAt = edit_at i with_greeting p.links in
    let left : (v : ℕ) → has_link_left links v ≡ has_link_left p.links v = λ v. left-kept p.links i v with_greeting (λ l. refl) (λ l. refl) in
    let held : (s : ℕ) → holder links s ≡ holder p.links s = λ s. holder-edit p.links i s with_greeting old is refl in
    record {
      as_many = placed.as_many;
      marks = placed.marks;
      closed = λ v low s read below. can-same p links p.segments v s refl left (held s) ∙ placed.closed v low s read below;
      unasked = λ s from below. (held s ∙ (placed.unasked s from below).0, (placed.unasked s from below).1);
      first_unasked = placed.first_unasked;
      all_decided = λ s below. ap is_decided (state-same p links p.segments s refl left (held s)) ∙ placed.all_decided s below;
    }

open_undecided : (state : SegmentState) (unanswered turn : Bool) → ((is_open state && unanswered) && turn) ≡ true → is_decided state ≡ false
open_undecided Open unanswered turn can = refl
open_undecided (Outstanding link) unanswered turn can = refl
open_undecided Arrived unanswered turn can = cc
open_undecided Exhausted unanswered turn can = cc

pub can_undecided : (p : Pipeline) (server s : ℕ) → can_be_asked p server s ≡ true → is_decided (segment_state p s) ≡ false
can_undecided p server s can =
    open_undecided (segment_state p s) (not (is_answered_at server (slice_get p.segments s))) (all_from (lets_pass p.links p.levels server (slice_get p.segments s)) 0 (length p.levels)) can

low_at : (lows : List ℕ) (server : ℕ) → server < length lows → slice_get lows server ≡ Some (get_or lows server 0)
low_at lows server below = slice_get-get_or lows server 0 below

new_low : (lows : List ℕ) (server new low : ℕ) → server < length lows → slice_get (set lows server new) server ≡ Some low → low ≡ new
new_low lows server new low below read =
    let there : slice_get (set lows server new) server ≡ Some new = get-set_same lows server new (get_or lows server 0) (low_at lows server below) in
    let same : Some low ≡ Some new = sym read ∙ there in cc

-- a link was asked for the segment that was found for it
pub placed-next : (p : Pipeline) (i k : ℕ) (old : LinkAt) (lows : List ℕ) (fresh after decided : ℕ) → slice_get p.links i ≡ Some old → IsNext p old k → first_from (can_be_asked p old.server) 0 (length p.segments) ≡ Some k → old.server < MOST_SERVERS → fresh ≤ after → k < after → (after < length p.segments → is_arrived_at (slice_get p.segments after) ≡ false) → IsPlaced p lows fresh decided → IsPlaced (after_next p i (Some k)) (set lows old.server (k + 1)) after decided
placed-next p i k old lows fresh after decided is next found small kept past waited placed =
    let links : List LinkAt = edit_at i (with_asked k) p.links in
    let can = (first_found (can_be_asked p old.server) 0 (length p.segments) k found).0 in
    let grown : times k (old.asked ++ k ∷ []) ≡ times k old.asked + times k (k ∷ []) = times-append k old.asked (k ∷ []) in
    let now : holder links k ≡ Some i = ap (λ (ls : List LinkAt). holder ls k) (sym (set-edit p.links i (with_asked k) old is)) ∙ holder-new 0 p.links i k old (with_asked k old) is (none_held 0 p.links k next.unheld) (omega (arith, grown, one_time k)) ∙ ap (λ n. Some n) (zero-add i) in
    let left : (v : ℕ) → has_link_left links v ≡ has_link_left p.links v = λ v. left-kept p.links i v (with_asked k) (λ l. refl) (λ l. refl) in
    let held : (s : ℕ) → s ≢ k → holder links s ≡ holder p.links s = λ s other. holder-edit p.links i s (with_asked k) old is (times-other s k old.asked other) in
    record {
      as_many = length-set lows old.server (k + 1) ∙ placed.as_many;
      marks = placed.marks;
      closed = λ v low s read below. elim (cases_eq v old.server) [
        | inl e ↦ (let here : slice_get (set lows old.server (k + 1)) old.server ≡ Some low = ap (λ n. slice_get (set lows old.server (k + 1)) n) (sym e) ∙ read in
            let low_is : low ≡ k + 1 = new_low lows old.server (k + 1) low (omega (arith, placed.as_many)) here in
            elim (cases_eq s k) [
              | inl this ↦ ap (λ n. can_be_asked (after_next p i (Some k)) v n) this ∙ sym (held_cannot (after_next p i (Some k)) v k i now)
              | inr other ↦ can_stays p i k v s (ap (λ n. can_be_asked p n s) e ∙ first_least (can_be_asked p old.server) 0 (length p.segments) k s found (omega arith) (omega (arith, other)))
            ])
        | inr other ↦ can_stays p i k v s (placed.closed v low s (sym (get-set_other lows old.server v (k + 1) other) ∙ read) below)
      ];
      unasked = λ s from below. (held s (λ e. absurd (omega (arith, e))) ∙ (placed.unasked s (omega arith) below).0, (placed.unasked s (omega arith) below).1);
      first_unasked = λ below. untouched_open (slice_get p.segments after) (placed.unasked after kept below).1 (waited below);
      all_decided = λ s below. elim (cases_eq s k) [
        | inl e ↦ (let no_way : true ≡ false = sym (placed.all_decided s below) ∙ ap (λ n. is_decided (segment_state p n)) e ∙ can_undecided p old.server k can in cc)
        | inr other ↦ ap is_decided (state-same p links p.segments s refl left (held s other)) ∙ placed.all_decided s below
      ];
    }

-- a server could be asked for nothing
pub placed-none : (p : Pipeline) (server : ℕ) (lows : List ℕ) (fresh decided : ℕ) → first_from (can_be_asked p server) 0 (length p.segments) ≡ None → server < MOST_SERVERS → IsPlaced p lows fresh decided → IsPlaced p (set lows server (length p.segments)) fresh decided
placed-none p server lows fresh decided none small placed = record {
  as_many = length-set lows server (length p.segments) ∙ placed.as_many;
  marks = placed.marks;
  closed = λ v low s read below. elim (cases_eq v server) [
    | inl e ↦ (let here : slice_get (set lows server (length p.segments)) server ≡ Some low = ap (λ n. slice_get (set lows server (length p.segments)) n) (sym e) ∙ read in
        let low_is : low ≡ length p.segments = new_low lows server (length p.segments) low (omega (arith, placed.as_many)) here in
        ap (λ n. can_be_asked p n s) e ∙ first_none_at (can_be_asked p server) 0 (length p.segments) s none (omega arith) (omega arith))
    | inr other ↦ placed.closed v low s (sym (get-set_other lows server v (length p.segments) other) ∙ read) below
  ];
  unasked = placed.unasked;
  first_unasked = placed.first_unasked;
  all_decided = placed.all_decided;
}

get-edit_same : {A : Type 0} (xs : List A) (i : ℕ) (f : A → A) (x : A) → slice_get xs i ≡ Some x → slice_get (edit_at i f xs) i ≡ Some (f x)
get-edit_same [] i f x is = cc
get-edit_same (y ∷ ys) zero f x is = let same : y ≡ x = cc in rw same refl
get-edit_same (y ∷ ys) (suc i) f x is = get-edit_same ys i f x is

length-edit : {A : Type 0} (xs : List A) (i : ℕ) (f : A → A) → length (edit_at i f xs) ≡ length xs
length-edit [] i f = refl
length-edit (y ∷ ys) zero f = refl
length-edit (y ∷ ys) (suc i) f = ap (λ n. suc n) (length-edit ys i f)

marked : (xs : List Bool) (i : ℕ) → i < length xs → slice_index_or (edit_at i (λ old. true) xs) i false ≡ true
marked [] i below = absurd (omega arith)
marked (y ∷ ys) zero below = refl
marked (y ∷ ys) (suc i) below = marked ys i (omega arith)

marks_kept : (server : ℕ) (outcome : Outcome) (was : SegmentAt) → length was.answered ≡ MOST_SERVERS → length (with_outcome server outcome was).answered ≡ MOST_SERVERS
marks_kept server HasArrived was whole = whole
marks_kept server NotHere was whole = length-edit was.answered server (λ old. true) ∙ whole

answered_closed : (q : Pipeline) (i k v low server : ℕ) (outcome : Outcome) (was : SegmentAt) (lows : List ℕ) → slice_get q.segments k ≡ Some (with_outcome server outcome was) → length was.answered ≡ MOST_SERVERS → server < MOST_SERVERS → HasFallen lows server k outcome v low → k < low → can_be_asked q v k ≡ false
answered_closed q i k v low server HasArrived was lows now whole small fell below = sym (arrived_cannot q v k (ap is_arrived_at now))
answered_closed q i k v low server NotHere was lows now whole small fell below = elim (cases_eq v server) [
  | inl e ↦ sym (answered_cannot q v k (ap (is_answered_at v) now ∙ ap (λ n. slice_index_or (edit_at server (λ old. true) was.answered) n false) e ∙ marked was.answered server (omega arith)))
  | inr other ↦ absurd (omega (arith, fell.fell refl other))
]

arrived_decided : (arrived : Bool) (h : Option ℕ) (spent : Bool) → arrived ≡ true → is_decided (state_by arrived h spent) ≡ true
arrived_decided true h spent is = refl
arrived_decided false h spent is = cc

not_arrived_by : (arrived : Bool) → (arrived ≡ true → ⊥) → arrived ≡ false
not_arrived_by true never = absurd (never refl)
not_arrived_by false never = refl

out_undecided : (arrived : Bool) (h : Option ℕ) (link : ℕ) (spent : Bool) → h ≡ Some link → arrived ≡ false → is_decided (state_by arrived h spent) ≡ false
out_undecided arrived h link spent held not_arrived = rw (held, not_arrived) refl

-- the oldest segment of a link was answered
pub placed-reply : (p : Pipeline) (i k : ℕ) (outcome : Outcome) (old : LinkAt) (was : SegmentAt) (lows after : List ℕ) (fresh decided : ℕ) → slice_get p.links i ≡ Some old → slice_get old.asked 0 ≡ Some k → slice_get p.segments k ≡ Some was → IsExclusive p.links p.segments → old.server < MOST_SERVERS → length after ≡ MOST_SERVERS → ((v low : ℕ) → slice_get after v ≡ Some low → HasFallen lows old.server k outcome v low) → IsPlaced p lows fresh decided → IsPlaced (after_reply p i k outcome) after fresh decided
placed-reply p i k outcome old was lows after fresh decided is first there exclusive small many fell placed =
    let links : List LinkAt = edit_at i without_oldest p.links in
    let server : server_on p i ≡ old.server = ap server_of is in
    let f : SegmentAt → SegmentAt = with_outcome (server_on p i) outcome in
    let segments : List SegmentAt = edit_at k f p.segments in
    let q : Pipeline = after_reply p i k outcome in
    let now : slice_get segments k ≡ Some (with_outcome old.server outcome was) = get-edit_same p.segments k f was there ∙ ap (λ v. Some (with_outcome v outcome was)) server in
    let left : (v : ℕ) → has_link_left links v ≡ has_link_left p.links v = λ v. left-kept p.links i v without_oldest (λ l. refl) (λ l. refl) in
    let held : (s : ℕ) → s ≢ k → holder links s ≡ holder p.links s = λ s other. holder-edit p.links i s without_oldest old is (times-rest s k old.asked first other) in
    let seen : (s : ℕ) → s ≢ k → slice_get segments s ≡ slice_get p.segments s = λ s other. get-edit_other p.segments k s f other in
    let whole : length was.answered ≡ MOST_SERVERS = placed.marks k was there in
    let some : 0 < times k old.asked = let parts : times k old.asked ≡ times k (k ∷ []) + times k (drop 1 old.asked) = ap (times k) (first_place old.asked k first) ∙ times-append k (k ∷ []) (drop 1 old.asked) in omega (arith, one_time k) in
    let here : holder p.links k ≡ Some (0 + i) = holder-here 0 p.links i k old is (exclusive.once k) some in
    let below_fresh : k < fresh = elim (cases_lt k fresh) [
      | inl below ↦ below
      | inr from ↦ (let no_way : Some (0 + i) ≡ None = sym here ∙ (placed.unasked k from (slice_get_within p.segments k was there)).0 in cc)
    ] in
    record {
      as_many = many;
      marks = λ s known read. elim (cases_eq s k) [
        | inl e ↦ (let both : Some known ≡ Some (with_outcome old.server outcome was) = sym read ∙ ap (λ n. slice_get segments n) e ∙ now in
            let same : known ≡ with_outcome old.server outcome was = cc in
            ap (λ (x : SegmentAt). length x.answered) same ∙ marks_kept old.server outcome was whole)
        | inr other ↦ placed.marks s known (sym (seen s other) ∙ read)
      ];
      closed = λ v low s read below. elim (cases_eq s k) [
        | inl e ↦ ap (λ n. can_be_asked q v n) e ∙ answered_closed q i k v low old.server outcome was lows now whole small (fell v low read) (omega (arith, e))
        | inr other ↦ (let fallen = fell v low read in can-same p links segments v s (seen s other) left (held s other) ∙ placed.closed v fallen.was s fallen.before (omega (arith, fallen.kept)))
      ];
      unasked = λ s from below.
          (let other : s ≢ k = λ e. absurd (omega (arith, e)) in
          let under : s < length p.segments = rw (← length-edit p.segments k f) below in
          (held s other ∙ (placed.unasked s from under).0, subst IsUnaskedOrArrived (sym (seen s other)) (placed.unasked s from under).1));
      first_unasked = λ below. seen fresh (λ e. absurd (omega (arith, e, below_fresh))) ∙ placed.first_unasked (rw (← length-edit p.segments k f) below);
      all_decided = λ s below. elim (cases_eq s k) [
        | inl e ↦ (let state : is_decided (segment_state p k) ≡ false = out_undecided (is_arrived_at (slice_get p.segments k)) (holder p.links k) (0 + i) (is_spent p k) here (not_arrived_by (is_arrived_at (slice_get p.segments k)) (λ arrived. absurd (omega (arith, exclusive.none_arrived k arrived, some, one_of_all p.links i k old is)))) in
            let no_way : true ≡ false = sym (placed.all_decided s below) ∙ ap (λ n. is_decided (segment_state p n)) e ∙ state in cc)
        | inr other ↦ ap is_decided (state-same p links segments s (seen s other) left (held s other)) ∙ placed.all_decided s below
      ];
    }

-- a segment that no link holds has arrived
pub placed-settling : (p : Pipeline) (k : ℕ) (was : SegmentAt) (lows : List ℕ) (fresh after decided : ℕ) → slice_get p.segments k ≡ Some was → holder p.links k ≡ None → fresh ≤ after → (after < length (after_settling p k).segments → is_arrived_at (slice_get (after_settling p k).segments after) ≡ false) → IsPlaced p lows fresh decided → IsPlaced (after_settling p k) lows after decided
placed-settling p k was lows fresh after decided there unheld kept waited placed =
    let q : Pipeline = after_settling p k in
    let now : slice_get q.segments k ≡ Some (with_arrival was) = get-edit_same p.segments k with_arrival was there in
    let arrived : is_arrived_at (slice_get q.segments k) ≡ true = ap is_arrived_at now in
    let seen : (s : ℕ) → s ≢ k → slice_get q.segments s ≡ slice_get p.segments s = λ s other. get-edit_other p.segments k s with_arrival other in
    let untouched : (s : ℕ) → after ≤ s → s < length q.segments → IsUnaskedOrArrived (slice_get q.segments s) = λ s from below.
    (let under : s < length p.segments = rw (← length-edit p.segments k with_arrival) below in
    elim (cases_eq s k) [
      | inl e ↦ inr (ap (λ n. is_arrived_at (slice_get q.segments n)) e ∙ arrived)
      | inr other ↦ subst IsUnaskedOrArrived (sym (seen s other)) (placed.unasked s (omega (arith, kept, from)) under).1
    ]) in
    record {
      as_many = placed.as_many;
      marks = λ s known read. elim (cases_eq s k) [
        | inl e ↦ (let both : Some known ≡ Some (with_arrival was) = sym read ∙ ap (λ n. slice_get q.segments n) e ∙ now in
            let same : known ≡ with_arrival was = cc in
            ap (λ (x : SegmentAt). length x.answered) same ∙ placed.marks k was there)
        | inr other ↦ placed.marks s known (sym (seen s other) ∙ read)
      ];
      closed = λ v low s read below. elim (cases_eq s k) [
        | inl e ↦ ap (λ n. can_be_asked q v n) e ∙ sym (arrived_cannot q v k arrived)
        | inr other ↦ can-same p p.links q.segments v s (seen s other) (λ v. refl) refl ∙ placed.closed v low s read below
      ];
      unasked = λ s from below.
          (let under : s < length p.segments = rw (← length-edit p.segments k with_arrival) below in
          ((placed.unasked s (omega (arith, kept, from)) under).0, untouched s from below));
      first_unasked = λ below. untouched_open (slice_get q.segments after) (untouched after (omega arith) below) (waited below);
      all_decided = λ s below. elim (cases_eq s k) [
        | inl e ↦ ap (λ n. is_decided (segment_state q n)) e ∙ arrived_decided (is_arrived_at (slice_get q.segments k)) (holder q.links k) (is_spent q k) arrived
        | inr other ↦ ap is_decided (state-same p p.links q.segments s (seen s other) (λ v. refl) refl) ∙ placed.all_decided s below
      ];
    }

zero_low : (n server low : ℕ) → slice_get (replicate n 0) server ≡ Some low → low ≡ 0
zero_low zero server low is = cc
zero_low (suc n) zero low is = let same : 0 ≡ low = cc in sym same
zero_low (suc n) (suc server) low is = zero_low n server low is

decided_by : (arrived : Bool) (h after : Option ℕ) (spent more : Bool) → (h ≡ None → after ≡ None) → (spent ≡ true → more ≡ true) → is_decided (state_by arrived h spent) ≡ true → is_decided (state_by arrived after more) ≡ true
decided_by true h after spent more none grown is = refl
decided_by false (Some link) after spent more none grown is = cc
decided_by false None after true more none grown is = rw (none refl, grown refl) refl
decided_by false None after false more none grown is = cc

-- a link is over
pub placed-over : (p : Pipeline) (i : ℕ) (old : LinkAt) (lows after : List ℕ) (fresh decided : ℕ) → slice_get p.links i ≡ Some old → after ≡ replicate MOST_SERVERS 0 → IsPlaced p lows fresh decided → IsPlaced (after_over p i) after fresh decided
placed-over p i old lows after fresh decided is zeros placed = record {
  as_many = ap (λ (t : List ℕ). length t) zeros;
  marks = placed.marks;
  closed = λ v low s read below. absurd (omega (arith, zero_low MOST_SERVERS v low (ap (λ (t : List ℕ). slice_get t v) (sym zeros) ∙ read)));
  unasked = λ s from below. (none-after p.links i s old is (placed.unasked s from below).0, (placed.unasked s from below).1);
  first_unasked = placed.first_unasked;
  all_decided = λ s below.
      decided_by (is_arrived_at (slice_get p.segments s)) (holder p.links s) (holder (edit_at i with_end p.links) s) (is_spent p s) (is_spent (after_over p i) s)
      (none-after p.links i s old is) (spent-more p i s) (placed.all_decided s below);
}

fresh_known : (n s : ℕ) (known : SegmentAt) → slice_get (replicate n unanswered) s ≡ Some known → known ≡ unanswered
fresh_known zero s known read = cc
fresh_known (suc n) zero known read = let same : unanswered ≡ known = cc in sym same
fresh_known (suc n) (suc s) known read = fresh_known n s known read

pub placed-start : (server_of_link levels : List ℕ) (n depth : ℕ) → IsPlaced (start server_of_link levels n depth) (replicate MOST_SERVERS 0) 0 0
placed-start server_of_link levels n depth = record {
  as_many = refl;
  marks = λ s known read. ap (λ (x : SegmentAt). length x.answered) (fresh_known n s known read);
  closed = λ v low s read below. absurd (omega (arith, zero_low MOST_SERVERS v low read));
  unasked = λ s from below.
      (let under : s < n = rw (← length-replicate n unanswered) below in
      (no_holder 0 (map fresh_link server_of_link) s (no_times server_of_link s), inl (get-replicate n s unanswered under)));
  first_unasked = λ below. (let under : 0 < n = rw (← length-replicate n unanswered) below in get-replicate n 0 unanswered under);
  all_decided = λ s below. absurd (omega arith);
}

-- what is known of a segment says whether it can be asked for
abbrev can_by : Pipeline → ℕ → Option SegmentAt → Option ℕ → Bool
can_by p server known held =
    (is_open (state_by (is_arrived_at known) held (all_from (is_done_with p.links known) 0 (length p.levels))) && not (is_answered_at server known)) && all_from (lets_pass p.links p.levels server known) 0 (length p.levels)

fresh_can : (p : Pipeline) (server s : ℕ) → holder p.links s ≡ None → slice_get p.segments s ≡ Some unanswered → can_be_asked p server s ≡ can_by p server (Some unanswered) None
fresh_can p server s held known = ap (can_by p server (slice_get p.segments s)) held ∙ ap (λ (o : Option SegmentAt). can_by p server o None) known

-- the search from a server's place to where nothing was asked for finds what one of all segments does
pub window-found : (p : Pipeline) (server low end : ℕ) (lows : List ℕ) (fresh decided : ℕ) → IsPlaced p lows fresh decided → slice_get lows server ≡ Some low → fresh < length p.segments → end ≡ fresh + 1 → first_from (can_be_asked p server) low (end - low) ≡ first_from (can_be_asked p server) 0 (length p.segments)
window-found p server low end lows fresh decided placed read inside is =
    let here : can_be_asked p server fresh ≡ can_by p server (Some unanswered) None = fresh_can p server fresh (placed.unasked fresh (omega arith) inside).0 (placed.first_unasked inside) in
    first_window (can_be_asked p server) low end (length p.segments) (omega arith) (λ s below. placed.closed server low s read below)
    (λ none s from below.
    let fails : can_be_asked p server fresh ≡ false = elim (cases_lt fresh low) [
      | inl under ↦ placed.closed server low fresh read under
      | inr above ↦ first_none_at (can_be_asked p server) low (end - low) fresh none above (omega arith)
    ] in
    let at = placed.unasked s (omega arith) below in
    elim at.1 [
      | inl known ↦ fresh_can p server s at.0 known ∙ sym here ∙ fails
      | inr arrived ↦ sym (arrived_cannot p server s arrived)
    ])

pub whole-found : (p : Pipeline) (server low : ℕ) (lows : List ℕ) (fresh decided : ℕ) → IsPlaced p lows fresh decided → slice_get lows server ≡ Some low → first_from (can_be_asked p server) low (length p.segments - low) ≡ first_from (can_be_asked p server) 0 (length p.segments)
whole-found p server low lows fresh decided placed read =
    first_window (can_be_asked p server) low (length p.segments) (length p.segments) (omega arith) (λ s below. placed.closed server low s read below) (λ none s from below. absurd (omega arith))

-- the place below which all is decided may be any such place
pub placed-decided : (p : Pipeline) (lows : List ℕ) (fresh decided after : ℕ) → IsPlaced p lows fresh decided → ((s : ℕ) → s < after → is_decided (segment_state p s) ≡ true) → IsPlaced p lows fresh after
placed-decided p lows fresh decided after placed all = record {
  as_many = placed.as_many;
  marks = placed.marks;
  closed = placed.closed;
  unasked = placed.unasked;
  first_unasked = placed.first_unasked;
  all_decided = all;
}

pub record HasLowered (lows : List ℕ) (server segment other low : ℕ) : Type 0 where
  pub was : ℕ
  pub before : slice_get lows other ≡ Some was
  pub kept : low ≤ was
  pub fell : other ≢ server → low ≤ segment

-- the places of the servers, lowered one after the other
pub record Falling (before lows : List ℕ) (server segment : ℕ) (upto : ℕ) : Type 0 where
  pub many : length lows ≡ MOST_SERVERS
  pub done : (k low : ℕ) → k < upto → slice_get lows k ≡ Some low → HasLowered before server segment k low
  pub rest : (k : ℕ) → upto ≤ k → slice_get lows k ≡ slice_get before k

pub falling-step : (before lows : List ℕ) (server segment other low new : ℕ) → Falling before lows server segment other → other < MOST_SERVERS → slice_get lows other ≡ Some low → new ≤ low → (other ≢ server → new ≤ segment) → Falling before (set lows other new) server segment (other + 1)
falling-step before lows server segment other low new falling below read kept fell = record {
  many = length-set lows other new ∙ falling.many;
  done = λ k value under got. elim (cases_eq k other) [
    | inl e ↦ (let here : slice_get (set lows other new) other ≡ Some value = ap (λ n. slice_get (set lows other new) n) (sym e) ∙ got in
        let both : Some value ≡ Some new = sym here ∙ get-set_same lows other new low read in
        let same : value ≡ new = cc in
        record { was = low; before = ap (λ n. slice_get before n) e ∙ sym (falling.rest other (omega arith)) ∙ read; kept = omega (arith, same, kept); fell = λ differ. omega (arith, same, fell (λ is. differ (e ∙ is))) })
    | inr differ ↦ falling.done k value (omega (arith, differ)) (sym (get-set_other lows other k new differ) ∙ got)
  ];
  rest = λ k from. get-set_other lows other k new (λ e. absurd (omega (arith, e))) ∙ falling.rest k (omega arith);
}

pub has-fallen : (before lows : List ℕ) (server segment upto : ℕ) (outcome : Outcome) (other low : ℕ) → Falling before lows server segment upto → MOST_SERVERS ≤ upto → slice_get lows other ≡ Some low → HasFallen before server segment outcome other low
has-fallen before lows server segment upto outcome other low falling end read =
    let fallen = falling.done other low (omega (arith, slice_get_within lows other low read, falling.many)) read in
    record { was = fallen.was; before = fallen.before; kept = fallen.kept; fell = λ is differ. fallen.fell differ }

-- places that are the same, at the same core
pub placed-as : {q p : Pipeline} {after lows : List ℕ} {fresh_after fresh decided_after decided : ℕ} → q ≡ p → after ≡ lows → fresh_after ≡ fresh → decided_after ≡ decided → IsPlaced p lows fresh decided → IsPlaced q after fresh_after decided_after
placed-as {q} {p} {after} {lows} {fresh_after} {fresh} {decided_after} {decided} one two three four placed =
    subst (λ (x : Pipeline). IsPlaced x after fresh_after decided_after) (sym one)
    (subst (λ (t : List ℕ). IsPlaced p t fresh_after decided_after) (sym two)
    (subst (λ (n : ℕ). IsPlaced p lows n decided_after) (sym three)
    (subst (λ (n : ℕ). IsPlaced p lows fresh n) (sym four) placed)))

pub finished-by : (p : Pipeline) (r n : ℕ) → n ≡ length p.segments → r ≤ length p.segments → ((s : ℕ) → s < r → is_decided (segment_state p s) ≡ true) → (r < length p.segments → is_decided (segment_state p r) ≡ false) → nat_eq r n ≡ is_finished p
finished-by p r n whole within all none = elim (cases_lt r (length p.segments)) [
  | inl below ↦ (let test : nat_eq r n ≡ false = grind (arith, nat_tests) in
      test ∙ sym (not_all (λ s. is_decided (segment_state p s)) 0 (length p.segments) r (omega arith) (omega arith) (none below)))
  | inr past ↦ (let test : nat_eq r n ≡ true = grind (arith, nat_tests) in
      test ∙ sym (all_of (λ s. is_decided (segment_state p s)) 0 (length p.segments) (λ s low high. all s (omega arith))))
]
