-- What a trial knows of its core stays true after each call.
use Rattle.std.proofs.Common.{◌≡◌, ◌≢◌, ◌<◌, ◌≤◌, inl, inr, zero, suc, ℕ, Bool, true, false, List, [], ◌∷◌, Option, Some, None, length, refl, ap, sym, ◌∙◌, arith, set, map, replicate}
use Rattle.std.proofs.Math.ListN.{length-replicate}
use Rattle.std.specs.Prelude.{slice_get, slice_index_or}
use Rattle.std.proofs.lemmas.Bool.{cases_eq}
use Rattle.lists.specs.Edit.{edit_at}
use Rattle.pipeline_core.specs.LinkAt.{LinkAt}
use Rattle.pipeline_core.specs.Links.{holder, fresh_link, with_greeting, with_asked, without_oldest, with_end}
use Rattle.pipeline_core.specs.PipelineAt.{Pipeline}
use Rattle.pipeline_core.specs.Pipeline.{is_over_of, is_over_on, server_on, with_arrival, with_outcome, after_greeting, after_next, after_reply, after_over, after_settling, is_spent, segment_state, start, state_by, unanswered}
use Rattle.pipeline_core.specs.Searches.{is_arrived_at}
use Rattle.pipeline_core.specs.declared.state.Outcome.{Outcome}
use Rattle.pipeline_core.specs.declared.state.SegmentState.TheVariants.{Open}

length-edit : {A : Type 0} (xs : List A) (i : ℕ) (f : A → A) → length (edit_at i f xs) ≡ length xs
length-edit [] i f = refl
length-edit (y ∷ ys) zero f = refl
length-edit (y ∷ ys) (suc i) f = ap (λ n. suc n) (length-edit ys i f)

over_kept : (links : List LinkAt) (i k : ℕ) (f : LinkAt → LinkAt) → ((l : LinkAt) → (f l).over ≡ l.over) → is_over_of (slice_get (edit_at i f links) k) ≡ is_over_of (slice_get links k)
over_kept [] i k f same = refl
over_kept (link ∷ links) zero zero f same = same link
over_kept (link ∷ links) zero (suc k) f same = refl
over_kept (link ∷ links) (suc i) zero f same = refl
over_kept (link ∷ links) (suc i) (suc k) f same = over_kept links i k f same

over_other : (links : List LinkAt) (i k : ℕ) (f : LinkAt → LinkAt) → k ≢ i → is_over_of (slice_get (edit_at i f links) k) ≡ is_over_of (slice_get links k)
over_other [] i k f other = refl
over_other (link ∷ links) zero zero f other = absurd (other refl)
over_other (link ∷ links) zero (suc k) f other = refl
over_other (link ∷ links) (suc i) zero f other = refl
over_other (link ∷ links) (suc i) (suc k) f other = over_other links i k f (λ e. other (ap (λ n. suc n) e))

over_here : (links : List LinkAt) (i : ℕ) → i < length links → is_over_of (slice_get (edit_at i with_end links) i) ≡ true
over_here [] i below = absurd (omega arith)
over_here (link ∷ links) zero below = refl
over_here (link ∷ links) (suc i) below = over_here links i (omega arith)

mark_other : (marks : List Bool) (i k : ℕ) → k ≢ i → slice_index_or (set marks i true) k false ≡ slice_index_or marks k false
mark_other [] i k other = refl
mark_other (mark ∷ marks) zero zero other = absurd (other refl)
mark_other (mark ∷ marks) zero (suc k) other = refl
mark_other (mark ∷ marks) (suc i) zero other = refl
mark_other (mark ∷ marks) (suc i) (suc k) other = mark_other marks i k (λ e. other (ap (λ n. suc n) e))

mark_here : (marks : List Bool) (i : ℕ) → i < length marks → slice_index_or (set marks i true) i false ≡ true
mark_here [] i below = absurd (omega arith)
mark_here (mark ∷ marks) zero below = refl
mark_here (mark ∷ marks) (suc i) below = mark_here marks i (omega arith)

pub record Known (p : Pipeline) (over : List Bool) (links segments : ℕ) : Type 0 where
  pub few : links ≤ 64
  pub as_many : length p.links ≡ links
  pub parts : length p.segments ≡ segments
  pub ends : (link : ℕ) → is_over_on p link ≡ slice_index_or over link false

pub known-greeted : (p : Pipeline) (over : List Bool) (links segments i : ℕ) → Known p over links segments → Known (after_greeting p i) over links segments
known-greeted p over links segments i known = record {
  few = known.few;
  as_many = length-edit p.links i with_greeting ∙ known.as_many;
  parts = known.parts;
  ends = λ k. over_kept p.links i k with_greeting (λ l. refl) ∙ known.ends k;
}

pub known-next : (p : Pipeline) (over : List Bool) (links segments i : ℕ) (o : Option ℕ) → Known p over links segments → Known (after_next p i o) over links segments
known-next p over links segments i None known = known
known-next p over links segments i (Some s) known = record {
  few = known.few;
  as_many = length-edit p.links i (with_asked s) ∙ known.as_many;
  parts = known.parts;
  ends = λ k. over_kept p.links i k (with_asked s) (λ l. refl) ∙ known.ends k;
}

pub known-reply : (p : Pipeline) (over : List Bool) (links segments i s : ℕ) (outcome : Outcome) → Known p over links segments → Known (after_reply p i s outcome) over links segments
known-reply p over links segments i s outcome known = record {
  few = known.few;
  as_many = length-edit p.links i without_oldest ∙ known.as_many;
  parts = length-edit p.segments s (with_outcome (server_on p i) outcome) ∙ known.parts;
  ends = λ k. over_kept p.links i k without_oldest (λ l. refl) ∙ known.ends k;
}

pub known-settling : (p : Pipeline) (over : List Bool) (links segments s : ℕ) → Known p over links segments → Known (after_settling p s) over links segments
known-settling p over links segments s known = record {
  few = known.few;
  as_many = known.as_many;
  parts = length-edit p.segments s with_arrival ∙ known.parts;
  ends = known.ends;
}

pub unheld_by : (arrived : Bool) (held : Option ℕ) (spent : Bool) → state_by arrived held spent ≡ Open → held ≡ None
unheld_by true held spent is = cc
unheld_by false (Some link) spent is = cc
unheld_by false None true is = cc
unheld_by false None false is = refl

-- a segment that is open is held by no link
pub unheld : (p : Pipeline) (s : ℕ) → segment_state p s ≡ Open → holder p.links s ≡ None
unheld p s is = unheld_by (is_arrived_at (slice_get p.segments s)) (holder p.links s) (is_spent p s) is

pub known-over : (p : Pipeline) (over : List Bool) (links segments i : ℕ) → i < links → i < length over → Known p over links segments → Known (after_over p i) (set over i true) links segments
known-over p over links segments i inside marked known = record {
  few = known.few;
  as_many = length-edit p.links i with_end ∙ known.as_many;
  parts = known.parts;
  ends = λ k. elim (cases_eq k i) [
    | inl e ↦ ap (λ n. is_over_on (after_over p i) n) e ∙ over_here p.links i (omega (arith, known.as_many)) ∙ sym (ap (λ n. slice_index_or (set over i true) n false) e ∙ mark_here over i marked)
    | inr other ↦ over_other p.links i k with_end other ∙ known.ends k ∙ sym (mark_other over i k other)
  ];
}

none_over : (server_of_link : List ℕ) (k : ℕ) → is_over_of (slice_get (map fresh_link server_of_link) k) ≡ false
none_over [] k = refl
none_over (server ∷ servers) zero = refl
none_over (server ∷ servers) (suc k) = none_over servers k

many_fresh : (server_of_link : List ℕ) → length (map fresh_link server_of_link) ≡ length server_of_link
many_fresh [] = refl
many_fresh (server ∷ servers) = ap (λ n. suc n) (many_fresh servers)

none_marked : (n k : ℕ) → slice_index_or (replicate n false) k false ≡ false
none_marked zero k = refl
none_marked (suc n) zero = refl
none_marked (suc n) (suc k) = none_marked n k

pub known-start : (server_of_link levels : List ℕ) (n depth : ℕ) → length server_of_link ≤ 64 → Known (start server_of_link levels n depth) (replicate 64 false) (length server_of_link) n
known-start server_of_link levels n depth few = record {
  few = few;
  as_many = many_fresh server_of_link;
  parts = length-replicate n unanswered;
  ends = λ k. none_over server_of_link k ∙ sym (none_marked 64 k);
}
