-- What a change leaves of a segment that it doesn't touch.
use Rattle.std.proofs.Common.{◌≡◌, ◌≢◌, ◌+◌, zero, suc, ℕ, Bool, true, false, not, ◌&&◌, ◌||◌, List, [], ◌∷◌, ◌++◌, Option, Some, None, length, drop, refl, ap, sym, ◌∙◌, arith, set}
use Rattle.std.specs.Prelude.{slice_get, ◌==◌}
use Rattle.lists.specs.Edit.{edit_at}
use Rattle.pipeline_core.specs.SegmentAt.{SegmentAt}
use Rattle.pipeline_core.specs.LinkAt.{LinkAt}
use Rattle.pipeline_core.specs.Links.{has_link_left, holder, times, times_asked, with_end}
use Rattle.pipeline_core.specs.PipelineAt.{Pipeline}
use Rattle.pipeline_core.specs.Searches.{all_from, is_done_with, is_arrived_at, is_answered_at, is_below, lets_pass}
use Rattle.pipeline_core.specs.Pipeline.{is_spent, is_turn, state_by, is_open, can_be_asked, segment_state}
use Rattle.pipeline_core.proofs.Searching.{all_agree, all_mono}
use Rattle.pipeline_core.proofs.Exclusive.{set-edit, times-append, times-set, holder-kept, no_holder, none_held}
use Rattle.pipeline_core.proofs.Calls.{no_time, first_place}

abbrev pub changed : Pipeline → List LinkAt → List SegmentAt → Pipeline
changed p links segments = record { links = links; segments = segments; levels = p.levels; depth = p.depth }

pub left-kept : (links : List LinkAt) (i server : ℕ) (f : LinkAt → LinkAt) → ((l : LinkAt) → (f l).server ≡ l.server) → ((l : LinkAt) → (f l).over ≡ l.over) → has_link_left (edit_at i f links) server ≡ has_link_left links server
left-kept [] i server f same over = refl
left-kept (link ∷ links) zero server f same over =
    ap (λ v. ((v == server) && not (f link).over) || has_link_left links server) (same link) ∙ ap (λ b. ((link.server == server) && not b) || has_link_left links server) (over link)
left-kept (link ∷ links) (suc i) server f same over = ap (λ b. ((link.server == server) && not link.over) || b) (left-kept links i server f same over)

or_more : (a b x : Bool) → ((a && false) || x) ≡ true → ((a && b) || x) ≡ true
or_more true true x is = refl
or_more true false x is = is
or_more false b x is = is

or_mono : (a x y : Bool) → (x ≡ true → y ≡ true) → (a || x) ≡ true → (a || y) ≡ true
or_mono true x y more is = refl
or_mono false x y more is = more is

-- a server that has a link left after another one is over had one before
pub left-before : (links : List LinkAt) (i server : ℕ) → has_link_left (edit_at i with_end links) server ≡ true → has_link_left links server ≡ true
left-before [] i server left = left
left-before (link ∷ links) zero server left = or_more (link.server == server) (not link.over) (has_link_left links server) left
left-before (link ∷ links) (suc i) server left =
    or_mono ((link.server == server) && not link.over) (has_link_left (edit_at i with_end links) server) (has_link_left links server) (left-before links i server) left

done_more : (answered left after : Bool) → (after ≡ true → left ≡ true) → (answered || not left) ≡ true → (answered || not after) ≡ true
done_more true left after fewer is = refl
done_more false left false fewer is = refl
done_more false left true fewer is = let has : left ≡ true = fewer refl in let no_way : false ≡ true = sym (ap not has) ∙ is in cc

pub spent-more : (p : Pipeline) (i s : ℕ) → is_spent p s ≡ true → is_spent (changed p (edit_at i with_end p.links) p.segments) s ≡ true
spent-more p i s spent =
    all_mono (is_done_with p.links (slice_get p.segments s)) (is_done_with (edit_at i with_end p.links) (slice_get p.segments s)) 0 (length p.levels)
    (λ v. done_more (is_answered_at v (slice_get p.segments s)) (has_link_left p.links v) (has_link_left (edit_at i with_end p.links) v) (left-before p.links i v)) spent

spent-same : (p : Pipeline) (links : List LinkAt) (segments : List SegmentAt) (s : ℕ) → slice_get segments s ≡ slice_get p.segments s → ((v : ℕ) → has_link_left links v ≡ has_link_left p.links v) → is_spent (changed p links segments) s ≡ is_spent p s
spent-same p links segments s there left =
    ap (λ (o : Option SegmentAt). all_from (is_done_with links o) 0 (length p.levels)) there
    ∙ all_agree (is_done_with links (slice_get p.segments s)) (is_done_with p.links (slice_get p.segments s)) 0 (length p.levels)
    (λ v low high. ap (λ b. is_answered_at v (slice_get p.segments s) || not b) (left v))

pub state-same : (p : Pipeline) (links : List LinkAt) (segments : List SegmentAt) (s : ℕ) → slice_get segments s ≡ slice_get p.segments s → ((v : ℕ) → has_link_left links v ≡ has_link_left p.links v) → holder links s ≡ holder p.links s → segment_state (changed p links segments) s ≡ segment_state p s
state-same p links segments s there left held =
    ap (λ (o : Option SegmentAt). state_by (is_arrived_at o) (holder links s) (is_spent (changed p links segments) s)) there
    ∙ ap (λ (h : Option ℕ). state_by (is_arrived_at (slice_get p.segments s)) h (is_spent (changed p links segments) s)) held
    ∙ ap (λ b. state_by (is_arrived_at (slice_get p.segments s)) (holder p.links s) b) (spent-same p links segments s there left)

turn-same : (p : Pipeline) (links : List LinkAt) (segments : List SegmentAt) (server s : ℕ) → slice_get segments s ≡ slice_get p.segments s → ((v : ℕ) → has_link_left links v ≡ has_link_left p.links v) → is_turn (changed p links segments) server s ≡ is_turn p server s
turn-same p links segments server s there left =
    ap (λ (o : Option SegmentAt). all_from (lets_pass links p.levels server o) 0 (length p.levels)) there
    ∙ all_agree (lets_pass links p.levels server (slice_get p.segments s)) (lets_pass p.links p.levels server (slice_get p.segments s)) 0 (length p.levels)
    (λ v low high. ap (λ b. not (is_below p.levels v server) || (is_answered_at v (slice_get p.segments s) || not b)) (left v))

pub can-same : (p : Pipeline) (links : List LinkAt) (segments : List SegmentAt) (server s : ℕ) → slice_get segments s ≡ slice_get p.segments s → ((v : ℕ) → has_link_left links v ≡ has_link_left p.links v) → holder links s ≡ holder p.links s → can_be_asked (changed p links segments) server s ≡ can_be_asked p server s
can-same p links segments server s there left held =
    ap (λ st. (is_open st && not (is_answered_at server (slice_get segments s))) && is_turn (changed p links segments) server s) (state-same p links segments s there left held)
    ∙ ap (λ (o : Option SegmentAt). (is_open (segment_state p s) && not (is_answered_at server o)) && is_turn (changed p links segments) server s) there
    ∙ ap (λ b. (is_open (segment_state p s) && not (is_answered_at server (slice_get p.segments s))) && b) (turn-same p links segments server s there left)

-- a link's change that leaves a segment as often on it leaves its holder
pub holder-edit : (links : List LinkAt) (i s : ℕ) (f : LinkAt → LinkAt) (old : LinkAt) → slice_get links i ≡ Some old → times s ((f old).asked) ≡ times s old.asked → holder (edit_at i f links) s ≡ holder links s
holder-edit links i s f old is same = ap (λ (ls : List LinkAt). holder ls s) (sym (set-edit links i f old is)) ∙ holder-kept 0 links i s old (f old) is same

pub times-other : (s k : ℕ) (asked : List ℕ) → s ≢ k → times s (asked ++ k ∷ []) ≡ times s asked
times-other s k asked other = omega (arith, times-append s asked (k ∷ []), no_time k s other)

pub times-rest : (s k : ℕ) (asked : List ℕ) → slice_get asked 0 ≡ Some k → s ≢ k → times s (drop 1 asked) ≡ times s asked
times-rest s k asked first other =
    let less : times s asked ≡ times s (k ∷ []) + times s (drop 1 asked) = ap (times s) (first_place asked k first) ∙ times-append s (k ∷ []) (drop 1 asked) in
    omega (arith, less, no_time k s other)

-- a segment that no link holds is held by none after a link is over
pub none-after : (links : List LinkAt) (i s : ℕ) (old : LinkAt) → slice_get links i ≡ Some old → holder links s ≡ None → holder (edit_at i with_end links) s ≡ None
none-after links i s old is none =
    let sums : times_asked (set links i (with_end old)) s + times s old.asked ≡ times_asked links s + 0 = times-set links i s old (with_end old) is in
    let before : times_asked links s ≡ 0 = none_held 0 links s none in
    let after : times_asked (set links i (with_end old)) s ≡ 0 = omega arith in
    ap (λ (ls : List LinkAt). holder ls s) (sym (set-edit links i with_end old is)) ∙ no_holder 0 (set links i (with_end old)) s after
