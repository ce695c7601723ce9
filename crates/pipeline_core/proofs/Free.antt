-- Which segment a link may ask for.
use Rattle.std.proofs.Common.{◌≡◌, ◌<◌, zero, suc, ℕ, Bool, true, false, not, ◌&&◌, ◌||◌, List, [], ◌∷◌, Option, Some, None, length, refl, ap, sym, ◌∙◌, arith}
use Rattle.std.specs.Prelude.{slice_get, slice_index_or, nat_lt, ◌==◌}
use Rattle.std.proofs.lemmas.Bool.Decides.{nat_tests}
use Rattle.pipeline_core.specs.SegmentAt.{SegmentAt}
use Rattle.pipeline_core.specs.LinkAt.{LinkAt}
use Rattle.pipeline_core.specs.Links.{may_ask, has_link_left, holder}
use Rattle.pipeline_core.specs.PipelineAt.{Pipeline}
use Rattle.pipeline_core.specs.Searches.{all_from, first_from, is_done_with, is_arrived_at, is_answered_at, is_below, lets_pass, passes, waits_for}
use Rattle.pipeline_core.specs.Pipeline.{is_spent, is_turn, state_by, is_open, can_be_asked, next_segment, next_on, segment_state}
use Rattle.pipeline_core.proofs.Searching.{not_all, all_agree, first_found, chosen_from}

or_true : (b : Bool) → (b || true) ≡ true
or_true true = refl
or_true false = refl

and_false : (b : Bool) → (b && false) ≡ false
and_false true = refl
and_false false = refl

pub link_left : (links : List LinkAt) (i : ℕ) (link : LinkAt) → slice_get links i ≡ Some link → link.over ≡ false → has_link_left links link.server ≡ true
link_left [] i link is live = cc
link_left (other ∷ links) zero link is live =
    let same : other ≡ link = cc in
    let test : (link.server == link.server) ≡ true = grind (arith, nat_tests) in
    rw (same, test, live) refl
link_left (other ∷ links) (suc i) link is live = rw (link_left links i link is live) (or_true ((other.server == link.server) && not other.over))

live_by : (greeted over room : Bool) → (greeted && not over && room) ≡ true → over ≡ false
live_by true true room may = cc
live_by true false room may = refl
live_by false over room may = cc

pub may_ask_live : (depth : ℕ) (link : LinkAt) → may_ask depth link ≡ true → link.over ≡ false
may_ask_live depth link may = live_by link.greeted link.over (nat_lt (length link.asked) depth) may

held_closed : (arrived : Bool) (h : Option ℕ) (link : ℕ) (spent unanswered turn : Bool) → h ≡ Some link → false ≡ ((is_open (state_by arrived h spent) && unanswered) && turn)
held_closed true h link spent unanswered turn is = refl
held_closed false h link spent unanswered turn is = rw is refl

-- a segment that is held can't be asked for
pub held_cannot : (p : Pipeline) (server k link : ℕ) → holder p.links k ≡ Some link → false ≡ can_be_asked p server k
held_cannot p server k link held =
    held_closed (is_arrived_at (slice_get p.segments k)) (holder p.links k) link (is_spent p k) (not (is_answered_at server (slice_get p.segments k))) (is_turn p server k) held

arrived_closed : (arrived : Bool) (h : Option ℕ) (spent unanswered turn : Bool) → arrived ≡ true → false ≡ ((is_open (state_by arrived h spent) && unanswered) && turn)
arrived_closed true h spent unanswered turn is = refl
arrived_closed false h spent unanswered turn is = cc

pub arrived_cannot : (p : Pipeline) (server k : ℕ) → is_arrived_at (slice_get p.segments k) ≡ true → false ≡ can_be_asked p server k
arrived_cannot p server k is =
    arrived_closed (is_arrived_at (slice_get p.segments k)) (holder p.links k) (is_spent p k) (not (is_answered_at server (slice_get p.segments k))) (is_turn p server k) is

pub answered_cannot : (p : Pipeline) (server k : ℕ) → is_answered_at server (slice_get p.segments k) ≡ true → false ≡ can_be_asked p server k
answered_cannot p server k is =
    ap (λ b. b && is_turn p server k) (sym (and_false (is_open (segment_state p k)))) ∙ ap (λ b. (is_open (segment_state p k) && not b) && is_turn p server k) (sym is)

pub mark_read : (xs : List Bool) (i : ℕ) (x : Bool) → slice_get xs i ≡ Some x → slice_index_or xs i false ≡ x
mark_read [] i x is = cc
mark_read (y ∷ ys) zero x is = let same : y ≡ x = cc in same
mark_read (y ∷ ys) (suc i) x is = mark_read ys i x is

passes_by : (below left answered : Bool) → (not (below && left) || answered) ≡ (not below || (answered || not left))
passes_by true true true = refl
passes_by true true false = refl
passes_by true false true = refl
passes_by true false false = refl
passes_by false left answered = refl

-- the marks of the servers that are waited for say whose turn it is
pub turn_is : (p : Pipeline) (server k : ℕ) (segment : SegmentAt) (waits : List Bool) → slice_get p.segments k ≡ Some segment → ((other : ℕ) → other < length p.levels → slice_get waits other ≡ Some (waits_for p.links p.levels server other)) → all_from (passes waits segment.answered) 0 (length p.levels) ≡ is_turn p server k
turn_is p server k segment waits read marked =
    all_agree (passes waits segment.answered) (lets_pass p.links p.levels server (Some segment)) 0 (length p.levels)
    (λ other low high.
    let mark : slice_index_or waits other false ≡ waits_for p.links p.levels server other = mark_read waits other (waits_for p.links p.levels server other) (marked other (omega arith)) in
    ap (λ b. not b || slice_index_or segment.answered other false) mark
    ∙ passes_by (is_below p.levels other server) (has_link_left p.links other) (slice_index_or segment.answered other false))
    ∙ ap (λ (o : Option SegmentAt). all_from (lets_pass p.links p.levels server o) 0 (length p.levels)) (sym read)

open_if : (arrived answered spent turn : Bool) (h : Option ℕ) → arrived ≡ false → h ≡ None → answered ≡ false → spent ≡ false → turn ≡ ((is_open (state_by arrived h spent) && not answered) && turn)
open_if arrived answered spent turn h one two three four = rw (one, two, three, four) refl

-- a segment that no link holds, that hasn't arrived, and that a server with a link left hasn't answered
pub turn_decides : (p : Pipeline) (server k : ℕ) (segment : SegmentAt) → slice_get p.segments k ≡ Some segment → holder p.links k ≡ None → segment.arrived ≡ false → slice_index_or segment.answered server false ≡ false → server < length p.levels → has_link_left p.links server ≡ true → is_turn p server k ≡ can_be_asked p server k
turn_decides p server k segment read unheld not_arrived unanswered below left =
    let spent : is_spent p k ≡ false = ap (λ (o : Option SegmentAt). all_from (is_done_with p.links o) 0 (length p.levels)) read
    ∙ not_all (is_done_with p.links (Some segment)) 0 (length p.levels) server (omega arith) (omega arith) (rw (unanswered, left) refl) in
    open_if (is_arrived_at (slice_get p.segments k)) (is_answered_at server (slice_get p.segments k)) (is_spent p k) (is_turn p server k) (holder p.links k)
    (ap is_arrived_at read ∙ not_arrived) unheld (ap (is_answered_at server) read ∙ unanswered) spent

pub found_is_next : (p : Pipeline) (i : ℕ) (link : LinkAt) → slice_get p.links i ≡ Some link → may_ask p.depth link ≡ true → first_from (can_be_asked p link.server) 0 (length p.segments) ≡ next_segment p i
found_is_next p i link is may = sym (ap (next_on p) is ∙ rw may refl)

pub none_is_next : (p : Pipeline) (i : ℕ) (link : LinkAt) → slice_get p.links i ≡ Some link → may_ask p.depth link ≡ false → None ≡ next_segment p i
none_is_next p i link is not_now = sym (ap (next_on p) is ∙ rw not_now refl)

-- what was found for a link, and that nothing was
pub next_found : (p : Pipeline) (i k : ℕ) (link : LinkAt) → slice_get p.links i ≡ Some link → next_segment p i ≡ Some k → first_from (can_be_asked p link.server) 0 (length p.segments) ≡ Some k
next_found p i k link read is =
    let both = chosen_from (may_ask p.depth link) (first_from (can_be_asked p link.server) 0 (length p.segments)) k (sym (ap (next_on p) read) ∙ is) in both.1

unanswered_if : (open_one answered turn : Bool) → ((open_one && not answered) && turn) ≡ true → answered ≡ false
unanswered_if true true turn is = cc
unanswered_if true false turn is = refl
unanswered_if false answered turn is = cc

-- what is known of the next segment
pub record IsNext (p : Pipeline) (link : LinkAt) (k : ℕ) : Type 0 where
  pub room : length link.asked < p.depth
  pub live : link.over ≡ false
  pub below : k < length p.segments
  pub unheld : holder p.links k ≡ None
  pub not_arrived : is_arrived_at (slice_get p.segments k) ≡ false
  pub not_answered : is_answered_at link.server (slice_get p.segments k) ≡ false

room_by : (greeted over : Bool) (asked depth : ℕ) → (greeted && not over && nat_lt asked depth) ≡ true → asked < depth
room_by true true asked depth may = cc
room_by true false asked depth may = let test : nat_lt asked depth ≡ true = may in grind (arith, nat_tests)
room_by false over asked depth may = cc

open_by : (arrived : Bool) (h : Option ℕ) (spent unanswered turn : Bool) → ((is_open (state_by arrived h spent) && unanswered) && turn) ≡ true → (arrived ≡ false) × (h ≡ None)
open_by true h spent unanswered turn is = cc
open_by false (Some link) spent unanswered turn is = cc
open_by false None spent unanswered turn is = (refl, refl)

pub is_next : (p : Pipeline) (i k : ℕ) (link : LinkAt) → slice_get p.links i ≡ Some link → next_segment p i ≡ Some k → IsNext p link k
is_next p i k link read is =
    let both = chosen_from (may_ask p.depth link) (first_from (can_be_asked p link.server) 0 (length p.segments)) k (sym (ap (next_on p) read) ∙ is) in
    let found = first_found (can_be_asked p link.server) 0 (length p.segments) k both.1 in
    let free = open_by (is_arrived_at (slice_get p.segments k)) (holder p.links k) (is_spent p k) (not (is_answered_at link.server (slice_get p.segments k))) (is_turn p link.server k) found.0 in
    record {
      room = room_by link.greeted link.over (length link.asked) p.depth both.0;
      live = may_ask_live p.depth link both.0;
      below = omega (arith, found.2);
      unheld = free.1;
      not_arrived = free.0;
      not_answered = unanswered_if (is_open (segment_state p k)) (is_answered_at link.server (slice_get p.segments k)) (is_turn p link.server k) found.0;
    }

below_by : (p : Pipeline) (i k : ℕ) (o : Option LinkAt) → slice_get p.links i ≡ o → next_segment p i ≡ Some k → k < length p.segments
below_by p i k None read is = let none : next_segment p i ≡ None = ap (next_on p) read in let no_way : None ≡ Some k = sym none ∙ is in cc
below_by p i k (Some link) read is = (is_next p i k link read is).below

-- the next segment is one of the segments
pub next_below : (p : Pipeline) (i k : ℕ) → next_segment p i ≡ Some k → k < length p.segments
next_below p i k is = below_by p i k (slice_get p.links i) refl is
