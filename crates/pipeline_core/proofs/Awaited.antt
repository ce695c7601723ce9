-- Where a fetch isn't finished and no link has a segment to ask for, a reply is awaited on some link.
use Rattle.std.proofs.Common.{◌≡◌, ◌≢◌, ◌+◌, ◌<◌, ◌≤◌, inl, inr, zero, suc, ℕ, Bool, true, false, not, ◌&&◌, ◌||◌, List, [], ◌∷◌, Option, Some, None, length, refl, ap, sym, ◌∙◌, arith}
use Rattle.std.specs.Prelude.{slice_get, cond, nat_lt, ◌==◌}
use Rattle.std.proofs.lemmas.Bool.Decides.{nat_tests}
use Rattle.pipeline_core.specs.LinkAt.{LinkAt}
use Rattle.pipeline_core.specs.SegmentAt.{SegmentAt}
use Rattle.pipeline_core.specs.Links.{may_ask, has_link_left, holder, holder_from, times}
use Rattle.pipeline_core.specs.PipelineAt.{Pipeline}
use Rattle.pipeline_core.specs.Searches.{all_from, first_from, is_done_with, is_arrived_at, is_answered_at, is_below, level_of, lets_pass}
use Rattle.pipeline_core.specs.Pipeline.{is_spent, is_turn, state_by, segment_state, is_open, is_decided, can_be_asked, next_segment, next_on, is_finished}
use Rattle.pipeline_core.proofs.Searching.{first_none_at}
use Rattle.pipeline_core.specs.Sound.{AreIdle}
use Rattle.pipeline_core.specs.Awaited.{IsAwaited}

-- ---- searches that fail

record FailsAt (test : ℕ → Bool) (start count : ℕ) : Type 0 where
  s : ℕ
  low : start ≤ s
  high : s < start + count
  fails : test s ≡ false

and_right : (b c : Bool) → b ≡ true → (b && c) ≡ false → c ≡ false
and_right true c is none = none
and_right false c is none = cc

fails_on : (test : ℕ → Bool) (start count : ℕ) → FailsAt test (start + 1) count → FailsAt test start (suc count)
fails_on test start count found = let low : start + 1 ≤ found.s = found.low in let high : found.s < (start + 1) + count = found.high in
    record { s = found.s; low = omega (arith, low); high = omega (arith, high); fails = found.fails }

not_here : (test : ℕ → Bool) (start count : ℕ) (b : Bool) → (all_from test (start + 1) count ≡ false → FailsAt test (start + 1) count) → test start ≡ b → (test start && all_from test (start + 1) count) ≡ false → FailsAt test start (suc count)
not_here test start count true behind here none = fails_on test start count (behind (and_right (test start) (all_from test (start + 1) count) here none))
not_here test start count false behind here none = record { s = start; low = omega arith; high = omega arith; fails = here }

not_all_at : (test : ℕ → Bool) (start count : ℕ) → all_from test start count ≡ false → FailsAt test start count
not_all_at test start zero none = cc
not_all_at test start (suc count) none = not_here test start count (test start) (not_all_at test (start + 1) count) refl none

-- ---- a link of a server, and the link that holds a segment

record LinkLeft (links : List LinkAt) (server : ℕ) : Type 0 where
  k : ℕ
  link : LinkAt
  here : slice_get links k ≡ Some link
  its : link.server ≡ server
  live : link.over ≡ false

both_true : (a b : Bool) → (a && b) ≡ true → (a ≡ true) × (b ≡ true)
both_true true b is = (refl, is)
both_true false b is = cc

not_true : (b : Bool) → not b ≡ true → b ≡ false
not_true true is = cc
not_true false is = refl

left_on : (links : List LinkAt) (link : LinkAt) (server : ℕ) → LinkLeft links server → LinkLeft (link ∷ links) server
left_on links link server left = record { k = suc left.k; link = left.link; here = left.here; its = left.its; live = left.live }

left_here : (links : List LinkAt) (link : LinkAt) (server : ℕ) (b : Bool) → (has_link_left links server ≡ true → LinkLeft links server) → ((link.server == server) && not link.over) ≡ b → (b || has_link_left links server) ≡ true → LinkLeft (link ∷ links) server
left_here links link server true behind here is =
    let two = both_true (link.server == server) (not link.over) here in
    let same : (link.server == server) ≡ true = two.0 in
    record { k = zero; link = link; here = refl; its = grind (arith, nat_tests); live = not_true link.over two.1 }
left_here links link server false behind here is = left_on links link server (behind is)

left_at : (links : List LinkAt) (server : ℕ) → has_link_left links server ≡ true → LinkLeft links server
left_at [] server is = cc
left_at (link ∷ links) server is = left_here links link server ((link.server == server) && not link.over) (left_at links server) refl is

record HeldOn (links : List LinkAt) (s : ℕ) : Type 0 where
  k : ℕ
  link : LinkAt
  here : slice_get links k ≡ Some link
  some : 0 < times s link.asked

held_on : (links : List LinkAt) (link : LinkAt) (s : ℕ) → HeldOn links s → HeldOn (link ∷ links) s
held_on links link s held = record { k = suc held.k; link = held.link; here = held.here; some = held.some }

held_here : (n : ℕ) (links : List LinkAt) (link : LinkAt) (s i : ℕ) (b : Bool) → (holder_from (n + 1) links s ≡ Some i → HeldOn links s) → nat_lt 0 (times s link.asked) ≡ b → cond b (Some n) (holder_from (n + 1) links s) ≡ Some i → HeldOn (link ∷ links) s
held_here n links link s i true behind here is = record { k = zero; link = link; here = refl; some = grind (arith, nat_tests) }
held_here n links link s i false behind here is = held_on links link s (behind is)

held_at : (n : ℕ) (links : List LinkAt) (s i : ℕ) → holder_from n links s ≡ Some i → HeldOn links s
held_at n [] s i is = cc
held_at n (link ∷ links) s i is = held_here n links link s i (nat_lt 0 (times s link.asked)) (held_at (n + 1) links s i) refl is

-- ---- a segment that is held

some_asked : (s : ℕ) (asked : List ℕ) → 0 < times s asked → asked ≢ []
some_asked s [] some none = omega (arith, some)
some_asked s (k ∷ asked) some none = cc

live_by : (p : Pipeline) (k : ℕ) (link : LinkAt) (b : Bool) → AreIdle p.links → slice_get p.links k ≡ Some link → link.asked ≢ [] → link.over ≡ b → IsAwaited p
live_by p k link true idle here some over = absurd (some (idle k link here over))
live_by p k link false idle here some live = record { k = k; link = link; here = here; live = live; waits = inr some }

-- ---- a segment that is open

-- a server that isn't done with the segment
record IsLeft (p : Pipeline) (segment : Option SegmentAt) (server : ℕ) : Type 0 where
  unanswered : is_answered_at server segment ≡ false
  left : has_link_left p.links server ≡ true

left_by : (p : Pipeline) (segment : Option SegmentAt) (server : ℕ) (a b : Bool) → is_answered_at server segment ≡ a → has_link_left p.links server ≡ b → (a || not b) ≡ false → IsLeft p segment server
left_by p segment server true b one two none = cc
left_by p segment server false true one two none = record { unanswered = one; left = two }
left_by p segment server false false one two none = cc

is_left : (p : Pipeline) (segment : Option SegmentAt) (server : ℕ) → is_done_with p.links segment server ≡ false → IsLeft p segment server
is_left p segment server none = left_by p segment server (is_answered_at server segment) (has_link_left p.links server) refl refl none

below_by : (p : Pipeline) (segment : Option SegmentAt) (server other : ℕ) (a : Bool) → is_below p.levels other server ≡ a → (not a || is_done_with p.links segment other) ≡ false → (level_of p.levels other < level_of p.levels server) × IsLeft p segment other
below_by p segment server other true below none = (grind (arith, nat_tests), is_left p segment other none)
below_by p segment server other false below none = cc

-- a link that is greeted has no room where it could ask
full_by : (p : Pipeline) (k : ℕ) (link : LinkAt) (b : Bool) → 1 ≤ p.depth → slice_get p.links k ≡ Some link → link.over ≡ false → link.greeted ≡ b → may_ask p.depth link ≡ false → IsAwaited p
full_by p k link false deep here live greeted full = record { k = k; link = link; here = here; live = live; waits = inl greeted }
full_by p k link true deep here live greeted full =
    let no_room : nat_lt (length link.asked) p.depth ≡ false = sym (rw (greeted, live) refl) ∙ full in
    let many : 1 ≤ length link.asked = let deeper : p.depth ≤ length link.asked = grind (arith, nat_tests) in omega (arith, deep, deeper) in
    record { k = k; link = link; here = here; live = live; waits = inr (λ none. let len : length link.asked ≡ 0 = ap (λ (xs : List ℕ). length xs) none in omega (arith, many, len)) }

asks_none : (p : Pipeline) (k server s : ℕ) (link : LinkAt) (b : Bool) → 1 ≤ p.depth → slice_get p.links k ≡ Some link → link.server ≡ server → link.over ≡ false → s < length p.segments → can_be_asked p server s ≡ true → may_ask p.depth link ≡ b → cond b (first_from (can_be_asked p link.server) 0 (length p.segments)) None ≡ None → IsAwaited p
asks_none p k server s link false deep here its live within can full none = full_by p k link link.greeted deep here live refl full
asks_none p k server s link true deep here its live within can room none =
    let shut : can_be_asked p link.server s ≡ false = first_none_at (can_be_asked p link.server) 0 (length p.segments) s none (omega arith) (omega (arith, within)) in
    let open_here : can_be_asked p link.server s ≡ true = ap (λ v. can_be_asked p v s) its ∙ can in
    let no_way : true ≡ false = sym open_here ∙ shut in cc

of_server : (p : Pipeline) (server s : ℕ) → 1 ≤ p.depth → ((k : ℕ) → next_segment p k ≡ None) → s < length p.segments → can_be_asked p server s ≡ true → LinkLeft p.links server → IsAwaited p
of_server p server s deep full within can left =
    let none : next_on p (Some left.link) ≡ None = ap (next_on p) (sym left.here) ∙ full left.k in
    asks_none p left.k server s left.link (may_ask p.depth left.link) deep left.here left.its left.live within can refl none

-- the segment is open: some server of the least level isn't done with it, and that one is being asked, or isn't greeted
abbrev Lower : Pipeline → ℕ → ℕ → Type 0
Lower p s n = (server : ℕ) → level_of p.levels server < n → IsLeft p (slice_get p.segments s) server → IsAwaited p

by_turn : (n : ℕ) (p : Pipeline) (server s : ℕ) (b : Bool) → Lower p s n → 1 ≤ p.depth → ((k : ℕ) → next_segment p k ≡ None) → s < length p.segments → is_open (segment_state p s) ≡ true → level_of p.levels server < suc n → IsLeft p (slice_get p.segments s) server → is_turn p server s ≡ b → IsAwaited p
by_turn n p server s true lower deep full within open_ low left turn =
    let can : can_be_asked p server s ≡ true = let unanswered : is_answered_at server (slice_get p.segments s) ≡ false = left.unanswered in rw (open_, unanswered, turn) refl in
    of_server p server s deep full within can (left_at p.links server left.left)
by_turn n p server s false lower deep full within open_ low left turn =
    let found = not_all_at (lets_pass p.links p.levels server (slice_get p.segments s)) 0 (length p.levels) turn in
    let other = below_by p (slice_get p.segments s) server found.s (is_below p.levels found.s server) refl found.fails in
    let less : level_of p.levels found.s < level_of p.levels server = other.0 in
    lower found.s (omega (arith, low, less)) other.1

by_level : (n : ℕ) (p : Pipeline) (server s : ℕ) → 1 ≤ p.depth → ((k : ℕ) → next_segment p k ≡ None) → s < length p.segments → is_open (segment_state p s) ≡ true → level_of p.levels server < n → IsLeft p (slice_get p.segments s) server → IsAwaited p
by_level zero p server s deep full within open_ low left = absurd (omega (arith, low))
by_level (suc n) p server s deep full within open_ low left =
    by_turn n p server s (is_turn p server s) (λ other less other_left. by_level n p other s deep full within open_ less other_left) deep full within open_ low left refl

-- ---- all of it

by_state : (p : Pipeline) (s : ℕ) (arrived spent : Bool) (held : Option ℕ) → 1 ≤ p.depth → AreIdle p.links → ((k : ℕ) → next_segment p k ≡ None) → s < length p.segments → is_arrived_at (slice_get p.segments s) ≡ arrived → holder p.links s ≡ held → is_spent p s ≡ spent → is_decided (state_by arrived held spent) ≡ false → IsAwaited p
by_state p s true spent held deep idle full within one two three undecided = cc
by_state p s false spent (Some i) deep idle full within one two three undecided =
    let on = held_at 0 p.links s i two in live_by p on.k on.link on.link.over idle on.here (some_asked s on.link.asked on.some) refl
by_state p s false true None deep idle full within one two three undecided = cc
by_state p s false false None deep idle full within one two three undecided =
    let found = not_all_at (is_done_with p.links (slice_get p.segments s)) 0 (length p.levels) three in
    let open_ : is_open (segment_state p s) ≡ true = rw (one, two, three) refl in
    by_level (suc (level_of p.levels found.s)) p found.s s deep full within open_ (omega arith) (is_left p (slice_get p.segments s) found.s found.fails)

pub someone_is_awaited : (p : Pipeline) → 1 ≤ p.depth → AreIdle p.links → ((k : ℕ) → next_segment p k ≡ None) → is_finished p ≡ false → IsAwaited p
someone_is_awaited p deep idle full unfinished =
    let found = not_all_at (λ segment. is_decided (segment_state p segment)) 0 (length p.segments) unfinished in
    let high : found.s < 0 + length p.segments = found.high in
    by_state p found.s (is_arrived_at (slice_get p.segments found.s)) (is_spent p found.s) (holder p.links found.s) deep idle full (omega (arith, high)) refl refl refl found.fails
