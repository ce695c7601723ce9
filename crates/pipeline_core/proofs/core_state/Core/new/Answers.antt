use Rattle.std.proofs.Common.{◌≡◌, ◌∙◌, ◌≤◌, zero, suc, ℕ, List, [], ◌∷◌, ◌++◌, Option, None, length, sym, ap, subst, refl, arith, map, take, replicate}
use Rattle.pipeline_core.specs.SegmentAt.{SegmentAt}
use Rattle.pipeline_core.specs.LinkAt.{LinkAt}
use Rattle.pipeline_core.specs.Links.{fresh_link}
use Rattle.pipeline_core.specs.Pipeline.{unanswered, start}
use Rattle.pipeline_core.specs.Sound.{AreSoundLists}
use Rattle.std.proofs.Common.{rules}
use Rattle.pipeline_core.proofs.Calls.{sound-start}
use Rattle.pipeline_core.proofs.Placed.{placed-as, placed-start}
use Rattle.pipeline_core.proofs.core_state.Core.new.Goals as goal

take_past : {A : Type 0} (n : ℕ) (xs : List A) → length xs ≤ n → take n xs ≡ xs
take_past zero [] past = refl
take_past (suc n) [] past = refl
take_past zero (x ∷ xs) past = absurd (omega arith)
take_past (suc n) (x ∷ xs) past = ap (λ t. x ∷ t) (take_past n xs (omega arith))

pub invariant_of-result : goal.invariant_of-result
invariant_of-result c =
    let segments : c.in_ok-vec.field-0.items ≡ replicate c.args.segments unanswered = c.in_ok-vec.ensures.items_if_clones_equal (λ y e. e) ∙ ap (λ (s : SegmentAt). replicate c.args.segments s) c.new-fresh.ensures in
    let holders : c.in_ok-vec-2.field-0.items ≡ replicate c.args.segments None = c.in_ok-vec-2.ensures.items_if_clones_equal (λ y. search rules) in
    let all : take c.loop-server.server-index c.args.server_of_link.now ≡ c.args.server_of_link.now = take_past c.loop-server.server-index c.args.server_of_link.now (omega (arith, c.loop-server-test.false)) in
    let links : c.loop-server.links.items ≡ map fresh_link c.args.server_of_link.now = c.loop-server.invariant ∙ ap (map fresh_link) all in
    let levels : c.extend_from_slice.new.self.items ≡ c.args.level_of_server.now = c.in_ok-extend_from_slice.ensures.items ∙ ap (λ (vs : List ℕ). vs ++ c.args.level_of_server.now) c.new-levels.ensures.items in
    let view : record { links = c.loop-server.links.items; segments = c.in_ok-vec.field-0.items; levels = c.extend_from_slice.new.self.items; depth = c.args.depth } ≡ start c.args.server_of_link.now c.args.level_of_server.now c.args.segments c.args.depth =
    ap (λ (ls : List LinkAt). record { links = ls; segments = c.in_ok-vec.field-0.items; levels = c.extend_from_slice.new.self.items; depth = c.args.depth }) links
    ∙ ap (λ (ss : List SegmentAt). record { links = map fresh_link c.args.server_of_link.now; segments = ss; levels = c.extend_from_slice.new.self.items; depth = c.args.depth }) segments
    ∙ ap (λ (vs : List ℕ). record { links = map fresh_link c.args.server_of_link.now; segments = replicate c.args.segments unanswered; levels = vs; depth = c.args.depth }) levels in
    record {
      sound =
          subst (λ (vs : List ℕ). AreSoundLists c.loop-server.links.items c.in_ok-vec.field-0.items c.in_ok-vec-2.field-0.items vs c.args.depth) (sym levels)
          (subst (λ (ls : List LinkAt). AreSoundLists ls c.in_ok-vec.field-0.items c.in_ok-vec-2.field-0.items c.args.level_of_server.now c.args.depth) (sym links)
          (subst (λ (ss : List SegmentAt). AreSoundLists (map fresh_link c.args.server_of_link.now) ss c.in_ok-vec-2.field-0.items c.args.level_of_server.now c.args.depth) (sym segments)
          (subst (λ (hs : List (Option ℕ)). AreSoundLists (map fresh_link c.args.server_of_link.now) (replicate c.args.segments unanswered) hs c.args.level_of_server.now c.args.depth) (sym holders)
          (sound-start c.args.server_of_link.now c.args.level_of_server.now c.args.segments c.args.depth c.requires.servers c.requires.links c.requires.segments c.requires.depth c.requires.each))));
      placed = placed-as view c.new-2.ensures.lows c.new-2.ensures.fresh c.new-2.ensures.decided (placed-start c.args.server_of_link.now c.args.level_of_server.now c.args.segments c.args.depth);
    }
