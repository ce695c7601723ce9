use Rattle.std.proofs.Common.{◌≡◌, ◌∙◌, ◌++◌, take, drop, ℕ, List, Option, sym, ap, length, subst, refl, set}
use Rattle.std.specs.Prelude.{slice_get}
use Rattle.pipeline_core.specs.LinkAt.{LinkAt}
use Rattle.pipeline_core.specs.Links.{with_end}
use Rattle.pipeline_core.specs.PipelineAt.{Pipeline}
use Rattle.pipeline_core.specs.Pipeline.{after_over}
use Rattle.pipeline_core.specs.Searches.{forgotten_at}
use Rattle.pipeline_core.specs.Sound.{AreSoundLists}
use Rattle.pipeline_core.proofs.Calls.{sound-over, view-link, written_whole}
use Rattle.pipeline_core.proofs.Placed.{placed-as, placed-over}
use Rattle.pipeline_core.proofs.CallReads.{link_read}
use Rattle.pipeline_core.proofs.core_state.Core.end.Goals as goal

pub invariant_of-self : goal.invariant_of-self
invariant_of-self c =
    let p : Pipeline = record { links = c.self.inside.links.items; segments = c.self.inside.segments.items; levels = c.self.inside.levels.items; depth = c.self.inside.depth } in
    let is : p ≡ c.args.self.now = c.self.view_is in
    let read = link_read c.args.link c.index_mut.result.now c.self.view_is c.requires.link c.index_mut.ensures.value in
    let same : length c.forget.new.holders ≡ length c.self.inside.holders.items = c.forget.ensures.len ∙ ap (λ (t : List (Option ℕ)). length t) c.deref_mut.ensures.value in
    let each : (k : ℕ) → slice_get c.forget.new.holders k ≡ forgotten_at c.args.link (slice_get c.self.inside.holders.items k) = λ k. c.forget.ensures.each k ∙ ap (λ (t : List (Option ℕ)). forgotten_at c.args.link (slice_get t k)) c.deref_mut.ensures.value in
    let back = written_whole c.self.inside.holders.len c.forget.new.holders c.self.inside.holders.items (sym c.self.inside.holders.ok.0) same in
    record {
      sound =
          subst (λ (l : LinkAt). AreSoundLists (set c.self.inside.links.items c.args.link l) c.self.inside.segments.items (take c.self.inside.holders.len (c.forget.new.holders ++ drop (length c.forget.new.holders) c.self.inside.holders.items)) c.self.inside.levels.items c.self.inside.depth) (sym c.end.ensures)
          (subst (λ (h : List (Option ℕ)). AreSoundLists (set c.self.inside.links.items c.args.link (with_end c.index_mut.result.now)) c.self.inside.segments.items h c.self.inside.levels.items c.self.inside.depth) (sym back)
          (sound-over c.self.inside.links.items c.self.inside.segments.items c.self.inside.holders.items c.forget.new.holders c.self.inside.levels.items c.self.inside.depth c.args.link c.index_mut.result.now c.self.invariant.sound read same each));
      placed = placed-as (view-link c.self.inside.links.items c.self.inside.segments.items c.self.inside.levels.items c.self.inside.depth c.args.link with_end c.index_mut.result.now c.end.new.self read c.end.ensures) refl c.note_over.ensures.fresh c.note_over.ensures.decided (placed-over p c.args.link c.index_mut.result.now c.self.inside.places.lows c.note_over.new.self.lows c.self.inside.places.fresh c.self.inside.places.decided read c.note_over.ensures.lows c.self.invariant.placed);
    }

pub returns : goal.returns
returns c =
    let read = link_read c.args.link c.index_mut.result.now c.self.view_is c.requires.link c.index_mut.ensures.value in
    view-link c.self.inside.links.items c.self.inside.segments.items c.self.inside.levels.items c.self.inside.depth c.args.link with_end c.index_mut.result.now c.end.new.self read c.end.ensures
    ∙ ap (λ (q : Pipeline). after_over q c.args.link) c.self.view_is
