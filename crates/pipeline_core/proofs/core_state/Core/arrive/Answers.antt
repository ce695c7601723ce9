use Rattle.std.proofs.Common.{◌≡◌, ◌<◌, ◌∙◌, List, sym, ap, Some, None, false, length, subst, refl, set}
use Rattle.std.specs.Prelude.{slice_get}
use Rattle.std.proofs.lemmas.Option.{slice_get_read}
use Rattle.pipeline_core.specs.SegmentAt.{SegmentAt}
use Rattle.pipeline_core.specs.Links.{holder}
use Rattle.pipeline_core.specs.PipelineAt.{Pipeline}
use Rattle.pipeline_core.specs.Pipeline.{after_settling}
use Rattle.pipeline_core.specs.Searches.{is_arrived_at}
use Rattle.pipeline_core.specs.Sound.{AreSoundLists}
use Rattle.pipeline_core.proofs.Calls.{sound-settling, view-settling}
use Rattle.pipeline_core.proofs.Placed.{placed-as, placed-settling}
use Rattle.pipeline_core.proofs.core_state.Core.arrive.Goals as goal

pub invariant_of-self : goal.invariant_of-self
invariant_of-self c =
    let p : Pipeline = record { links = c.self.inside.links.items; segments = c.self.inside.segments.items; levels = c.self.inside.levels.items; depth = c.self.inside.depth } in
    let within : c.args.segment < length p.segments = subst (λ (q : Pipeline). c.args.segment < length q.segments) (sym c.self.view_is) c.requires.segment in
    let unheld : holder p.links c.args.segment ≡ None = ap (λ (q : Pipeline). holder q.links c.args.segment) c.self.view_is ∙ c.requires.unheld in
    let there : slice_get p.segments c.args.segment ≡ Some c.index_mut.result.now = slice_get_read p.segments (length p.segments) c.args.segment c.index_mut.result.now refl within c.index_mut.ensures.value in
    let view : record { links = p.links; segments = set p.segments c.args.segment c.arrive.new.self; levels = p.levels; depth = p.depth } ≡ after_settling p c.args.segment = view-settling p c.args.segment c.index_mut.result.now c.arrive.new.self there c.arrive.ensures in
    let segments : c.deref.result.now ≡ (after_settling p c.args.segment).segments = c.deref.ensures.value ∙ ap (λ (q : Pipeline). q.segments) view in
    let waited : c.first_to_come-self-inside.result < length (after_settling p c.args.segment).segments → is_arrived_at (slice_get (after_settling p c.args.segment).segments c.first_to_come-self-inside.result) ≡ false =
    subst (λ (ss : List SegmentAt). c.first_to_come-self-inside.result < length ss → is_arrived_at (slice_get ss c.first_to_come-self-inside.result) ≡ false) segments c.first_to_come-self-inside.ensures.waited in
    record {
      sound = subst (λ (s : SegmentAt). AreSoundLists p.links (set p.segments c.args.segment s) c.self.inside.holders.items p.levels p.depth) (sym c.arrive.ensures)
          (sound-settling p.links p.segments c.self.inside.holders.items p.levels p.depth c.args.segment c.index_mut.result.now c.self.invariant.sound there unheld);
      placed = placed-as view refl refl refl
          (placed-settling p c.args.segment c.index_mut.result.now c.self.inside.places.lows c.self.inside.places.fresh c.first_to_come-self-inside.result c.self.inside.places.decided there unheld c.first_to_come-self-inside.ensures.onward waited c.self.invariant.placed);
    }

pub returns : goal.returns
returns c =
    let p : Pipeline = record { links = c.self.inside.links.items; segments = c.self.inside.segments.items; levels = c.self.inside.levels.items; depth = c.self.inside.depth } in
    let within : c.args.segment < length p.segments = subst (λ (q : Pipeline). c.args.segment < length q.segments) (sym c.self.view_is) c.requires.segment in
    let there : slice_get p.segments c.args.segment ≡ Some c.index_mut.result.now = slice_get_read p.segments (length p.segments) c.args.segment c.index_mut.result.now refl within c.index_mut.ensures.value in
    view-settling p c.args.segment c.index_mut.result.now c.arrive.new.self there c.arrive.ensures ∙ ap (λ (q : Pipeline). after_settling q c.args.segment) c.self.view_is
