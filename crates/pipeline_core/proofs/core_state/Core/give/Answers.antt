use Rattle.std.proofs.Common.{◌≡◌, ◌<◌, ◌∙◌, ◌+◌, List, false, sym, ap, Some, length, arith, subst, refl, set}
use Rattle.std.specs.Prelude.{slice_get}
use Rattle.pipeline_core.specs.LinkAt.{LinkAt}
use Rattle.pipeline_core.specs.SegmentAt.{SegmentAt}
use Rattle.pipeline_core.specs.Links.{with_asked}
use Rattle.pipeline_core.specs.PipelineAt.{Pipeline}
use Rattle.pipeline_core.specs.Pipeline.{after_next}
use Rattle.pipeline_core.specs.Searches.{is_arrived_at}
use Rattle.pipeline_core.specs.Sound.{AreSoundLists}
use Rattle.pipeline_core.proofs.Calls.{sound-next, view-link}
use Rattle.pipeline_core.proofs.Free.{next_found}
use Rattle.pipeline_core.proofs.Placed.{placed-as, placed-next}
use Rattle.pipeline_core.proofs.CallReads.{asker_read}
use Rattle.pipeline_core.proofs.core_state.Core.give.Goals as goal
use Rattle.limits.specs.declared.TheConstants.{MOST_SERVERS}

pub ask-requires : goal.ask-requires
ask-requires c =
    let p : Pipeline = record { links = c.self.inside.links.items; segments = c.self.inside.segments.items; levels = c.self.inside.levels.items; depth = c.self.inside.depth } in
    let asker = asker_read c.args.link c.args.segment c.index_mut-asker.result.now c.self.view_is c.requires.link c.requires.next c.index_mut-asker.ensures.value in
    omega (arith, asker.next.room, c.self.invariant.sound.limited.small_depth)

pub index_mut-requires : goal.index_mut-requires
index_mut-requires c =
    let p : Pipeline = record { links = c.self.inside.links.items; segments = c.self.inside.segments.items; levels = c.self.inside.levels.items; depth = c.self.inside.depth } in
    let asker = asker_read c.args.link c.args.segment c.index_mut-asker.result.now c.self.view_is c.requires.link c.requires.next c.index_mut-asker.ensures.value in
    omega (arith, asker.next.below, c.self.invariant.sound.held.same, c.self.inside.holders.ok)

pub note_asked-requires-clause-server : goal.note_asked-requires-clause-server
note_asked-requires-clause-server c =
    let p : Pipeline = record { links = c.self.inside.links.items; segments = c.self.inside.segments.items; levels = c.self.inside.levels.items; depth = c.self.inside.depth } in
    let asker = asker_read c.args.link c.args.segment c.index_mut-asker.result.now c.self.view_is c.requires.link c.requires.next c.index_mut-asker.ensures.value in
    let fits = c.self.invariant.sound.limited.each c.args.link c.index_mut-asker.result.now asker.there in
    omega (arith, fits.0, c.server-server.ensures, c.self.invariant.sound.limited.few_servers)

pub note_asked-requires-clause-segment : goal.note_asked-requires-clause-segment
note_asked-requires-clause-segment c =
    let p : Pipeline = record { links = c.self.inside.links.items; segments = c.self.inside.segments.items; levels = c.self.inside.levels.items; depth = c.self.inside.depth } in
    let asker = asker_read c.args.link c.args.segment c.index_mut-asker.result.now c.self.view_is c.requires.link c.requires.next c.index_mut-asker.ensures.value in
    omega (arith, asker.next.below, c.self.invariant.sound.limited.few_segments)

pub invariant_of-self : goal.invariant_of-self
invariant_of-self c =
    let p : Pipeline = record { links = c.self.inside.links.items; segments = c.self.inside.segments.items; levels = c.self.inside.levels.items; depth = c.self.inside.depth } in
    let asker = asker_read c.args.link c.args.segment c.index_mut-asker.result.now c.self.view_is c.requires.link c.requires.next c.index_mut-asker.ensures.value in
    let fits = c.self.invariant.sound.limited.each c.args.link c.index_mut-asker.result.now asker.there in
    let small : c.index_mut-asker.result.now.server < MOST_SERVERS = omega (arith, fits.0, c.self.invariant.sound.limited.few_servers) in
    let lows : c.note_asked.new.self.lows ≡ set c.self.inside.places.lows c.index_mut-asker.result.now.server (c.args.segment + 1) = c.note_asked.ensures.lows ∙ ap (λ v. set c.self.inside.places.lows v (c.args.segment + 1)) c.server-server.ensures in
    let waited : c.first_to_come-self-inside.result < length p.segments → is_arrived_at (slice_get p.segments c.first_to_come-self-inside.result) ≡ false = subst (λ (ss : List SegmentAt). c.first_to_come-self-inside.result < length ss → is_arrived_at (slice_get ss c.first_to_come-self-inside.result) ≡ false) c.deref.ensures.value c.first_to_come-self-inside.ensures.waited in
    record {
      sound = subst (λ (l : LinkAt). AreSoundLists (set p.links c.args.link l) p.segments (set c.self.inside.holders.items c.args.segment (Some c.args.link)) p.levels p.depth) (sym c.ask.ensures)
          (sound-next p c.self.inside.holders.items c.args.link c.args.segment c.index_mut-asker.result.now c.self.invariant.sound asker.there asker.next);
      placed = placed-as (view-link c.self.inside.links.items c.self.inside.segments.items c.self.inside.levels.items c.self.inside.depth c.args.link (with_asked c.args.segment) c.index_mut-asker.result.now c.ask.new.self asker.there c.ask.ensures) lows refl c.note_asked.ensures.decided
          (placed-next p c.args.link c.args.segment c.index_mut-asker.result.now c.self.inside.places.lows c.self.inside.places.fresh c.first_to_come-self-inside.result c.self.inside.places.decided asker.there asker.next
          (next_found p c.args.link c.args.segment c.index_mut-asker.result.now asker.there asker.asks) small (omega (arith, c.note_asked.ensures.kept, c.first_to_come-self-inside.ensures.onward)) (omega (arith, c.note_asked.ensures.past, c.first_to_come-self-inside.ensures.onward)) waited c.self.invariant.placed);
    }

pub returns : goal.returns
returns c =
    let p : Pipeline = record { links = c.self.inside.links.items; segments = c.self.inside.segments.items; levels = c.self.inside.levels.items; depth = c.self.inside.depth } in
    let asker = asker_read c.args.link c.args.segment c.index_mut-asker.result.now c.self.view_is c.requires.link c.requires.next c.index_mut-asker.ensures.value in
    view-link c.self.inside.links.items c.self.inside.segments.items c.self.inside.levels.items c.self.inside.depth c.args.link (with_asked c.args.segment) c.index_mut-asker.result.now c.ask.new.self asker.there c.ask.ensures
    ∙ ap (λ (q : Pipeline). after_next q c.args.link (Some c.args.segment)) c.self.view_is
