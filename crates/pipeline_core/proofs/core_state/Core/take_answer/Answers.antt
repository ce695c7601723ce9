use Rattle.std.proofs.Common.{◌≡◌, ◌<◌, ◌∙◌, ℕ, List, sym, ap, Some, None, length, arith, subst, refl, set, length-set}
use Rattle.std.specs.Prelude.{slice_get}
use Rattle.std.proofs.lemmas.Option.{slice_get_read}
use Rattle.pipeline_core.specs.LinkAt.{LinkAt}
use Rattle.pipeline_core.specs.PipelineAt.{Pipeline}
use Rattle.pipeline_core.specs.Pipeline.{after_reply, asked_on, asked_of, with_outcome}
use Rattle.pipeline_core.specs.Sound.{AreSoundLists, HasFallen}
use Rattle.pipeline_core.proofs.Calls.{sound-reply, view-reply, oldest_within}
use Rattle.pipeline_core.proofs.Placed.{placed-as, placed-reply}
use Rattle.pipeline_core.proofs.CallReads.{link_read}
use Rattle.pipeline_core.proofs.core_state.Core.take_answer.Goals as goal
use Rattle.limits.specs.declared.TheConstants.{MOST_SERVERS}

pub index_mut-requires : goal.index_mut-requires
index_mut-requires c =
    let read = link_read c.args.link c.index_mut-asker.result.now c.self.view_is c.requires.link c.index_mut-asker.ensures.value in
    let below : c.take_oldest-segment.result < length c.self.inside.segments.items = oldest_within c.self.inside.links.items c.self.inside.segments.items c.args.link c.take_oldest-segment.result c.index_mut-asker.result.now c.self.invariant.sound.exclusive read c.take_oldest-segment.ensures.oldest in
    omega (arith, below, c.self.invariant.sound.held.same, c.self.inside.holders.ok)

pub index_mut-requires-2 : goal.index_mut-requires-2
index_mut-requires-2 c =
    let read = link_read c.args.link c.index_mut-asker.result.now c.self.view_is c.requires.link c.index_mut-asker.ensures.value in
    let below : c.take_oldest-segment.result < length c.self.inside.segments.items = oldest_within c.self.inside.links.items c.self.inside.segments.items c.args.link c.take_oldest-segment.result c.index_mut-asker.result.now c.self.invariant.sound.exclusive read c.take_oldest-segment.ensures.oldest in
    omega (arith, below, c.self.inside.segments.ok)

pub note-requires : goal.note-requires
note-requires c =
    let read = link_read c.args.link c.index_mut-asker.result.now c.self.view_is c.requires.link c.index_mut-asker.ensures.value in
    let fits = c.self.invariant.sound.limited.each c.args.link c.index_mut-asker.result.now read in
    omega (arith, fits.0, c.server-server.ensures, c.self.invariant.sound.limited.few_servers)

pub invariant_of-self : goal.invariant_of-self
invariant_of-self c =
    let p : Pipeline = record { links = c.self.inside.links.items; segments = c.self.inside.segments.items; levels = c.self.inside.levels.items; depth = c.self.inside.depth } in
    let read = link_read c.args.link c.index_mut-asker.result.now c.self.view_is c.requires.link c.index_mut-asker.ensures.value in
    let below : c.take_oldest-segment.result < length c.self.inside.segments.items = oldest_within c.self.inside.links.items c.self.inside.segments.items c.args.link c.take_oldest-segment.result c.index_mut-asker.result.now c.self.invariant.sound.exclusive read c.take_oldest-segment.ensures.oldest in
    let there : slice_get c.self.inside.segments.items c.take_oldest-segment.result ≡ Some c.index_mut-2.result.now = slice_get_read c.self.inside.segments.items (length c.self.inside.segments.items) c.take_oldest-segment.result c.index_mut-2.result.now refl below c.index_mut-2.ensures.value in
    let made : c.note.new.self ≡ with_outcome c.index_mut-asker.result.now.server c.args.outcome c.index_mut-2.result.now = c.note.ensures ∙ ap (λ v. with_outcome v c.args.outcome c.index_mut-2.result.now) c.server-server.ensures in
    let fits = c.self.invariant.sound.limited.each c.args.link c.index_mut-asker.result.now read in
    let small : c.index_mut-asker.result.now.server < MOST_SERVERS = omega (arith, fits.0, c.self.invariant.sound.limited.few_servers) in
    let fallen : (v low : ℕ) → slice_get c.note_answer.new.self.lows v ≡ Some low → HasFallen c.self.inside.places.lows c.index_mut-asker.result.now.server c.take_oldest-segment.result c.args.outcome v low =
    subst (λ (n : ℕ). (v low : ℕ) → slice_get c.note_answer.new.self.lows v ≡ Some low → HasFallen c.self.inside.places.lows n c.take_oldest-segment.result c.args.outcome v low) c.server-server.ensures c.note_answer.ensures.lows in
    let view : record { links = set p.links c.args.link c.take_oldest-segment.new.self; segments = set p.segments c.take_oldest-segment.result c.note.new.self; levels = p.levels; depth = p.depth } ≡ after_reply p c.args.link c.take_oldest-segment.result c.args.outcome =
    ap (λ (l : LinkAt). record { links = set p.links c.args.link l; segments = set p.segments c.take_oldest-segment.result c.note.new.self; levels = p.levels; depth = p.depth }) c.take_oldest-segment.ensures.rest
    ∙ view-reply p c.args.link c.take_oldest-segment.result c.args.outcome c.index_mut-asker.result.now c.index_mut-2.result.now c.note.new.self read there made in
    record {
      sound =
          subst (λ (l : LinkAt). AreSoundLists (set c.self.inside.links.items c.args.link l) (set c.self.inside.segments.items c.take_oldest-segment.result c.note.new.self) (set c.self.inside.holders.items c.take_oldest-segment.result None) c.self.inside.levels.items c.self.inside.depth) (sym c.take_oldest-segment.ensures.rest)
          (sound-reply c.self.inside.links.items c.self.inside.segments.items c.self.inside.holders.items c.self.inside.levels.items c.self.inside.depth c.args.link c.take_oldest-segment.result c.index_mut-asker.result.now c.index_mut-2.result.now c.note.new.self c.self.invariant.sound read c.take_oldest-segment.ensures.oldest there);
      placed = placed-as view refl c.note_answer.ensures.fresh c.note_answer.ensures.decided
          (placed-reply p c.args.link c.take_oldest-segment.result c.args.outcome c.index_mut-asker.result.now c.index_mut-2.result.now c.self.inside.places.lows c.note_answer.new.self.lows c.self.inside.places.fresh c.self.inside.places.decided read c.take_oldest-segment.ensures.oldest there c.self.invariant.sound.exclusive small c.note_answer.ensures.as_many fallen c.self.invariant.placed);
    }

pub returns-clause-oldest : goal.returns-clause-oldest
returns-clause-oldest c =
    let p : Pipeline = record { links = c.self.inside.links.items; segments = c.self.inside.segments.items; levels = c.self.inside.levels.items; depth = c.self.inside.depth } in
    let read = link_read c.args.link c.index_mut-asker.result.now c.self.view_is c.requires.link c.index_mut-asker.ensures.value in
    let asked : asked_on p c.args.link ≡ c.index_mut-asker.result.now.asked = ap asked_of read in
    ap (λ (q : Pipeline). slice_get (asked_on q c.args.link) 0) (sym c.self.view_is) ∙ ap (λ (t : List ℕ). slice_get t 0) asked ∙ c.take_oldest-segment.ensures.oldest

pub returns-clause-after : goal.returns-clause-after
returns-clause-after c =
    let p : Pipeline = record { links = c.self.inside.links.items; segments = c.self.inside.segments.items; levels = c.self.inside.levels.items; depth = c.self.inside.depth } in
    let read = link_read c.args.link c.index_mut-asker.result.now c.self.view_is c.requires.link c.index_mut-asker.ensures.value in
    let below : c.take_oldest-segment.result < length c.self.inside.segments.items = oldest_within c.self.inside.links.items c.self.inside.segments.items c.args.link c.take_oldest-segment.result c.index_mut-asker.result.now c.self.invariant.sound.exclusive read c.take_oldest-segment.ensures.oldest in
    let there : slice_get c.self.inside.segments.items c.take_oldest-segment.result ≡ Some c.index_mut-2.result.now = slice_get_read c.self.inside.segments.items (length c.self.inside.segments.items) c.take_oldest-segment.result c.index_mut-2.result.now refl below c.index_mut-2.ensures.value in
    let made : c.note.new.self ≡ with_outcome c.index_mut-asker.result.now.server c.args.outcome c.index_mut-2.result.now = c.note.ensures ∙ ap (λ v. with_outcome v c.args.outcome c.index_mut-2.result.now) c.server-server.ensures in
    ap (λ (l : LinkAt). record { links = set p.links c.args.link l; segments = set p.segments c.take_oldest-segment.result c.note.new.self; levels = p.levels; depth = p.depth }) c.take_oldest-segment.ensures.rest
    ∙ view-reply p c.args.link c.take_oldest-segment.result c.args.outcome c.index_mut-asker.result.now c.index_mut-2.result.now c.note.new.self read there made
    ∙ ap (λ (q : Pipeline). after_reply q c.args.link c.take_oldest-segment.result c.args.outcome) c.self.view_is

pub returns-clause-within : goal.returns-clause-within
returns-clause-within c =
    let read = link_read c.args.link c.index_mut-asker.result.now c.self.view_is c.requires.link c.index_mut-asker.ensures.value in
    let below : c.take_oldest-segment.result < length c.self.inside.segments.items = oldest_within c.self.inside.links.items c.self.inside.segments.items c.args.link c.take_oldest-segment.result c.index_mut-asker.result.now c.self.invariant.sound.exclusive read c.take_oldest-segment.ensures.oldest in
    rw length-set below
