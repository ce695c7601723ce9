use Rattle.std.proofs.Common.{◌≡◌, ◌∙◌, ap, refl}
use Rattle.pipeline_core.specs.LinkAt.{LinkAt}
use Rattle.pipeline_core.specs.Links.{with_greeting}
use Rattle.pipeline_core.specs.PipelineAt.{Pipeline}
use Rattle.pipeline_core.specs.Pipeline.{after_greeting}
use Rattle.pipeline_core.proofs.Calls.{sound-same, view-link}
use Rattle.pipeline_core.proofs.Placed.{placed-as, placed-greeted}
use Rattle.pipeline_core.proofs.CallReads.{link_read}
use Rattle.pipeline_core.proofs.core_state.Core.greeted.Goals as goal

pub invariant_of-self : goal.invariant_of-self
invariant_of-self c =
    let p : Pipeline = record { links = c.self.inside.links.items; segments = c.self.inside.segments.items; levels = c.self.inside.levels.items; depth = c.self.inside.depth } in
    let is : p ≡ c.args.self.now = c.self.view_is in
    let read = link_read c.args.link c.index_mut.result.now c.self.view_is c.requires.link c.index_mut.ensures.value in
    record {
      sound = sound-same c.self.inside.links.items c.self.inside.segments.items c.self.inside.holders.items c.self.inside.levels.items c.self.inside.depth c.args.link c.index_mut.result.now c.greet.new.self c.self.invariant.sound read
          (ap (λ (l : LinkAt). l.server) c.greet.ensures) (ap (λ (l : LinkAt). l.asked) c.greet.ensures) (ap (λ (l : LinkAt). l.over) c.greet.ensures);
      placed = placed-as (view-link c.self.inside.links.items c.self.inside.segments.items c.self.inside.levels.items c.self.inside.depth c.args.link with_greeting c.index_mut.result.now c.greet.new.self read c.greet.ensures) refl refl refl (placed-greeted p c.args.link c.index_mut.result.now c.self.inside.places.lows c.self.inside.places.fresh c.self.inside.places.decided read c.self.invariant.placed);
    }

pub returns : goal.returns
returns c =
    let read = link_read c.args.link c.index_mut.result.now c.self.view_is c.requires.link c.index_mut.ensures.value in
    view-link c.self.inside.links.items c.self.inside.segments.items c.self.inside.levels.items c.self.inside.depth c.args.link with_greeting c.index_mut.result.now c.greet.new.self read c.greet.ensures
    ∙ ap (λ (q : Pipeline). after_greeting q c.args.link) c.self.view_is
