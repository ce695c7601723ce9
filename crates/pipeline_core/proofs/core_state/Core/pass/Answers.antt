use Rattle.std.proofs.Common.{◌≡◌, ◌<◌, ◌∙◌, sym, ap, Some, None, length, arith, subst, refl, set}
use Rattle.std.specs.Prelude.{slice_get}
use Rattle.std.proofs.lemmas.Option.{slice_get_read}
use Rattle.pipeline_core.specs.PipelineAt.{Pipeline}
use Rattle.pipeline_core.specs.Searches.{first_from}
use Rattle.pipeline_core.specs.Pipeline.{can_be_asked, next_segment}
use Rattle.pipeline_core.proofs.Free.{found_is_next}
use Rattle.pipeline_core.proofs.Placed.{placed-as, placed-none}
use Rattle.pipeline_core.proofs.core_state.Core.pass.Goals as goal
use Rattle.limits.specs.declared.TheConstants.{MOST_SERVERS}

pub invariant_of-self : goal.invariant_of-self
invariant_of-self c =
    let p : Pipeline = record { links = c.self.inside.links.items; segments = c.self.inside.segments.items; levels = c.self.inside.levels.items; depth = c.self.inside.depth } in
    let is : p ≡ c.args.self.now = c.self.view_is in
    let within : c.args.link < length p.links = subst (λ (q : Pipeline). c.args.link < length q.links) (sym is) c.requires.link in
    let read : slice_get p.links c.args.link ≡ Some c.index-asker.result.now = slice_get_read p.links (length p.links) c.args.link c.index-asker.result.now refl within c.index-asker.ensures in
    let fits = c.self.invariant.sound.limited.each c.args.link c.index-asker.result.now read in
    let small : c.index-asker.result.now.server < MOST_SERVERS = omega (arith, fits.0, c.self.invariant.sound.limited.few_servers) in
    let none : first_from (can_be_asked p c.index-asker.result.now.server) 0 (length p.segments) ≡ None = found_is_next p c.args.link c.index-asker.result.now read (sym c.may_ask.ensures ∙ c.if-not-may_ask.false) ∙ ap (λ (q : Pipeline). next_segment q c.args.link) is ∙ c.requires.next in
    let lows : c.note_none.new.self.lows ≡ set c.self.inside.places.lows c.index-asker.result.now.server (length p.segments) =
    c.note_none.ensures.lows ∙ ap (λ v. set c.self.inside.places.lows v c.len.result) c.server-server.ensures ∙ ap (λ n. set c.self.inside.places.lows c.index-asker.result.now.server n) (c.len.ensures ∙ c.self.inside.segments.ok.0) in
    record {
      sound = c.self.invariant.sound;
      placed = placed-as refl lows c.note_none.ensures.fresh c.note_none.ensures.decided (placed-none p c.index-asker.result.now.server c.self.inside.places.lows c.self.inside.places.fresh c.self.inside.places.decided none small c.self.invariant.placed);
    }
