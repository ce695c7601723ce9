use Rattle.std.proofs.Common.{◌≡◌, ◌∙◌, ◌+◌, ◌-◌, length, sym, ap, refl, arith, get_or}
use Rattle.pipeline_core.specs.PipelineAt.{Pipeline}
use Rattle.pipeline_core.specs.Searches.{first_from}
use Rattle.pipeline_core.specs.Pipeline.{can_be_asked}
use Rattle.pipeline_core.proofs.CallReads.{low_read}
use Rattle.pipeline_core.proofs.Placed.{window-found, whole-found}
use Rattle.pipeline_core.proofs.core_state.Core.first_to_ask.Goals as goal

pub returns-then-self-segments : goal.returns-then-self-segments
returns-then-self-segments c =
    let p : Pipeline = record { links = c.self.inside.links.items; segments = c.self.inside.segments.items; levels = c.self.inside.levels.items; depth = c.self.inside.depth } in
    let is : p ≡ c.args.self.now = c.self.view_is in
    let read = low_read c.args.server c.self.inside.places.lows c.self.inside.places.fresh c.self.inside.places.decided c.self.view_is c.requires.server c.self.invariant.sound.limited.few_servers c.self.invariant.placed in
    let segments : c.len-segments.result ≡ length p.segments = c.len-segments.ensures ∙ c.self.inside.segments.ok.0 in
    let low = get_or c.self.inside.places.lows c.args.server 0 in
    c.first_between.ensures
    ∙ ap (λ (q : Pipeline). first_from (can_be_asked q c.args.server) low ((c.self.inside.places.fresh + 1) - low)) (sym is)
    ∙ window-found p c.args.server low (c.self.inside.places.fresh + 1) c.self.inside.places.lows c.self.inside.places.fresh c.self.inside.places.decided c.self.invariant.placed read (omega (arith, segments, c.if-self-segments.true)) refl
    ∙ ap (λ (q : Pipeline). first_from (can_be_asked q c.args.server) 0 (length q.segments)) is

pub returns-else-self-segments : goal.returns-else-self-segments
returns-else-self-segments c =
    let p : Pipeline = record { links = c.self.inside.links.items; segments = c.self.inside.segments.items; levels = c.self.inside.levels.items; depth = c.self.inside.depth } in
    let is : p ≡ c.args.self.now = c.self.view_is in
    let read = low_read c.args.server c.self.inside.places.lows c.self.inside.places.fresh c.self.inside.places.decided c.self.view_is c.requires.server c.self.invariant.sound.limited.few_servers c.self.invariant.placed in
    let segments : c.len-segments.result ≡ length p.segments = c.len-segments.ensures ∙ c.self.inside.segments.ok.0 in
    let low = get_or c.self.inside.places.lows c.args.server 0 in
    c.first_between-else-self-segments.ensures
    ∙ ap (λ (q : Pipeline). first_from (can_be_asked q c.args.server) low (c.len-segments.result - low)) (sym is)
    ∙ ap (λ n. first_from (can_be_asked p c.args.server) low (n - low)) segments
    ∙ whole-found p c.args.server low c.self.inside.places.lows c.self.inside.places.fresh c.self.inside.places.decided c.self.invariant.placed read
    ∙ ap (λ (q : Pipeline). first_from (can_be_asked q c.args.server) 0 (length q.segments)) is
