use Rattle.std.proofs.Common.{◌≡◌, ◌<◌, ℕ, true, sym, subst}
use Rattle.pipeline_core.specs.PipelineAt.{Pipeline}
use Rattle.pipeline_core.specs.Pipeline.{is_decided, segment_state}
use Rattle.pipeline_core.proofs.Placed.{placed-decided}
use Rattle.pipeline_core.proofs.core_state.Core.note_decided.Goals as goal

pub invariant_of-self : goal.invariant_of-self
invariant_of-self c =
    let p : Pipeline = record { links = c.self.inside.links.items; segments = c.self.inside.segments.items; levels = c.self.inside.levels.items; depth = c.self.inside.depth } in
    let is : p ≡ c.args.self.now = c.self.view_is in
    let all : (s : ℕ) → s < c.first_undecided-decided.result → is_decided (segment_state p s) ≡ true = subst (λ (q : Pipeline). (s : ℕ) → s < c.first_undecided-decided.result → is_decided (segment_state q s) ≡ true) (sym is) c.first_undecided-decided.ensures.decided in
    record {
      sound = c.self.invariant.sound;
      placed = placed-decided p c.self.inside.places.lows c.self.inside.places.fresh c.self.inside.places.decided c.first_undecided-decided.result c.self.invariant.placed all;
    }
