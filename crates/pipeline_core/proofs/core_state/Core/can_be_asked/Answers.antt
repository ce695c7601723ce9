use Rattle.std.proofs.Common.{◌≡◌, ◌<◌, ◌∙◌, ℕ, true, false, Option, None, Some, sym, ap, length, subst, refl}
use Rattle.std.specs.Prelude.{slice_get, is_some}
use Rattle.std.proofs.lemmas.Option.{slice_get_read}
use Rattle.pipeline_core.specs.Links.{has_link_left, holder}
use Rattle.pipeline_core.specs.PipelineAt.{Pipeline}
use Rattle.pipeline_core.specs.Searches.{all_from, passes, waits_for}
use Rattle.pipeline_core.specs.Pipeline.{can_be_asked}
use Rattle.pipeline_core.proofs.Free.{turn_is, turn_decides}
use Rattle.pipeline_core.proofs.core_state.Core.can_be_asked.Goals as goal

no_some : (o : Option ℕ) → is_some o ≡ false → o ≡ None
no_some None none = refl
no_some (Some n) none = cc

same_some : (o other : Option ℕ) → Some o ≡ Some other → o ≡ other
same_some o other same = cc

pub returns : goal.returns
returns c =
    let p : Pipeline = record { links = c.self.inside.links.items; segments = c.self.inside.segments.items; levels = c.self.inside.levels.items; depth = c.self.inside.depth } in
    let is : p ≡ c.args.self.now = c.self.view_is in
    let below : c.args.segment < length p.segments = subst (λ (q : Pipeline). c.args.segment < length q.segments) (sym is) c.requires.segment in
    let server : c.args.server < length p.levels = subst (λ (q : Pipeline). c.args.server < length q.levels) (sym is) c.requires.server in
    let left : has_link_left p.links c.args.server ≡ true = subst (λ (q : Pipeline). has_link_left q.links c.args.server ≡ true) (sym is) c.requires.left in
    let marked : (other : ℕ) → other < length p.levels → slice_get c.args.waits.now other ≡ Some (waits_for p.links p.levels c.args.server other) =
    subst (λ (q : Pipeline). (other : ℕ) → other < length q.levels → slice_get c.args.waits.now other ≡ Some (waits_for q.links q.levels c.args.server other)) (sym is) c.requires.waits in
    let read : slice_get p.segments c.args.segment ≡ Some c.index-marks.result.now = slice_get_read p.segments (length p.segments) c.args.segment c.index-marks.result.now refl below c.index-marks.ensures in
    let held : Some (holder p.links c.args.segment) ≡ Some c.index.result.now = sym (c.self.invariant.sound.held.each c.args.segment below) ∙ slice_get_read c.self.inside.holders.items (length p.segments) c.args.segment c.index.result.now (sym c.self.invariant.sound.held.same) below c.index.ensures in
    let unheld : holder p.links c.args.segment ≡ None = same_some (holder p.links c.args.segment) c.index.result.now held ∙ no_some c.index.result.now (sym c.is_some.ensures ∙ c.if-is_some.false) in
    c.is_passed.ensures
    ∙ ap (λ n. all_from (passes c.args.waits.now c.index-marks.result.now.answered) 0 n) (c.len.ensures ∙ c.self.inside.levels.ok.0)
    ∙ turn_is p c.args.server c.args.segment c.index-marks.result.now c.args.waits.now read marked
    ∙ turn_decides p c.args.server c.args.segment c.index-marks.result.now read unheld (sym c.has_arrived.ensures ∙ c.if-has_arrived.false) (sym c.is_answered_by.ensures ∙ c.if-is_answered_by.false) server left
    ∙ ap (λ (q : Pipeline). can_be_asked q c.args.server c.args.segment) is
