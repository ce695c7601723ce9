-- What has been outstanding longest is one of the segments.
use Rattle.std.proofs.Common.{◌≡◌, ◌<◌, ◌∙◌, ℕ, Option, ap, sym, subst, None, Some, length, refl, rules}
use Rattle.std.specs.Prelude.{slice_get, IfSome}
use Rattle.std.proofs.lemmas.Option.{slice_get_read}
use Rattle.pipeline_core.specs.PipelineAt.{Pipeline}
use Rattle.pipeline_core.proofs.Calls.{oldest_within}
use Rattle.pipeline_core.proofs.core_state.Core.oldest.Goals as goal

some_below : (o : Option ℕ) (n : ℕ) → ((k : ℕ) → o ≡ Some k → k < n) → IfSome o (λ k. k < n)
some_below None n each = search rules
some_below (Some k) n each = each k refl

pub returns-clause-within : goal.returns-clause-within
returns-clause-within c =
    let within : c.args.link < length c.self.inside.links.items = subst (λ (q : Pipeline). c.args.link < length q.links) (sym c.self.view_is) c.requires in
    let read : slice_get c.self.inside.links.items c.args.link ≡ Some c.index.result.now = slice_get_read c.self.inside.links.items (length c.self.inside.links.items) c.args.link c.index.result.now refl within c.index.ensures in
    subst (λ (q : Pipeline). IfSome c.oldest.result (λ k. k < length q.segments)) c.self.view_is
    (some_below c.oldest.result (length c.self.inside.segments.items)
    (λ k is. oldest_within c.self.inside.links.items c.self.inside.segments.items c.args.link k c.index.result.now c.self.invariant.sound.exclusive read (sym c.oldest.ensures ∙ is)))
