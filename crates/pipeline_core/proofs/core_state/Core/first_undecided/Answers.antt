use Rattle.std.proofs.Common.{◌≡◌, ◌<◌, ◌∙◌, ℕ, true, length, sym, ap, subst, refl, arith, inl, inr}
use Rattle.std.proofs.lemmas.Bool.{cases_eq}
use Rattle.pipeline_core.specs.declared.state.SegmentState.{SegmentState}
use Rattle.pipeline_core.specs.declared.state.SegmentState.TheVariants.{Open, Outstanding, Arrived, Exhausted}
use Rattle.pipeline_core.specs.PipelineAt.{Pipeline}
use Rattle.pipeline_core.specs.Pipeline.{is_decided, segment_state}
use Rattle.pipeline_core.proofs.core_state.Core.first_undecided.Goals as goal

done_by : (state : SegmentState) → (state ≡ Open → ⊥) → ((link : ℕ) → state ≡ Outstanding link → ⊥) → is_decided state ≡ true
done_by Open not_open not_out = absurd (not_open refl)
done_by (Outstanding link) not_open not_out = absurd (not_out link refl)
done_by Arrived not_open not_out = refl
done_by Exhausted not_open not_out = refl

pub loop-segment-init : goal.loop-segment-init
loop-segment-init c =
    let p : Pipeline = record { links = c.self.inside.links.items; segments = c.self.inside.segments.items; levels = c.self.inside.levels.items; depth = c.self.inside.depth } in
    let is : p ≡ c.args.self.now = c.self.view_is in
    record {
      end = c.len-segments.ensures ∙ c.self.inside.segments.ok.0 ∙ ap (λ (q : Pipeline). length q.segments) is;
      all = subst (λ (q : Pipeline). (s : ℕ) → s < c.self.inside.places.decided → is_decided (segment_state q s) ≡ true) is c.self.invariant.placed.all_decided;
    }

pub loop-segment-preserved : goal.loop-segment-preserved
loop-segment-preserved c =
    let done : is_decided (segment_state c.args.self.now c.loop-segment.segment) ≡ true = ap is_decided (sym c.state.ensures.state) ∙ done_by c.state.result c.in_default.not-Open c.in_default.not-Outstanding in
    record {
      end = c.loop-segment.invariant.end;
      all = λ s below. elim (cases_eq s c.loop-segment.segment) [
        | inl e ↦ ap (λ n. is_decided (segment_state c.args.self.now n)) e ∙ done
        | inr other ↦ c.loop-segment.invariant.all s (omega (arith, other, below))
      ];
    }
