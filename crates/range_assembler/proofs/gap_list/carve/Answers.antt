use Rattle.std.proofs.Common.{◌≡◌, ◌∙◌, List, Some, sym, ap, refl}
use Rattle.std.specs.Prelude.{slice_get, nat_lt}
use Rattle.range_assembler.specs.declared.sequence.Range.{Range}
use Rattle.range_assembler.proofs.Carved.{trim_segments}
use Rattle.range_assembler.proofs.gap_list.carve.Goals as goal

pub put-requires-clause-absent : goal.put-requires-clause-absent
put-requires-clause-absent c =
    let there : slice_get c.args.gaps.now.0 c.args.place ≡ Some c.in-Some.gap = sym c.requires.there ∙ c.in-Some.is in
    λ k range is. trim_segments (λ n. n ≡ c.args.range.segment → ⊥) c.args.gaps.now.0 c.args.place c.args.range.first c.in-Some.gap there c.requires.absent
    (nat_lt c.in-Some.gap.first c.args.range.first) refl k range (ap (λ (t : List Range). slice_get t k) (sym c.trim-next.ensures.ranges) ∙ is)
