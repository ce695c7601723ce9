use Rattle.std.proofs.Common.{◌≡◌, ◌+◌, ◌∙◌, suc, List, length, sym, ap, subst, arith}
use Rattle.std.specs.Prelude.{insert}
use Rattle.range_assembler.specs.Bare.{first_gaps}
use Rattle.range_assembler.specs.Order.{IsAbsent}
use Rattle.range_assembler.specs.declared.sequence.Range.{Range}
use Rattle.range_assembler.proofs.Gapped.{first_next, first_absent, first_wide}
use Rattle.range_assembler.proofs.gap_list.add_file_gap.Goals as goal

pub insert-requires-clause-place : goal.insert-requires-clause-place
insert-requires-clause-place c =
    let wide : length c.args.gaps.now.0 ≡ c.args.file = ap (λ (t : List Range). length t) c.requires.ranges ∙ first_wide c.args.segments c.args.file in
    omega (arith, wide)

pub insert-requires-clause-few : goal.insert-requires-clause-few
insert-requires-clause-few c =
    let wide : length c.args.gaps.now.0 ≡ c.args.file = ap (λ (t : List Range). length t) c.requires.ranges ∙ first_wide c.args.segments c.args.file in
    let a = c.requires.files in let b = c.requires.file in omega (arith, wide, a, b)

pub insert-requires-clause-absent : goal.insert-requires-clause-absent
insert-requires-clause-absent c = subst (λ (t : List Range). IsAbsent (c.args.segments + c.args.file) t) (sym c.requires.ranges) (first_absent c.args.segments c.args.file)

pub returns-clause-ranges : goal.returns-clause-ranges
returns-clause-ranges c =
    let same : 0 + c.args.file ≡ c.args.file = omega arith in
    let more : suc c.args.file ≡ c.args.file + 1 = omega arith in
    c.insert.ensures.ranges
    ∙ ap (λ (t : List Range). insert t c.args.file record { file = c.args.file; segment = c.args.segments + c.args.file; first = 1; last = 18446744073709551615 }) c.requires.ranges
    ∙ ap (λ n. insert (first_gaps c.args.segments 0 c.args.file) c.args.file record { file = n; segment = c.args.segments + n; first = 1; last = 18446744073709551615 }) (sym same)
    ∙ first_next c.args.segments 0 c.args.file
    ∙ ap (λ n. first_gaps c.args.segments 0 n) more
