use Rattle.std.proofs.Common.{◌≡◌, ◌+◌, ◌∙◌, ℕ, suc, List, ◌∷◌, Some, true, false, drop, refl, sym, ap, arith}
use Rattle.std.specs.Prelude.{slice_get}
use Rattle.range_assembler.specs.declared.sequence.Range.{Range}
use Rattle.range_assembler.specs.Accepted.{is_accepted_at, kth_from}
use Rattle.range_assembler.proofs.Parts.{kth_other, kth_skip, kth_hit, kth_less, drop_at}
use Rattle.range_assembler.proofs.accepted.kth_from.Goals.{then-is_accepted_at+else-left-eq0, else-is_accepted_at}
use Rattle.range_assembler.proofs.accepted.kth_from.Goals as goal

pub returns-then-range-file : goal.returns-then-range-file
returns-then-range-file c =
    let ranges : List Range = c.args.order.now.0 in
    let at = c.loop-at.at in
    let here : drop at ranges ≡ c.in-Some.range ∷ drop (suc at) ranges = drop_at ranges at c.in-Some.range (sym c.get.ensures ∙ c.in-Some.is) in
    sym (kth_other c.args.file c.args.entries.now c.in-Some.range (drop (suc at) ranges) c.loop-at.left c.if-range-file.true)
    ∙ ap (λ (t : List Range). kth_from c.args.file c.args.entries.now t c.loop-at.left) (sym here) ∙ c.loop-at.invariant

pub returns-then-left-eq0 : goal.returns-then-left-eq0
returns-then-left-eq0 c =
    let ranges : List Range = c.args.order.now.0 in
    let at = c.loop-at.at in
    let here : drop at ranges ≡ c.in-Some.range ∷ drop (suc at) ranges = drop_at ranges at c.in-Some.range (sym c.get.ensures ∙ c.in-Some.is) in
    sym (kth_hit c.args.file c.args.entries.now c.in-Some.range (drop (suc at) ranges) c.loop-at.left c.if-range-file.false (sym c.is_accepted_at.ensures ∙ c.if-is_accepted_at.true) c.if-left-eq0.true)
    ∙ ap (λ (t : List Range). kth_from c.args.file c.args.entries.now t c.loop-at.left) (sym here) ∙ c.loop-at.invariant

pub loop-at-preserved : goal.loop-at-preserved
loop-at-preserved c =
    let ranges : List Range = c.args.order.now.0 in
    let at = c.loop-at.at in
    let here : drop at ranges ≡ c.in-Some.range ∷ drop (suc at) ranges = drop_at ranges at c.in-Some.range (sym c.get.ensures ∙ c.in-Some.is) in
    let next : at + 1 ≡ suc at = omega arith in
    let now = c.if-is_accepted_at.left in
    ap (λ (n : ℕ). kth_from c.args.file c.args.entries.now (drop n ranges) now) next
    ∙ elim c.if-is_accepted_at.branch [
      | then-is_accepted_at+else-left-eq0 w ↦
          (let is = w.left-is in
          let some = w.if-left-eq0.false in
          let more : c.loop-at.left ≡ suc now = omega (arith, is, some) in
          sym (kth_less c.args.file c.args.entries.now c.in-Some.range (drop (suc at) ranges) c.loop-at.left now c.if-range-file.false (sym c.is_accepted_at.ensures ∙ w.if-is_accepted_at.true) more))
      | else-is_accepted_at w ↦
          (let is : now ≡ c.loop-at.left = w.left-is in
          ap (kth_from c.args.file c.args.entries.now (drop (suc at) ranges)) is
          ∙ sym (kth_skip c.args.file c.args.entries.now c.in-Some.range (drop (suc at) ranges) c.loop-at.left c.if-range-file.false (sym c.is_accepted_at.ensures ∙ w.if-is_accepted_at.false)))
    ]
    ∙ ap (λ (t : List Range). kth_from c.args.file c.args.entries.now t c.loop-at.left) (sym here) ∙ c.loop-at.invariant
