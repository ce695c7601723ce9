use Rattle.std.proofs.Common.{◌≡◌, ◌≤◌, ◌+◌, ◌++◌, ◌∙◌, ℕ, zero, suc, List, [], ◌∷◌, Option, None, length, drop, replicate, sym, ap, subst, refl, arith, append-nil, length-append}
use Rattle.std.specs.Prelude.{sum}
use Rattle.std.proofs.Math.ListN.{length-replicate}
use Rattle.std.proofs.lemmas.List.Sums.{sum_by_from}
use Rattle.range_assembler.specs.declared.assembler.Entry.{Entry}
use Rattle.range_assembler.specs.Entries.{entries_of, free_entry}
use Rattle.range_assembler.proofs.Kept.{index-start}
use Rattle.range_assembler.proofs.Gapped.{gapped-start}
use Rattle.range_assembler.specs.Bare.{IsGapped, first_gaps}
use Rattle.range_assembler.proofs.assembler.Assembler.new.Goals as goal

sum-cons : (count : ℕ) (parts : List ℕ) → sum (count ∷ parts) ≡ count + sum parts
sum-cons count parts = let e : sum (count ∷ parts) ≡ (0 + count) + sum parts = sum_by_from (λ x. x) (0 + count) parts in omega (arith, e)

length-entries : (file : ℕ) (parts : List ℕ) → length (entries_of file parts) ≡ sum parts
length-entries file [] = refl
length-entries file (count ∷ parts) = length-append (replicate count (free_entry file)) (entries_of (file + 1) parts) ∙ rw (length-replicate count (free_entry file), length-entries (file + 1) parts) (sym (sum-cons count parts))

drop_past : {A : Type 0} (n : ℕ) (xs : List A) → length xs ≤ n → drop n xs ≡ []
drop_past zero [] past = refl
drop_past (suc n) [] past = refl
drop_past zero (x ∷ xs) past = absurd (omega arith)
drop_past (suc n) (x ∷ xs) past = drop_past n xs (omega arith)

pub invariant_of-result : goal.invariant_of-result
invariant_of-result c =
    let rest : drop c.loop-file.file c.args.parts.now ≡ [] = drop_past c.loop-file.file c.args.parts.now c.loop-file-test.false in
    let all : c.loop-file.entries.items ≡ entries_of 0 c.args.parts.now =
    sym (append-nil c.loop-file.entries.items) ∙ ap (λ t. c.loop-file.entries.items ++ entries_of c.loop-file.file t) (sym rest) ∙ c.loop-file.invariant in
    let none : c.in_ok-order.order ≡ ([], length c.loop-file.entries.items) = c.in_ok-order.ensures ∙ ap (λ (t : List Entry). ([], length t)) c.deref.ensures.value in
    let unknown : c.add_sizes.new.sizes.items ≡ replicate (length c.args.parts.now) None = c.in_ok-add_sizes.ensures ∙ ap (λ (t : List (Option ℕ)). t ++ replicate (length c.args.parts.now) None) c.new-sizes.ensures.items in (
      index-start c.args.parts.now c.loop-file.entries.items c.in_ok-order.order c.add_sizes.new.sizes.items all (rw length-entries c.requires.segments) none unknown,
      subst (λ n. IsGapped c.loop-file.entries.items c.in_ok-gaps.gaps n) (sym (ap (λ (t : List (Option ℕ)). length t) unknown ∙ length-replicate (length c.args.parts.now) None))
          (gapped-start c.args.parts.now c.loop-file.entries.items c.in_ok-gaps.gaps (length c.args.parts.now) all
          (c.in_ok-gaps.ensures.ranges ∙ ap (λ (t : List Entry). first_gaps (length t) 0 (length c.args.parts.now)) c.deref-2.ensures.value)
          (c.in_ok-gaps.ensures.sides ∙ ap (λ (t : List Entry). length t + length c.args.parts.now) c.deref-2.ensures.value) c.requires.files),
    )

pub gaps_of-requires-clause-few : goal.gaps_of-requires-clause-few
gaps_of-requires-clause-few c =
    let rest : drop c.loop-file.file c.args.parts.now ≡ [] = drop_past c.loop-file.file c.args.parts.now c.loop-file-test.false in
    let all : c.loop-file.entries.items ≡ entries_of 0 c.args.parts.now =
    sym (append-nil c.loop-file.entries.items) ∙ ap (λ t. c.loop-file.entries.items ++ entries_of c.loop-file.file t) (sym rest) ∙ c.loop-file.invariant in
    let wide : length c.deref-2.result.now ≡ sum c.args.parts.now = ap (λ (t : List Entry). length t) (c.deref-2.ensures.value ∙ all) ∙ length-entries 0 c.args.parts.now in
    let small = c.requires.segments in
    omega (arith, wide, small)
