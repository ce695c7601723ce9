use Rattle.std.proofs.Common.{◌≡◌, ◌∷◌, ◌++◌, ◌∙◌, None, Some, length, sym, ap, subst, arith, append-nil}
use Rattle.std.specs.Prelude.{slice_get}
use Rattle.range_assembler.specs.Sequence.{ranges, IsCounted}
use Rattle.range_assembler.proofs.Edits.{remove_left, remove_right, remove_middle, first_and_rest, none_first, length_remove}
use Rattle.range_assembler.proofs.sequence.Sequence.+remove.Goals as goal
use Rattle.range_assembler.proofs.sequence.Sequence.+remove.Goals.{then-place-before+in-Fork-1, then-place-before+in-Leaf-1, else-place-before+then-before-place+in-Fork-1, else-place-before+then-before-place+in-Leaf-1, else-place-before+else-before-place+in-Some+in-Fork-1, else-place-before+else-before-place+in-Some+in-Leaf-1}

pub returns-in-None : goal.returns-in-None
returns-in-None t c =
    let same = c.replace.ensures.value in
    let fork : ranges c.replace.result ≡ c.in-Fork.left.value ++ c.in-Fork.range ∷ c.in-Fork.right.value = ap ranges c.in-Fork.is in
    let view = c.self.view_is in
    let entry : c.args.self.now ≡ c.in-Fork.left.value ++ c.in-Fork.range ∷ c.in-Fork.right.value = cc in
    let counted = subst IsCounted (sym same ∙ c.in-Fork.is) c.self.invariant in
    let no_first : slice_get c.in-Fork.right.value 0 ≡ None = cc in
    let no_right = none_first c.in-Fork.right.value no_first in
    let at : c.args.place ≡ length c.in-Fork.left.value = omega (arith, counted.0, c.if-place-before.false, c.if-before-place.false) in
    grind (arith, entry, no_right, at, append-nil, c.open.ensures.same, remove_middle c.in-Fork.left.value c.in-Fork.range c.in-Fork.right.value)

pub balance-requires-clause-few : goal.balance-requires-clause-few
balance-requires-clause-few t c =
    let same = c.replace.ensures.value in
    let fork : ranges c.replace.result ≡ c.in-Fork.left.value ++ c.in-Fork.range ∷ c.in-Fork.right.value = ap ranges c.in-Fork.is in
    let view = c.self.view_is in
    let entry : c.args.self.now ≡ c.in-Fork.left.value ++ c.in-Fork.range ∷ c.in-Fork.right.value = cc in
    let counted = subst IsCounted (sym same ∙ c.in-Fork.is) c.self.invariant in
    elim c.if-place-before.branch [
      | then-place-before+in-Fork-1 w ↦ let low = w.if-place-before.true in grind (arith, counted.0, counted.1, entry, w.self-inside-is, w.remove-sides.ensures, remove_left c.in-Fork.left.value c.in-Fork.range c.in-Fork.right.value c.args.place, length_remove c.args.self.now c.args.place)
      | then-place-before+in-Leaf-1 w ↦ let low = w.if-place-before.true in grind (arith, counted.0, counted.1, entry, w.self-inside-is, w.remove-sides.ensures, remove_left c.in-Fork.left.value c.in-Fork.range c.in-Fork.right.value c.args.place, length_remove c.args.self.now c.args.place)
      | else-place-before+then-before-place+in-Fork-1 w ↦ let high = w.if-before-place.true in grind (arith, counted.0, counted.1, entry, w.self-inside-is, w.remove-sides-then-before-place.ensures, remove_right c.in-Fork.left.value c.in-Fork.range c.in-Fork.right.value c.args.place, length_remove c.args.self.now c.args.place)
      | else-place-before+then-before-place+in-Leaf-1 w ↦ let high = w.if-before-place.true in grind (arith, counted.0, counted.1, entry, w.self-inside-is, w.remove-sides-then-before-place.ensures, remove_right c.in-Fork.left.value c.in-Fork.range c.in-Fork.right.value c.args.place, length_remove c.args.self.now c.args.place)
      | else-place-before+else-before-place+in-Some+in-Fork-1 w ↦ let at : c.args.place ≡ length c.in-Fork.left.value = omega (arith, counted.0, w.if-place-before.false, w.if-before-place.false) in let first : slice_get c.in-Fork.right.value 0 ≡ Some w.in-Some.next = cc in let rest = first_and_rest c.in-Fork.right.value w.in-Some.next first in grind (arith, counted.0, counted.1, entry, w.self-inside-is, w.remove-sides-in-Some.ensures, remove_middle c.in-Fork.left.value c.in-Fork.range c.in-Fork.right.value, at, rest, length_remove c.args.self.now c.args.place)
      | else-place-before+else-before-place+in-Some+in-Leaf-1 w ↦ let at : c.args.place ≡ length c.in-Fork.left.value = omega (arith, counted.0, w.if-place-before.false, w.if-before-place.false) in let first : slice_get c.in-Fork.right.value 0 ≡ Some w.in-Some.next = cc in let rest = first_and_rest c.in-Fork.right.value w.in-Some.next first in grind (arith, counted.0, counted.1, entry, w.self-inside-is, w.remove-sides-in-Some.ensures, remove_middle c.in-Fork.left.value c.in-Fork.range c.in-Fork.right.value, at, rest, length_remove c.args.self.now c.args.place)
    ]

pub returns : goal.returns
returns t c =
    let same = c.replace.ensures.value in
    let fork : ranges c.replace.result ≡ c.in-Fork.left.value ++ c.in-Fork.range ∷ c.in-Fork.right.value = ap ranges c.in-Fork.is in
    let view = c.self.view_is in
    let entry : c.args.self.now ≡ c.in-Fork.left.value ++ c.in-Fork.range ∷ c.in-Fork.right.value = cc in
    let counted = subst IsCounted (sym same ∙ c.in-Fork.is) c.self.invariant in
    elim c.if-place-before.branch [
      | then-place-before+in-Fork-1 w ↦ let low = w.if-place-before.true in grind (arith, counted.0, counted.1, entry, w.self-inside-is, w.remove-sides.ensures, remove_left c.in-Fork.left.value c.in-Fork.range c.in-Fork.right.value c.args.place)
      | then-place-before+in-Leaf-1 w ↦ let low = w.if-place-before.true in grind (arith, counted.0, counted.1, entry, w.self-inside-is, w.remove-sides.ensures, remove_left c.in-Fork.left.value c.in-Fork.range c.in-Fork.right.value c.args.place)
      | else-place-before+then-before-place+in-Fork-1 w ↦ let high = w.if-before-place.true in grind (arith, counted.0, counted.1, entry, w.self-inside-is, w.remove-sides-then-before-place.ensures, remove_right c.in-Fork.left.value c.in-Fork.range c.in-Fork.right.value c.args.place)
      | else-place-before+then-before-place+in-Leaf-1 w ↦ let high = w.if-before-place.true in grind (arith, counted.0, counted.1, entry, w.self-inside-is, w.remove-sides-then-before-place.ensures, remove_right c.in-Fork.left.value c.in-Fork.range c.in-Fork.right.value c.args.place)
      | else-place-before+else-before-place+in-Some+in-Fork-1 w ↦ let at : c.args.place ≡ length c.in-Fork.left.value = omega (arith, counted.0, w.if-place-before.false, w.if-before-place.false) in let first : slice_get c.in-Fork.right.value 0 ≡ Some w.in-Some.next = cc in let rest = first_and_rest c.in-Fork.right.value w.in-Some.next first in grind (arith, counted.0, counted.1, entry, w.self-inside-is, w.remove-sides-in-Some.ensures, remove_middle c.in-Fork.left.value c.in-Fork.range c.in-Fork.right.value, at, rest)
      | else-place-before+else-before-place+in-Some+in-Leaf-1 w ↦ let at : c.args.place ≡ length c.in-Fork.left.value = omega (arith, counted.0, w.if-place-before.false, w.if-before-place.false) in let first : slice_get c.in-Fork.right.value 0 ≡ Some w.in-Some.next = cc in let rest = first_and_rest c.in-Fork.right.value w.in-Some.next first in grind (arith, counted.0, counted.1, entry, w.self-inside-is, w.remove-sides-in-Some.ensures, remove_middle c.in-Fork.left.value c.in-Fork.range c.in-Fork.right.value, at, rest)
    ]
