use Rattle.std.proofs.Common.{◌≡◌, ◌∷◌, ◌++◌, ◌∙◌, length, sym, ap, subst, arith}
use Rattle.range_assembler.specs.Sequence.{ranges, IsCounted}
use Rattle.range_assembler.proofs.Edits.{set_left, set_right, set_middle}
use Rattle.range_assembler.proofs.sequence.Sequence.+set.Goals as goal
use Rattle.range_assembler.proofs.sequence.Sequence.+set.Goals.{then-place-before, else-place-before+then-before-place, else-place-before+else-before-place}

pub returns : goal.returns
returns t c =
    let entry : c.args.self.now ≡ c.in-Fork.left.value ++ c.in-Fork.top ∷ c.in-Fork.right.value = sym c.self.view_is ∙ ap ranges c.in-Fork.is in
    let counted = subst IsCounted c.in-Fork.is c.self.invariant in
    elim c.if-place-before.branch [
      | then-place-before w ↦ let low = w.if-place-before.true in grind (arith, counted.0, counted.1, entry, w.self-inside-is, w.set.ensures, set_left c.in-Fork.left.value c.in-Fork.top c.in-Fork.right.value c.args.place c.args.range)
      | else-place-before+then-before-place w ↦ let high = w.if-before-place.true in grind (arith, counted.0, counted.1, entry, w.self-inside-is, w.set-then-before-place.ensures, set_right c.in-Fork.left.value c.in-Fork.top c.in-Fork.right.value c.args.place c.args.range)
      | else-place-before+else-before-place w ↦ let at : c.args.place ≡ length c.in-Fork.left.value = omega (arith, counted.0, w.if-place-before.false, w.if-before-place.false) in grind (arith, entry, at, w.self-inside-is, set_middle c.in-Fork.left.value c.in-Fork.top c.in-Fork.right.value c.args.range)
    ]
