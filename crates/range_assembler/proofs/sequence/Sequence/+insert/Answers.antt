use Rattle.std.proofs.Common.{◌≡◌, ◌∷◌, ◌++◌, ◌∙◌, sym, ap, arith}
use Rattle.range_assembler.specs.Sequence.{ranges}
use Rattle.range_assembler.proofs.Edits.{insert_left, insert_right}
use Rattle.range_assembler.proofs.sequence.Sequence.+insert.Goals as goal
use Rattle.range_assembler.proofs.sequence.Sequence.+insert.Goals.{then-place-before, else-place-before}

pub returns : goal.returns
returns t c =
    let entry : c.args.self.now ≡ c.in-Fork.left.value ++ c.in-Fork.field-2 ∷ c.in-Fork.right.value = sym c.self.view_is ∙ ap ranges c.in-Fork.is in
    let counts = c.self.invariant in
    elim c.if-place-before.branch [
      | then-place-before w ↦ let low = w.if-place-before.true in grind (arith, entry, w.self-inside-is, w.insert.ensures, insert_left c.in-Fork.left.value c.in-Fork.field-2 c.in-Fork.right.value c.args.place c.args.range)
      | else-place-before w ↦ let high = w.if-place-before.false in grind (arith, entry, w.self-inside-is, w.insert-else-place-before.ensures, insert_right c.in-Fork.left.value c.in-Fork.field-2 c.in-Fork.right.value c.args.place c.args.range)
    ]
