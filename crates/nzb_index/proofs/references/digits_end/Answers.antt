use Rattle.std.proofs.Common.{◌≡◌, false, get_or, sym, ◌∙◌, inl, inr, arith}
use Rattle.nzb_index.specs.Readers.{is_digit_of}
use Rattle.nzb_index.proofs.ReferenceEnds.{digits_next, digits_bad, digits_reads, bad_fails}
use Rattle.nzb_index.proofs.references.digits_end.Goals as goal
use Rattle.nzb_index.proofs.references.digits_end.Goals.{then-loop-end-test+else-is_digit, else-loop-end-test, then-end-at-via-then-end-at, then-end-at-via-else-end-at+then-text-end-ne59, then-end-at-via-else-end-at+else-text-end-ne59+then-not-is_character}

pub loop-end-preserved : goal.loop-end-preserved
loop-end-preserved c =
    let n = c.with_digit-value.ensures in
    let v = c.digit_value.ensures.value in
    digits_next c.args.text.now c.args.at c.loop-end.end c.args.radix c.loop-end.value c.with_digit-value.result c.requires.radix c.loop-end.invariant c.loop-end-test.true (sym c.is_digit.ensures ∙ c.if-is_digit.true) (cc (n, v))

pub returns-then-end-at : goal.returns-then-end-at
returns-then-end-at c =
    let within = c.loop-end.invariant.within in
    let apart = c.if-end-text.false in
    let before = c.requires.before in
    let at_most = c.requires.within in
    let no_digit : is_digit_of c.args.radix (get_or c.args.text.now c.loop-end.end 0) ≡ false = elim c.loop-end-test.branch [
      | then-loop-end-test+else-is_digit w ↦ sym w.is_digit.ensures ∙ w.if-is_digit.false
      | else-loop-end-test w ↦ absurd (let over = w.loop-end-test.false in omega (arith, within, apart, over))
    ] in
    bad_fails c.args.text.now c.args.from _ (omega (arith, before, at_most)) (digits_bad c.args.text.now _ c.args.at c.loop-end.end c.args.radix c.loop-end.value c.loop-end.invariant (omega (arith, within, apart)) no_digit (elim c.then-end-at.branch [
      | then-end-at-via-then-end-at w ↦ inl w.if-end-at.true
      | then-end-at-via-else-end-at+then-text-end-ne59 w ↦ inr (inl w.if-text-end-ne59.true)
      | then-end-at-via-else-end-at+else-text-end-ne59+then-not-is_character w ↦ inr (inr (sym w.is_character.ensures ∙ w.if-not-is_character.true))
    ]))

pub returns : goal.returns
returns c =
    let within = c.loop-end.invariant.within in
    let apart = c.if-end-text.false in
    let no_digit : is_digit_of c.args.radix (get_or c.args.text.now c.loop-end.end 0) ≡ false = elim c.loop-end-test.branch [
      | then-loop-end-test+else-is_digit w ↦ sym w.is_digit.ensures ∙ w.if-is_digit.false
      | else-loop-end-test w ↦ absurd (let over = w.loop-end-test.false in omega (arith, within, apart, over))
    ] in
    digits_reads c.args.text.now c.args.from c.args.at c.loop-end.end c.args.radix c.loop-end.value c.requires.before c.loop-end.invariant (omega (arith, within, apart)) no_digit c.if-end-at.false c.if-text-end-ne59.false (sym c.is_character.ensures ∙ c.if-not-is_character.false)
