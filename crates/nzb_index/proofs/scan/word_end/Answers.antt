use Rattle.std.proofs.Common.{inl, inr, arith, ◌∙◌}
use Rattle.nzb_index.proofs.Places.{unexpected_fails, word_stops}
use Rattle.nzb_index.proofs.scan.word_end.Goals as goal
use Rattle.nzb_index.proofs.scan.word_end.Goals.{then-end-text-via-then-end-text, then-end-text-via-else-end-text+then-text-end}

pub returns-then-end-text : goal.returns-then-end-text
returns-then-end-text c =
    let within = c.loop-byte.invariant.1 in
    rw c.unexpected.ensures (unexpected_fails c.args.text.now c.loop-byte.end _ within (c.loop-byte.invariant.2 ∙ word_stops c.args.text.now c.args.expected.now c.loop-byte.end c.loop-byte.byte-index c.loop-byte-test.true (elim c.then-end-text.branch [
      | then-end-text-via-then-end-text w ↦ inl w.if-end-text.true
      | then-end-text-via-else-end-text+then-text-end w ↦ inr (let apart = w.if-end-text.false in omega (arith, apart, within), w.if-text-end.true)
    ]) within))
