use Rattle.std.proofs.Common.{sym, ◌∙◌, arith}
use Rattle.nzb_index.proofs.TrimmedText.{trimming_ends}
use Rattle.nzb_index.proofs.elements.trimmed.Goals as goal
use Rattle.nzb_index.proofs.elements.trimmed.Goals.{then-loop-end-test+else-is_white, else-loop-end-test}

pub returns : goal.returns
returns c = trimming_ends c.args.bytes.now c.white_end-start.result c.loop-end.end c.loop-end.invariant c.white_end-start.ensures.white (λ more. elim c.loop-end-test.branch [
  | then-loop-end-test+else-is_white w ↦ sym w.is_white.ensures ∙ w.if-is_white.false
  | else-loop-end-test w ↦ absurd (let over = w.loop-end-test.false in omega (arith, over, more))
])
