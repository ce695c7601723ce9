use Rattle.std.proofs.Common.{sym, ◌∙◌, arith}
use Rattle.gap_kernel.proofs.Marks.{gap_within, one_escape}
use Rattle.gap_kernel.proofs.lanes.gap_of.Goals as goal

pub overflow_shr-escapes : goal.overflow_shr-escapes
overflow_shr-escapes c = omega (arith, gap_within c.args.lanes c.escape_marks-escapes.result c.fits-lanes.0 c.escape_marks-escapes.ensures)

pub returns : goal.returns
returns c = one_escape c.args.lanes c.escape_marks-escapes.result c.fits-lanes.0 c.escape_marks-escapes.ensures (sym c.stray_marks.ensures ∙ c.if-stray_marks-ne0.false) c.if-gap-eq31.false c.if-escapes-gap-ne0.false
