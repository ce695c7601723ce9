use Rattle.std.proofs.Common.{◌∙◌, ℕ, arith, length-take, length-drop}
use Rattle.usebin_cli.proofs.WritingLemmas.{told_piece}
use Rattle.usebin_cli.proofs.writing.write_all.Goals as goal

pub loop-at-preserved : goal.loop-at-preserved
loop-at-preserved g c = record {
  inside = omega (arith, c.in_ok-at.ensures.bound, length-take {A = ℕ}, length-drop {A = ℕ});
  told = told_piece _ _ _ c.args.bytes.now c.loop-at.at c.in_ok-at.field-0 c.loop-at.invariant.told c.in_ok-at.ensures.told;
  faults = c.in_ok-at.ensures.cause.kept ∙ c.loop-at.invariant.faults;
}
