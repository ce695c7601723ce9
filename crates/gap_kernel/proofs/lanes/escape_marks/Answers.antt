use Rattle.std.proofs.Common.{eqb, arith, w8}
use Rattle.std.proofs.lemmas.Simd.{bitmask_splat}
use Rattle.gap_kernel.proofs.lanes.escape_marks.Goals as goal

pub returns : goal.returns
returns c = bitmask_splat w8 eqb c.args.lanes 32 61 c.fits-lanes.0 (omega arith)
