use Rattle.gap_kernel.proofs.Marks.{strays_are}
use Rattle.gap_kernel.proofs.lanes.stray_marks.Goals as goal

pub returns : goal.returns
returns c = strays_are c.args.lanes c.fits-lanes.0
