use Rattle.gap_kernel.proofs.Places.{byte_long, byte_is}
use Rattle.gap_kernel.proofs.lanes.closed.Goals as goal

pub returns-clause-long : goal.returns-clause-long
returns-clause-long c = byte_long c.args.gap c.args.lanes c.args.next c.fits-lanes.0 c.fits-next.0

pub returns-clause-each : goal.returns-clause-each
returns-clause-each c = byte_is c.args.gap c.args.lanes c.args.next c.fits-lanes.0 c.fits-next.0
