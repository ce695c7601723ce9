use Rattle.std.proofs.Common.{◌-◌, length}
use Rattle.usebin_cli.specs.Writing.{written}
use Rattle.usebin_cli.proofs.BodySteps.{WroteSoFar}
use Rattle.usebin_cli.proofs.body.write_data.Given as goal

abbrev pub invariant-loop-at : goal.invariant-loop-at
invariant-loop-at g l = WroteSoFar l.line l.content l.at (written g.O.Sink l.initial.out l.out)

abbrev pub decreases-loop-at : goal.decreases-loop-at
decreases-loop-at g l = length l.content - l.at
