use Rattle.std.proofs.Common.{arith}
use Rattle.pipeline_core.proofs.Placed.{has-fallen}
use Rattle.pipeline_core.proofs.places.Places.note_answer.Goals as goal

pub returns-clause-lows : goal.returns-clause-lows
returns-clause-lows c = λ other low read.
    has-fallen c.args.self.now.lows c.loop-other.self.lows c.args.server c.args.segment c.loop-other.other c.args.outcome other low c.loop-other.invariant.falling (omega (arith, c.loop-other-test.false)) read
