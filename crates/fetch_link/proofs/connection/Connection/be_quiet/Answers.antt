-- A receive found nothing.
use Rattle.std.proofs.Common.{refl, arith}
use Rattle.fetch_link.proofs.Calls.{quiet_ends, quiet_goes_on}
use Rattle.fetch_link.proofs.connection.Connection.be_quiet.Goals as goal

pub returns-clause-quiet : goal.returns-clause-quiet
returns-clause-quiet c h mode against alive stands =
    quiet_goes_on c.args.patience c.args.self.now _ h mode against alive stands (omega (arith, c.saturating_add-self.ensures)) (omega (arith, c.ranges.patience.fits)) c.if-patience-self.false refl refl refl refl refl refl refl refl

pub returns-then-patience-self-clause-quiet : goal.returns-then-patience-self-clause-quiet
returns-then-patience-self-clause-quiet c h mode against alive stands =
    quiet_ends c.args.patience c.args.self.now _ h mode against alive stands (omega (arith, c.saturating_add-self.ensures)) (omega (arith, c.ranges.patience.fits)) c.if-patience-self.true refl refl refl
