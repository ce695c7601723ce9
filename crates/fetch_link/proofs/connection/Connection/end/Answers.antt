-- The link ended.
use Rattle.std.proofs.Common.{refl}
use Rattle.fetch_link.proofs.Calls.{ended}
use Rattle.fetch_link.proofs.connection.Connection.end.Goals as goal

pub returns : goal.returns
returns c = record { ends = λ h mode against alive stands. ended c.args.self.now _ h mode against alive stands refl refl refl }
