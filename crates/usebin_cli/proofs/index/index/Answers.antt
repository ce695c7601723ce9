use Rattle.std.proofs.Common.{refl}
use Rattle.usebin_cli.proofs.EndLaws.{stops}
use Rattle.usebin_cli.proofs.IndexSteps.{indexed}
use Rattle.usebin_cli.proofs.index.index.Goals as goal

pub returns-in-Ok-clause-runs : goal.returns-in-Ok-clause-runs
returns-in-Ok-clause-runs g c = indexed _ _ _ _ _ _ c.in-Ok.indexed c.tell_indexed.result c.in-Ok.ensures.ends.0 c.tell_indexed.ensures

pub returns-in-Err-clause-runs : goal.returns-in-Err-clause-runs
returns-in-Err-clause-runs g c = stops _ _ _ _ _ c.in-Err.end c.in-Err.ensures.ends (record { faults = refl; told = refl }) (record { faults = refl; told = refl })
