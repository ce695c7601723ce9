use Rattle.std.proofs.Common.{refl}
use Rattle.usebin_cli.proofs.encode.encode.Goals as goal

pub returns-in-Err-clause-ended : goal.returns-in-Err-clause-ended
returns-in-Err-clause-ended g c = (c.in-Err.ensures _ (record { faults = refl; told = refl })).0

pub returns-in-Err-clause-so : goal.returns-in-Err-clause-so
returns-in-Err-clause-so g c = (c.in-Err.ensures _ (record { faults = refl; told = refl })).1
