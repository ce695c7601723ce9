use Rattle.std.proofs.Common.{refl}
use Rattle.usebin_cli.proofs.EndLaws.{stops}
use Rattle.usebin_cli.proofs.PostSteps.{told}
use Rattle.usebin_cli.proofs.post.post.Goals as goal

pub returns-in-Ok : goal.returns-in-Ok
returns-in-Ok g c = told _ _ _ _ _ _ _ c.in-Ok.posted c.tell_posted.result c.in-Ok.ensures c.tell_posted.ensures

pub returns-in-Err : goal.returns-in-Err
returns-in-Err g c = stops _ _ _ _ _ c.in-Err.end (c.in-Err.ensures c.args.moment) (record { faults = refl; told = refl }) (record { faults = refl; told = refl })
