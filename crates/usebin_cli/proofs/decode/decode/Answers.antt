use Rattle.std.proofs.Common.{refl}
use Rattle.command_words.specs.Asked.{body_asked}
use Rattle.usebin_cli.proofs.DecodeSteps.{decoded}
use Rattle.usebin_cli.proofs.EndLaws.{stops}
use Rattle.usebin_cli.proofs.decode.decode.Goals as goal

pub returns-in-Ok : goal.returns-in-Ok
returns-in-Ok g c = decoded (body_asked c.args.asked) _ _ _ _ c.in-Ok.part c.write_part.result c.in-Ok.ensures.0 c.in-Ok.ensures.1 c.in-Ok.ensures.2 c.write_part.ensures

pub returns-in-Err : goal.returns-in-Err
returns-in-Err g c = stops _ _ _ _ _ c.in-Err.end c.in-Err.ensures (record { faults = refl; told = refl }) (record { faults = refl; told = refl })
