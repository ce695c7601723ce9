use Rattle.std.proofs.Common.{arith}
use Rattle.usebin_cli.proofs.BodySteps.{front_before, front_data, body_last}
use Rattle.usebin_cli.proofs.body.write_body.Goals as goal

pub returns-in-Err : goal.returns-in-Err
returns-in-Err g c = front_before c.args.spec.now c.args.content.now _ _ (omega arith) c.requires.opening c.in-Err.ensures

pub returns-in-Ok-write_data : goal.returns-in-Ok-write_data
returns-in-Ok-write_data g c =
    body_last c.write_all-in-Ok-write_data.result c.args.spec.now c.args.content.now _ _ _ _ _ _ _ _ _ _ c.requires.opening c.requires.closing c.in-Ok.ensures c.in-Ok-write_data.ensures c.write_all-in-Ok-write_data.ensures

pub returns-in-Err-write_data : goal.returns-in-Err-write_data
returns-in-Err-write_data g c = front_data c.args.spec.now c.args.content.now _ _ _ _ _ _ _ c.requires.opening c.in-Ok.ensures c.in-Err-write_data.ensures
