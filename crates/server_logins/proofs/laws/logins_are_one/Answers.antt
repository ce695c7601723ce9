use Rattle.server_logins.proofs.LoginLaws.{logins_are_one}
use Rattle.server_logins.proofs.laws.logins_are_one.Goals as goal

pub returns : goal.returns
returns c = logins_are_one
