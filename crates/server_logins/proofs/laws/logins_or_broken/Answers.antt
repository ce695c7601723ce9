use Rattle.server_logins.proofs.LoginLaws.{logins_or_broken}
use Rattle.server_logins.proofs.laws.logins_or_broken.Goals as goal

pub returns : goal.returns
returns c = logins_or_broken
