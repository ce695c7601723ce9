use Rattle.std.proofs.Common.{◌∙◌}
use Rattle.server_logins.proofs.LoginLaws.{finds_in}
use Rattle.server_logins.proofs.logins.Logins.login_for.Goals as goal

pub returns : goal.returns
returns c = finds_in c.args.self.now _ c.args.server.now _ (c.as_slice.ensures ∙ c.self.view_is) c.find.ensures
