use Rattle.std.proofs.Common.{◌≡◌, drop}
use Rattle.server_logins.specs.Logins.{login_in}
use Rattle.server_logins.proofs.logins.find.Given as goal

abbrev pub invariant-loop-entry : goal.invariant-loop-entry
invariant-loop-entry l = login_in l.server (drop l.entry-index l.entries) ≡ login_in l.server l.entries
