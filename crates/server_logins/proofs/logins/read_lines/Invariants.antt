use Rattle.std.proofs.Common.{take}
use Rattle.server_logins.specs.Logins.{AreLogins}
use Rattle.server_logins.proofs.logins.read_lines.Given as goal

abbrev pub invariant-loop-at : goal.invariant-loop-at
invariant-loop-at l = AreLogins (take l.at l.lines) l.logins
