-- What is passed is owed.
use Rattle.std.proofs.Common.{ap, arith, length, length-drop}
use Rattle.news_spool.proofs.owed.Owed.pass.Goals as goal

pub overflow_add-self : goal.overflow_add-self
overflow_add-self c = let owed = ap (λ (bytes : _). length bytes) c.self.view_is in omega (arith, owed, length-drop c.self.inside.given c.self.inside.bytes)
