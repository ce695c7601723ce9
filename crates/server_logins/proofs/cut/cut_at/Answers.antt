use Rattle.std.proofs.Common.{refl}
use Rattle.server_logins.proofs.CutLaws.{found_byte, found_nowhere}
use Rattle.server_logins.proofs.cut.cut_at.Goals as goal

pub returns-in-Some : goal.returns-in-Some
returns-in-Some c = found_byte c.args.byte c.args.text.now _ _ c.in-Some.at c.in-Some.ensures refl refl

pub returns-in-None : goal.returns-in-None
returns-in-None c = found_nowhere c.args.byte c.args.text.now c.in-None.ensures
