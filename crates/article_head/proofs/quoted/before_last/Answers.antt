use Rattle.std.proofs.Common.{refl}
use Rattle.article_head.proofs.QuotedNameLaws.{found_last, found_no_last}
use Rattle.article_head.proofs.quoted.before_last.Goals as goal

pub returns-in-Some : goal.returns-in-Some
returns-in-Some c = found_last c.args.byte c.args.text.now _ c.in-Some.at c.in-Some.ensures refl

pub returns-in-None : goal.returns-in-None
returns-in-None c = found_no_last c.args.byte c.args.text.now c.in-None.ensures
