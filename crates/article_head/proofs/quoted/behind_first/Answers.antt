use Rattle.std.proofs.Common.{refl}
use Rattle.article_head.proofs.QuotedNameLaws.{found_first, found_no_first}
use Rattle.article_head.proofs.quoted.behind_first.Goals as goal

pub returns-in-Some : goal.returns-in-Some
returns-in-Some c = found_first c.args.byte c.args.text.now _ c.in-Some.at c.in-Some.ensures refl

pub returns-in-None : goal.returns-in-None
returns-in-None c = found_no_first c.args.byte c.args.text.now c.in-None.ensures
