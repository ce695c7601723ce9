use Rattle.article_head.proofs.OutNameLaws.{out_names_differ}
use Rattle.article_head.proofs.laws.out_names_differ.Goals as goal

pub returns : goal.returns
returns c = out_names_differ
