use Rattle.article_head.proofs.PartIdLaws.{ids_differ}
use Rattle.article_head.proofs.laws.part_ids_differ.Goals as goal

pub returns : goal.returns
returns c = ids_differ
