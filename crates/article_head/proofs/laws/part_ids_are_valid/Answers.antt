use Rattle.article_head.proofs.MessageIdCore.{part_id_is_core}
use Rattle.article_head.proofs.laws.part_ids_are_valid.Goals as goal

pub returns : goal.returns
returns c = part_id_is_core
