use Rattle.article_head.proofs.HeadLaws.{head_is_fields}
use Rattle.article_head.proofs.laws.head_lines_are_fields.Goals as goal

pub returns : goal.returns
returns c = head_is_fields
