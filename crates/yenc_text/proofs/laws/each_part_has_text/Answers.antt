use Rattle.yenc_text.proofs.Existing.{each_has_text}
use Rattle.yenc_text.proofs.laws.each_part_has_text.Goals as goal

pub returns : goal.returns
returns c = each_has_text
