use Rattle.yenc_text.proofs.TextLaws.{text_of_three}
use Rattle.yenc_text.proofs.laws.text_of_three.Goals as goal

pub returns : goal.returns
returns c = text_of_three
