use Rattle.yenc_body.proofs.PartLaws.{parts_are_file}
use Rattle.poster.proofs.laws.parts_are_the_file.Goals as goal

pub returns : goal.returns
returns c = parts_are_file
