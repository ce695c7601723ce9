use Rattle.nzb_index.proofs.ReasonsAnswered.{reasons_told}
use Rattle.nzb_index.proofs.laws.reasons_are_told.Goals as goal

pub returns : goal.returns
returns c = reasons_told
