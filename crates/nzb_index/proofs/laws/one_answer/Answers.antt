use Rattle.nzb_index.proofs.NzbLaws.{one_answer_of}
use Rattle.nzb_index.proofs.laws.one_answer.Goals as goal

pub returns : goal.returns
returns c = one_answer_of
