use Rattle.nzb_index.proofs.ValidIndex.{nzb_valid}
use Rattle.nzb_index.proofs.laws.index_is_valid.Goals as goal

pub returns : goal.returns
returns c = nzb_valid
