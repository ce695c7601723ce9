use Rattle.par2_check.proofs.OnePackets.{one_set, some_set}
use Rattle.par2_check.proofs.laws.one_set_or_none.Goals as goal

pub returns : goal.returns
returns c = (some_set, one_set)
