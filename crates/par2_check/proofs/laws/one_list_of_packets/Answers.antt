use Rattle.par2_check.proofs.OnePackets.{one_list, some_list}
use Rattle.par2_check.proofs.laws.one_list_of_packets.Goals as goal

pub returns : goal.returns
returns c = (some_list, one_list)
