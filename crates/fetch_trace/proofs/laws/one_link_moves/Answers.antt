use Rattle.fetch_trace.proofs.Apart.{one_link_moves}
use Rattle.fetch_trace.proofs.laws.one_link_moves.Goals as goal

pub returns : goal.returns
returns c setting events n byte = one_link_moves setting events n byte
