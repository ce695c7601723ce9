use Rattle.par2_check.proofs.OneRuns.{one_list}
use Rattle.par2_check.proofs.laws.one_list_of_runs.Goals as goal

pub returns : goal.returns
returns c = one_list
