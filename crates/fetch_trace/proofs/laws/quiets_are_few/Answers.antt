use Rattle.fetch_trace.proofs.LawfulLaws.{quiets_are_few}
use Rattle.fetch_trace.proofs.laws.quiets_are_few.Goals as goal

pub returns : goal.returns
returns c setting events n some lawful = quiets_are_few setting events n some lawful
