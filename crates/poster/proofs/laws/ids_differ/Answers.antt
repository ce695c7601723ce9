use Rattle.poster.proofs.PlanLaws.{planned_ids_differ}
use Rattle.poster.proofs.laws.ids_differ.Goals as goal

pub returns : goal.returns
returns c = planned_ids_differ
