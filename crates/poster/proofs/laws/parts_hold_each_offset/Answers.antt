use Rattle.poster.proofs.PlanLaws.{each_offset}
use Rattle.poster.proofs.laws.parts_hold_each_offset.Goals as goal

pub returns : goal.returns
returns c = each_offset
