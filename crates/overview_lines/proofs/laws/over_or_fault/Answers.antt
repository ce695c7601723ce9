use Rattle.overview_lines.proofs.OverLaws.{fault_is_told, over_is_read, over_or_fault}
use Rattle.overview_lines.proofs.laws.over_or_fault.Goals as goal

pub returns-clause-line : goal.returns-clause-line
returns-clause-line c = over_is_read

pub returns-clause-fault : goal.returns-clause-fault
returns-clause-fault c = fault_is_told

pub returns-clause-either : goal.returns-clause-either
returns-clause-either c = over_or_fault
