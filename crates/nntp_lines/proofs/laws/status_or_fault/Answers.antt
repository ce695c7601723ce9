use Rattle.nntp_lines.proofs.StatusLaws.{line_is_read, fault_is_told}
use Rattle.nntp_lines.proofs.laws.status_or_fault.Goals as goal

pub returns-clause-code : goal.returns-clause-code
returns-clause-code c = line_is_read

pub returns-clause-fault : goal.returns-clause-fault
returns-clause-fault c = fault_is_told
