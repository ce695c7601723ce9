use Rattle.nntp_lines.proofs.GroupLaws.{line_is_read}
use Rattle.nntp_lines.proofs.laws.group_line_is_read.Goals as goal

pub returns : goal.returns
returns c = line_is_read
