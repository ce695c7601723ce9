use Rattle.overview_lines.proofs.CountLaws.{last_count_is_read}
use Rattle.overview_lines.proofs.laws.one_last_count.Goals as goal

pub returns : goal.returns
returns c = last_count_is_read
