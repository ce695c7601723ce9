use Rattle.news_spool.proofs.SaidNumbers.{says_counts}
use Rattle.news_spool.proofs.laws.group_line_says_counts.Goals as goal

pub returns : goal.returns
returns c = λ name told count low high. says_counts name told count low high
