use Rattle.news_spool.proofs.OneLine.{one_line}
use Rattle.news_spool.proofs.laws.overview_is_one_line.Goals as goal

pub returns : goal.returns
returns c = λ number article date number_fits octets_fit lines_fit id clean. one_line number article date number_fits octets_fit lines_fit id clean
