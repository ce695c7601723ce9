use Rattle.poster.proofs.ArticleLaws.{hold_no_line_end}
use Rattle.poster.proofs.laws.articles_hold_no_line_end.Goals as goal

pub returns : goal.returns
returns c = hold_no_line_end
