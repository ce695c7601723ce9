use Rattle.poster.proofs.MadeLaws.{article_each_once}
use Rattle.poster.proofs.session_laws.each_article_once.Goals as goal

pub returns : goal.returns
returns c = article_each_once
