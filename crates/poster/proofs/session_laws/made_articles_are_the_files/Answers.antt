use Rattle.poster.proofs.MadeLaws.{made_are_the_files}
use Rattle.poster.proofs.session_laws.made_articles_are_the_files.Goals as goal

pub returns : goal.returns
returns c = made_are_the_files
