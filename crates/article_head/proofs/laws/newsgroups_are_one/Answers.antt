use Rattle.article_head.proofs.Pieces.{names_are_pieces}
use Rattle.article_head.proofs.laws.newsgroups_are_one.Goals as goal

pub returns : goal.returns
returns c = names_are_pieces
