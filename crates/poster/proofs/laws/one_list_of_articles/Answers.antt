use Rattle.std.proofs.Common.{arith}
use Rattle.poster.proofs.ArticleLaws.{same_articles}
use Rattle.poster.proofs.ArticlesThere.{articles_there}
use Rattle.poster.proofs.laws.one_list_of_articles.Goals as goal

pub returns : goal.returns
returns c = λ s file settings.
    let found = articles_there s file (omega (arith, settings.line_least)) in
    (found.0, found.1, λ others are. same_articles s file others found.0 are found.1)
