use Rattle.std.proofs.Common.{◌∙◌, ℕ, List, ap}
use Rattle.held_articles.specs.declared.article.Article.{Article}
use Rattle.held_articles.specs.Articles.{is_known}
use Rattle.held_articles.proofs.Ids.{known_among}
use Rattle.held_articles.proofs.held.HeldArticles.is_known.Goals as goal

pub returns : goal.returns
returns c =
    c.contains.ensures ∙ known_among c.as_slice.result.now c.self.inside.articles c.self.inside.ids.keys c.self.invariant.ids
    ∙ ap (λ (id : List ℕ). is_known id c.self.inside.articles) c.as_slice.ensures.bytes
    ∙ ap (λ (articles : List Article). is_known c.args.id.now articles) c.self.view_is
