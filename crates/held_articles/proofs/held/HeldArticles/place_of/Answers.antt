use Rattle.std.proofs.Common.{◌∙◌, ℕ, List, ap}
use Rattle.held_articles.specs.declared.article.Article.{Article}
use Rattle.held_articles.specs.ById.{place_of}
use Rattle.held_articles.proofs.Ids.{place_among}
use Rattle.held_articles.proofs.held.HeldArticles.place_of.Goals as goal

pub returns : goal.returns
returns c =
    c.get_index_of.ensures.index ∙ place_among c.as_slice.result.now c.self.inside.articles c.self.inside.ids.keys c.self.invariant.ids
    ∙ ap (λ (id : List ℕ). place_of id c.self.inside.articles) c.as_slice.ensures.bytes
    ∙ ap (λ (articles : List Article). place_of c.args.id.now articles) c.self.view_is
