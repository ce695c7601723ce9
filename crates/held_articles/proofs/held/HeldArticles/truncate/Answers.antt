-- The message-ids of the articles that are kept.
use Rattle.std.proofs.Common.{List, ◌∙◌, ap, map, subst, sym}
use Rattle.held_articles.specs.declared.article.Article.{Article}
use Rattle.held_articles.specs.ById.{AreKept}
use Rattle.held_articles.proofs.Ids.{first_ones}
use Rattle.held_articles.proofs.Presence.{once_in_front}
use Rattle.held_articles.proofs.held.HeldArticles.truncate.Goals as goal

pub invariant_of-self : goal.invariant_of-self
invariant_of-self c = subst (λ (articles : List Article). AreKept articles c.truncate-2.new.self.keys) (sym c.truncate.ensures) (record {
  ids = ap (map (λ key. key.items)) c.truncate-2.ensures.keys ∙ first_ones c.self.inside.articles c.self.inside.ids.keys c.args.len c.self.invariant.ids;
  once = once_in_front c.self.inside.articles c.args.len c.self.invariant.once;
})
