-- The key of the article stands behind the others.
use Rattle.std.proofs.Common.{rules, ◌≡◌, false, List, subst, sym}
use Rattle.held_articles.specs.declared.article.Article.{Article}
use Rattle.held_articles.specs.Articles.{is_known}
use Rattle.held_articles.specs.ById.{AreKept}
use Rattle.held_articles.proofs.Ids.{one_put}
use Rattle.held_articles.proofs.Presence.{once_more}
use Rattle.held_articles.proofs.held.HeldArticles.push.Goals as goal

pub invariant_of-self-in-Ok : goal.invariant_of-self-in-Ok
invariant_of-self-in-Ok c =
    let unknown : is_known c.args.article.id c.self.inside.articles ≡ false = search rules in
    subst (λ (articles : List Article). AreKept articles c.insert.new.self.keys) (sym c.in_ok-push.ensures.ok) (record {
      ids = one_put c.self.inside.articles c.self.inside.ids.keys c.insert.new.self.keys c.args.article c.in_ok-id.id c.self.invariant.ids (search rules) unknown
          c.in-Ok.ensures.keys;
      once = once_more c.self.inside.articles c.args.article c.self.invariant.once unknown;
    })
