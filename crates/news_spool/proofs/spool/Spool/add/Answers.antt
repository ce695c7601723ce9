use Rattle.std.proofs.Common.{refl, rules}
use Rattle.held_articles.specs.Articles.{new_article}
use Rattle.news_spool.proofs.Histories.{adds}
use Rattle.news_spool.proofs.spool.Spool.add.Goals as goal

pub returns-in-Ok-clause-history : goal.returns-in-Ok-clause-history
returns-in-Ok-clause-history c =
    adds c.args.self.now _ (new_article c.args.id c.args.group c.args.head c.args.body) refl refl refl (search rules)
