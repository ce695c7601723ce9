use Rattle.std.proofs.Common.{rules, ℕ, Ok}
use Rattle.news_spool.proofs.Histories.{opens}
use Rattle.news_spool.proofs.spool.SpoolLinks.open.Goals as goal

pub returns-in-Ok-clause-history : goal.returns-in-Ok-clause-history
returns-in-Ok-clause-history c =
    opens {E = ℕ} c.args.self.now c.open_link.new.self c.args.address.now (Ok c.in-Ok.link) (search rules) (search rules) (search rules) (search rules) (search rules)
