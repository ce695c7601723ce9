use Rattle.std.proofs.Common.{rules, length}
use Rattle.io_traits.specs.declared.links.Got.TheVariants as got
use Rattle.news_spool.proofs.Histories.{receives}
use Rattle.news_spool.proofs.spool.SpoolLinks.receive.Goals as goal

pub returns-in-Ok-clause-history : goal.returns-in-Ok-clause-history
returns-in-Ok-clause-history c =
    receives c.args.self.now c.pass.new.self c.args.link (length c.args.buf.now) c.next_on-due.new.buf (got.Bytes c.in-Bytes.n) (search rules) (search rules) (search rules) (search rules) (search rules) (search rules)

pub returns-in-Err-clause-history : goal.returns-in-Err-clause-history
returns-in-Err-clause-history c =
    receives c.args.self.now c.fail.new.self c.args.link (length c.args.buf.now) c.next_on-due.new.buf got.Failed (search rules) (search rules) (search rules) (search rules) (search rules) (search rules)

pub returns-in-Ok-tell_quiet-clause-history : goal.returns-in-Ok-tell_quiet-clause-history
returns-in-Ok-tell_quiet-clause-history c =
    receives c.args.self.now _ c.args.link (length c.args.buf.now) c.next_on-due.new.buf got.Quiet (search rules) (search rules) (search rules) (search rules) (search rules) (search rules)

pub returns-in-Err-tell_quiet-clause-history : goal.returns-in-Err-tell_quiet-clause-history
returns-in-Err-tell_quiet-clause-history c =
    receives c.args.self.now c.fail-in-Err-tell_quiet.new.self c.args.link (length c.args.buf.now) c.next_on-due.new.buf got.Failed (search rules) (search rules) (search rules) (search rules) (search rules) (search rules)

pub returns-in-End-clause-history : goal.returns-in-End-clause-history
returns-in-End-clause-history c =
    receives c.args.self.now c.end.new.self c.args.link (length c.args.buf.now) c.next_on-due.new.buf got.Closed (search rules) (search rules) (search rules) (search rules) (search rules) (search rules)
