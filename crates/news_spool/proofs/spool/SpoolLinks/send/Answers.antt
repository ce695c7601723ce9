use Rattle.std.proofs.Common.{rules, ℕ, Ok, Err, length}
use Rattle.std.proofs.Math.Seq.{take-length}
use Rattle.news_spool.proofs.Histories.{sends}
use Rattle.news_spool.proofs.spool.SpoolLinks.send.Goals as goal

pub returns-in-Ok-clause-history : goal.returns-in-Ok-clause-history
returns-in-Ok-clause-history c =
    sends {E = ℕ} c.args.self.now c.take.new.self c.args.link c.args.bytes.now (Ok (length c.args.bytes.now)) (search rules) (rw take-length (search rules)) (search rules) (search rules) (search rules) (search rules)

pub returns-in-Err-clause-history : goal.returns-in-Err-clause-history
returns-in-Err-clause-history c =
    sends {E = ℕ} c.args.self.now c.fail.new.self c.args.link c.args.bytes.now (Err 0) (search rules) (search rules) (search rules) (search rules) (search rules) (search rules)
