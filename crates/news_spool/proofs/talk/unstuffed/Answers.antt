use Rattle.std.proofs.Common.{rules, ◌≡◌, subst, sym}
use Rattle.dot_blocks.specs.Blocks.{HoldsNoLineEnd}
use Rattle.dot_blocks.specs.BlockReading.{unstuffed}
use Rattle.news_spool.proofs.LineEnds.{none_unstuffed}
use Rattle.news_spool.proofs.talk.unstuffed.Goals as goal

pub returns-in-Some-clause-rule : goal.returns-in-Some-clause-rule
returns-in-Some-clause-rule c =
    let is : c.in-Some.rest.now ≡ unstuffed c.args.line.now = search rules in
    λ none. subst HoldsNoLineEnd (sym is) (none_unstuffed c.args.line.now none)
