use Rattle.std.proofs.Common.{arith}
use Rattle.news_spool.proofs.GroupCounts.{counted}
use Rattle.news_spool.proofs.group.count_group.Goals as goal

pub returns : goal.returns
returns c = counted c.args.name.now c.args.articles.now c.loop-i.i c.loop-i.found (omega arith) c.loop-i.invariant.left
