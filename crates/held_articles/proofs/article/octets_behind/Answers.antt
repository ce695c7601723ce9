-- One line more.
use Rattle.std.proofs.Common.{rules, ◌∙◌}
use Rattle.held_articles.proofs.OctetCounts.{one_line}
use Rattle.held_articles.proofs.article.octets_behind.Goals as goal

pub loop-i-preserved : goal.loop-i-preserved
loop-i-preserved c =
    one_line c.args.lines.now c.loop-i.i c.loop-i.octets c.in_ok-octets.octets c.line.result.now c.line.ensures (search rules)
    ∙ c.loop-i.invariant
