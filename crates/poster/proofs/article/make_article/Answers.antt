use Rattle.std.proofs.Common.{arith}
use Rattle.poster.proofs.ArticleLaws.{article_written}
use Rattle.poster.proofs.PlanLaws.{part_number}
use Rattle.poster.proofs.article.make_article.Goals as goal

pub returns : goal.returns
returns c =
    article_written c.args.settings.now c.args.plan.now.size c.args.part _ c.in_ok-dots.dots c.args.bytes.now c.push_article.new.block c.extend.new.self c.requires.settings c.requires.plan.few_bytes c.requires.plan.few_parts
    (part_number c.args.settings.now c.args.plan.now c.args.part c.requires.plan c.requires.first c.requires.last) c.requires.bytes c.in_ok-dots.ensures (omega arith) c.in_ok-extend.ensures.ok
