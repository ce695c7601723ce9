use Rattle.std.proofs.Common.{◌∙◌, ap, arith}
use Rattle.poster.specs.declared.parts.PlanPart.{PlanPart}
use Rattle.poster.proofs.ArticleLaws.{article_sent}
use Rattle.poster.proofs.PlanLaws.{count_of_parts, part_read}
use Rattle.poster.proofs.article.push_article.Goals as goal

pub overflow_cast-total : goal.overflow_cast-total
overflow_cast-total c = omega (arith, c.len-total.ensures, count_of_parts c.args.settings.now c.args.plan.now c.requires.plan, c.requires.plan.few_parts)

pub returns : goal.returns
returns c =
    let planned = part_read c.args.settings.now c.args.plan.now c.args.part c.as_slice.result.now c.index-as_slice-part.result c.requires.plan c.requires.first c.requires.last c.as_slice.ensures c.index-as_slice-part.is in
    article_sent c.args.settings.now c.args.plan.now.size c.args.part c.len-total.result c.args.bytes.now c.index-as_slice-part.result.id c.args.head.now c.push_head.new.lines c.args.block.now c.push_lines.new.block c.push_body.new.block _ _
    c.requires.no_line c.in_ok-push_head.ensures (c.len-total.ensures ∙ count_of_parts c.args.settings.now c.args.plan.now c.requires.plan) (ap (λ (part : PlanPart). part.id) planned) c.requires.no_byte c.in_ok-in_head.ensures.lines c.in_ok-in_body.ensures.body
