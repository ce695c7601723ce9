use Rattle.std.proofs.Common.{◌∙◌, ap, arith, rules}
use Rattle.poster.proofs.ArticleLaws.{spec_made}
use Rattle.poster.proofs.PlanLaws.{count_of_parts, part_read}
use Rattle.poster.specs.declared.parts.PlanPart.{PlanPart}
use Rattle.poster.proofs.article.spec_of.Goals as goal

pub overflow_cast-result : goal.overflow_cast-result
overflow_cast-result c = omega (arith, c.len.ensures, count_of_parts c.args.settings.now c.args.plan.now c.requires.plan, c.requires.plan.few_parts)

pub returns : goal.returns
returns c =
    let planned = part_read c.args.settings.now c.args.plan.now c.args.part c.as_slice.result.now c.index-as_slice-part.result c.requires.plan c.requires.first c.requires.last c.as_slice.ensures c.index-as_slice-part.is in
    spec_made c.args.settings.now c.args.plan.now.size c.args.part c.len.result c.index-as_slice-part.result.first c.in_ok-clone.field-0 (search rules)
    (c.len.ensures ∙ count_of_parts c.args.settings.now c.args.plan.now c.requires.plan) (ap (λ (part : PlanPart). part.first) planned)
