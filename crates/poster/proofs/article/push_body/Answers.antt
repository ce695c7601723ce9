use Rattle.std.proofs.Common.{length}
use Rattle.poster.proofs.ArticleLaws.{spec_is_part}
use Rattle.poster.proofs.PlanLaws.{part_number}
use Rattle.poster.proofs.WireLemmas.{body_pushed}
use Rattle.poster.proofs.article.push_body.Goals as goal

pub push_opening-requires : goal.push_opening-requires
push_opening-requires c =
    spec_is_part c.args.settings.now c.args.plan.now.size c.args.part (length c.args.bytes.now) c.in_ok-spec.spec c.requires.settings c.requires.plan.few_bytes
    (part_number c.args.settings.now c.args.plan.now c.args.part c.requires.plan c.requires.first c.requires.last) c.requires.bytes c.in_ok-spec.ensures

pub push_closing-requires : goal.push_closing-requires
push_closing-requires c =
    spec_is_part c.args.settings.now c.args.plan.now.size c.args.part (length c.args.bytes.now) c.in_ok-spec.spec c.requires.settings c.requires.plan.few_bytes
    (part_number c.args.settings.now c.args.plan.now c.args.part c.requires.plan c.requires.first c.requires.last) c.requires.bytes c.in_ok-spec.ensures

pub returns-clause-body : goal.returns-clause-body
returns-clause-body c =
    body_pushed c.in_ok-spec.spec _ c.args.bytes.now c.args.block.now c.push_opening.new.text c.push_data.new.block c.push_closing.new.text _ c.in_ok-spec.ensures c.in_ok-push_opening.ensures c.in_ok-dots.ensures.data c.in_ok-push_closing.ensures
