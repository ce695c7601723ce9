use Rattle.std.proofs.Common.{◌≡◌, ◌∙◌, ap, arith}
use Rattle.std.specs.Prelude.{map}
use Rattle.std.specs.List.{range_with_len}
use Rattle.poster.specs.Plan.{planned_part}
use Rattle.poster.proofs.PlanLaws.{parts_more}
use Rattle.poster.proofs.planning.cut.Goals as goal

pub loop-before-preserved : goal.loop-before-preserved
loop-before-preserved c =
    parts_more c.args.settings.now c.args.size c.loop-before.before c.loop-before.parts c.push.new.self c.plan_part.result c.loop-before.invariant c.in_ok-push.ensures.ok c.plan_part.ensures

pub returns : goal.returns
returns c =
    let all : c.loop-before.before ≡ c.args.total = omega arith in
    c.loop-before.invariant ∙ ap (λ n. map (planned_part c.args.settings.now c.args.size) (range_with_len 1 n)) (all ∙ c.requires.total)
