use Rattle.std.proofs.Common.{◌≡◌, List, ℕ, OnOk, subst}
use Rattle.par2_check.proofs.RunLaws.{apart_at, joined_at}
use Rattle.par2_check.proofs.runs.add_number.Goals as goal

pub returns-then-saturating_sub-eq1 : goal.returns-then-saturating_sub-eq1
returns-then-saturating_sub-eq1 c =
    joined_at c.args.number c.args.runs.now c.as_slice.result.now c.set.new.self c.len-count.result c.saturating_sub.result c.as_slice.ensures c.len-count.ensures c.if-count-eq0.false c.saturating_sub.ensures
    c.if-saturating_sub-eq1.true c.set.ensures

pub returns : goal.returns
returns c =
    subst (λ (runs : List (ℕ × ℕ)). OnOk c.push-2.result (c.push-2.new.self ≡ runs))
    (apart_at c.args.number c.args.runs.now c.as_slice.result.now c.len-count.result c.saturating_sub.result c.as_slice.ensures c.len-count.ensures c.if-count-eq0.false c.saturating_sub.ensures c.if-saturating_sub-eq1.false)
    c.push-2.ensures.ok
