-- All parts in turn, and QUIT behind them.
use Rattle.std.proofs.Common.{◌-◌, ℕ, length, arith, subst, sym, refl}
use Rattle.poster.specs.Said.{blocks_of, messages_of}
use Rattle.poster.specs.Posting.{PostingEnded, UnderWay}
use Rattle.poster.proofs.DeskLemmas.{some_part}
use Rattle.poster.proofs.PlanLaws.{count_of_parts}
use Rattle.poster.proofs.SessionSteps.{all_quit, part_stopped}
use Rattle.poster.proofs.session.post_parts.Goals as goal

pub overflow_cast-total : goal.overflow_cast-total
overflow_cast-total g c = omega (arith, c.len-total.ensures, count_of_parts c.args.settings.now c.args.plan.now c.requires.plan, c.requires.plan.few_parts)

pub overflow_add-part : goal.overflow_add-part
overflow_add-part g c = omega (arith, c.loop-end.invariant.last, c.len-total.ensures, count_of_parts c.args.settings.now c.args.plan.now c.requires.plan, c.requires.plan.few_parts)

pub loop-end-init : goal.loop-end-init
loop-end-init g c = record {
  first = omega arith;
  last = omega (arith, c.len-total.ensures, some_part c.args.settings.now c.args.plan.now c.requires.plan);
  all = c.requires.all;
  live = c.requires.live;
  made = c.requires.made;
  under_way = λ start u. u;
  current = refl;
  content = refl;
  faults = refl;
  shorts = refl;
  blame = refl;
}

pub returns-in-Some-clause-ends : goal.returns-in-Some-clause-ends
returns-in-Some-clause-ends g c start u =
    let before = subst (λ (n : ℕ). UnderWay c.args.settings.now c.args.plan.now.size n (g.I.Input.content c.args.input.now) start (g.L.Links.trace c.loop-end.links) c.args.dialog (c.loop-end.part - 1) c.loop-end.sent) (sym c.loop-end.invariant.all) (c.loop-end.invariant.under_way start u) in
    subst (λ (n : ℕ). PostingEnded c.args.settings.now c.args.plan.now.size n (g.I.Input.content c.args.input.now) start (g.L.Links.trace c.post_part.new.links) c.post_part.new.sent c.in-Some.end) c.loop-end.invariant.all
    (c.in-Some.ensures.ends c.args.settings.now c.args.plan.now.size (g.I.Input.content c.args.input.now) start before c.loop-end.invariant.made)

pub returns-then-part-total-clause-ends : goal.returns-then-part-total-clause-ends
returns-then-part-total-clause-ends g c start u =
    let before = subst (λ (n : ℕ). UnderWay c.args.settings.now c.args.plan.now.size n (g.I.Input.content c.args.input.now) start (g.L.Links.trace c.loop-end.links) c.args.dialog (c.loop-end.part - 1) c.loop-end.sent) (sym c.loop-end.invariant.all) (c.loop-end.invariant.under_way start u) in
    let posted = subst (λ (n : ℕ). UnderWay c.args.settings.now c.args.plan.now.size n (g.I.Input.content c.args.input.now) start (g.L.Links.trace c.post_part.new.links) c.args.dialog c.loop-end.part c.post_part.new.sent) c.loop-end.invariant.all
    (c.in-None.ensures.ends c.args.settings.now c.args.plan.now.size (g.I.Input.content c.args.input.now) start before c.loop-end.invariant.made) in
    all_quit c.args.settings.now c.args.plan.now.size (length c.args.plan.now.parts) (g.I.Input.content c.args.input.now) start (g.L.Links.trace c.post_part.new.links) (g.L.Links.trace c.quit.new.links) c.args.dialog c.loop-end.part c.post_part.new.sent posted
    (omega (arith, c.if-part-total.true, c.loop-end.invariant.last, c.len-total.ensures)) (some_part c.args.settings.now c.args.plan.now c.requires.plan)
    (c.quit.ensures.quits start (messages_of (blocks_of posted.mades)) posted.replies posted.rests)

pub returns-in-Err-clause-ends : goal.returns-in-Err-clause-ends
returns-in-Err-clause-ends g c start u =
    let before = subst (λ (n : ℕ). UnderWay c.args.settings.now c.args.plan.now.size n (g.I.Input.content c.args.input.now) start (g.L.Links.trace c.loop-end.links) c.args.dialog (c.loop-end.part - 1) c.loop-end.sent) (sym c.loop-end.invariant.all) (c.loop-end.invariant.under_way start u) in
    let posted = subst (λ (n : ℕ). UnderWay c.args.settings.now c.args.plan.now.size n (g.I.Input.content c.args.input.now) start (g.L.Links.trace c.post_part.new.links) c.args.dialog c.loop-end.part c.post_part.new.sent) c.loop-end.invariant.all
    (c.in-None.ensures.ends c.args.settings.now c.args.plan.now.size (g.I.Input.content c.args.input.now) start before c.loop-end.invariant.made) in
    part_stopped c.args.settings.now c.args.plan.now.size (length c.args.plan.now.parts) (g.I.Input.content c.args.input.now) start (g.L.Links.trace c.post_part.new.links) (g.L.Links.trace c.quit-in-Err.new.links) c.args.dialog c.loop-end.part c.post_part.new.sent posted
    c.loop-end.invariant.first (omega (arith, c.if-part-total.false, c.len-total.ensures)) (c.quit-in-Err.ensures.quits start (messages_of (blocks_of posted.mades)) posted.replies posted.rests)
