-- All ranges in turn, and QUIT behind them.
use Rattle.std.proofs.Common.{◌+◌, ◌*◌, Bool, max, min, take, refl, ap, sym, subst, ◌∙◌, arith}
use Rattle.link_dialog.specs.Talk.{link_of_dialog}
use Rattle.overview_index.specs.Asking.{IndexUnderWay}
use Rattle.overview_index.specs.Session.{messages_of, ranges_in}
use Rattle.overview_index.proofs.Ranges.{count_in, range_there}
use Rattle.overview_index.proofs.SessionSteps.{range_unasked, all_heard, still_live}
use Rattle.overview_index.proofs.session.index_ranges.Goals as goal

pub loop-done-init : goal.loop-done-init
loop-done-init g c = record { live = c.requires.live; faults = omega arith; under_way = λ q start f l u. u }

pub returns-then-not-live-clause-faults : goal.returns-then-not-live-clause-faults
returns-then-not-live-clause-faults g c = c.loop-done.invariant.faults

pub returns-then-not-live-clause-ends : goal.returns-then-not-live-clause-ends
returns-then-not-live-clause-ends g c q start f l u =
    let group = c.args.chosen.group in
    let under = subst (λ (b : Bool). IndexUnderWay q start (g.L.Links.trace c.loop-done.links) c.args.dialog group c.loop-done.desk c.loop-done.done b) c.if-not-live.true (c.loop-done.invariant.under_way q start f l u) in
    let count = count_in q group c.max-least.result c.min-most.result (c.max-least.ensures ∙ ap (λ k. max k group.low) (sym f)) (c.min-most.ensures ∙ ap (λ k. min k group.high) (sym l)) in
    range_unasked q start (g.L.Links.trace c.loop-done.links) c.args.dialog group c.loop-done.desk c.loop-done.done under (omega (arith, count, c.loop-done-test.true, c.range_count-done-end.ensures))

pub index_range-requires-clause-live : goal.index_range-requires-clause-live
index_range-requires-clause-live g c = c.loop-done.invariant.live c.if-not-live.false

pub returns-in-Err-clause-faults : goal.returns-in-Err-clause-faults
returns-in-Err-clause-faults g c = omega (arith, c.loop-done.invariant.faults, c.in-Err.ensures.faults)

pub quit-requires : goal.quit-requires
quit-requires g c = c.loop-done.invariant.live

pub returns-clause-faults : goal.returns-clause-faults
returns-clause-faults g c = omega (arith, c.loop-done.invariant.faults, c.quit.ensures.faults)

pub returns-in-Err-clause-ends : goal.returns-in-Err-clause-ends
returns-in-Err-clause-ends g c q start f l u =
    let group = c.args.chosen.group in
    let under = subst (λ (b : Bool). IndexUnderWay q start (g.L.Links.trace c.loop-done.links) c.args.dialog group c.loop-done.desk c.loop-done.done b) c.if-not-live.false (c.loop-done.invariant.under_way q start f l u) in
    let there = range_there q group c.max-least.result c.min-most.result c.loop-done.done (c.max-least.result + c.loop-done.done * 10000) c.min-to.result (c.max-least.ensures ∙ ap (λ k. max k group.low) (sym f)) (c.min-most.ensures ∙ ap (λ k. min k group.high) (sym l))
    (omega (arith, c.loop-done-test.true, c.range_count-done-end.ensures)) refl c.min-to.ensures in
    c.in-Err.ensures.ends q start group c.loop-done.done there under

pub loop-done-preserved : goal.loop-done-preserved
loop-done-preserved g c = record {
  live = still_live (g.L.Links.live c.loop-done.links) (g.L.Links.live c.index_range.new.links) (link_of_dialog c.args.dialog) c.in-Ok.still (c.loop-done.invariant.live c.if-not-live.false) c.in-Ok.ensures.live;
  faults = omega (arith, c.loop-done.invariant.faults, c.in-Ok.ensures.faults);
  under_way = λ q start f l u.
      let group = c.args.chosen.group in
      let under = subst (λ (b : Bool). IndexUnderWay q start (g.L.Links.trace c.loop-done.links) c.args.dialog group c.loop-done.desk c.loop-done.done b) c.if-not-live.false (c.loop-done.invariant.under_way q start f l u) in
      let there = range_there q group c.max-least.result c.min-most.result c.loop-done.done (c.max-least.result + c.loop-done.done * 10000) c.min-to.result (c.max-least.ensures ∙ ap (λ k. max k group.low) (sym f)) (c.min-most.ensures ∙ ap (λ k. min k group.high) (sym l))
      (omega (arith, c.loop-done-test.true, c.range_count-done-end.ensures)) refl c.min-to.ensures in
      c.in-Ok.ensures.ends q start group c.loop-done.done there under;
}

pub returns-clause-ends : goal.returns-clause-ends
returns-clause-ends g c q start f l u =
    let group = c.args.chosen.group in
    let under = c.loop-done.invariant.under_way q start f l u in
    let count = count_in q group c.max-least.result c.min-most.result (c.max-least.ensures ∙ ap (λ k. max k group.low) (sym f)) (c.min-most.ensures ∙ ap (λ k. min k group.high) (sym l)) in
    all_heard q start (g.L.Links.trace c.loop-done.links) (g.L.Links.trace c.quit.new.links) c.args.dialog group c.loop-done.desk c.loop-done.done c.loop-done.live under
    (omega (arith, count, c.loop-done-test.false, c.range_count-done-end.ensures)) (c.quit.ensures.quits start (messages_of q.group (take c.loop-done.done (ranges_in q group))) under.replies under.stands)
