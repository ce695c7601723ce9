-- Send by send.
use Rattle.std.proofs.Common.{◌≤◌, ◌-◌, length, arith, ◌∙◌}
use Rattle.std.proofs.lemmas.List.{length-drop, take_rest}
use Rattle.link_dialog.proofs.Telling.{sent_next}
use Rattle.link_dialog.proofs.sending.send_whole.Goals as goal

pub loop-done-preserved : goal.loop-done-preserved
loop-done-preserved g c =
    let trace = rw (take_rest c.args.bytes.now c.loop-done.done) at c.in-Ok.ensures.trace in
    let count = rw (take_rest c.args.bytes.now c.loop-done.done) at c.in-Ok.ensures.count in
    let left : c.in-Ok.n ≤ length c.args.bytes.now - c.loop-done.done = rw (← length-drop c.loop-done.done c.args.bytes.now) count.1 in
    let cause = c.in-Ok.ensures.cause.later in
    record {
      within = omega (arith, left, c.loop-done-test.true);
      faults = let before = c.loop-done.invariant.faults in omega (arith, cause, before);
      live = c.in-Ok.ensures.live ∙ c.loop-done.invariant.live;
      sent = sent_next (g.L.Links.trace c.args.links.now) (g.L.Links.trace c.loop-done.links) (g.L.Links.trace c.send.new.self) c.args.link c.args.bytes.now c.loop-done.done c.in-Ok.n c.loop-done.invariant.sent trace count.0 count.1;
    }
