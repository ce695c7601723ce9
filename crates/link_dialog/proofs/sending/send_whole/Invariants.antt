use Rattle.std.proofs.Common.{length, ◌-◌, ◌≡◌, ◌≤◌, take}
use Rattle.link_dialog.specs.Sending.{SentWhole}
use Rattle.link_dialog.proofs.sending.send_whole.Given as goal

abbrev pub invariant-loop-done : goal.invariant-loop-done
invariant-loop-done g l = record {
  within : l.done ≤ length l.bytes;
  faults : g.L.Links.faults l.fn.links ≤ g.L.Links.faults l.links;
  live : g.L.Links.live l.links ≡ g.L.Links.live l.fn.links;
  sent : SentWhole (g.L.Links.trace l.fn.links) (g.L.Links.trace l.links) l.link (take l.done l.bytes);
}

abbrev pub decreases-loop-done : goal.decreases-loop-done
decreases-loop-done g l = length l.bytes - l.done
