use Rattle.std.proofs.Common.{◌≡◌, ◌<◌, ◌≤◌, ◌+◌, ◌-◌, ◌*◌, length}
use Rattle.link_dialog.proofs.Hearings.{LineSoFar}
use Rattle.link_dialog.proofs.hearing.hear_line.Given as goal

abbrev pub invariant-loop-len : goal.invariant-loop-len
invariant-loop-len g l = record {
  patient : l.quiet < l.patience;
  faults : g.L.Links.faults l.fn.links ≤ g.L.Links.faults l.links;
  live : g.L.Links.live l.links ≡ g.L.Links.live l.fn.links;
  small : l.reader.len < 512;
  room : 0 < length l.buf;
  heard : LineSoFar (g.L.Links.trace l.fn.links) (g.L.Links.trace l.links) l.link l.patience l.kind l.reader l.quiet;
}

abbrev pub decreases-loop-len : goal.decreases-loop-len
decreases-loop-len g l = (512 - l.reader.len) * (l.patience + 1) + (l.patience - l.quiet)
