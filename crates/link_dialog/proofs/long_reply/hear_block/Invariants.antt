use Rattle.std.proofs.Common.{◌≡◌, ◌<◌, ◌≤◌, ◌+◌, ◌-◌, ◌*◌, List, Option, length}
use Rattle.io_traits.specs.declared.links.LinkEvent.{LinkEvent}
use Rattle.link_dialog.specs.BlockHearing.{BlockSoFar}
use Rattle.link_dialog.proofs.long_reply.hear_block.Given as goal
use Rattle.limits.specs.declared.TheConstants.{MOST_TEXT_BYTES}

abbrev pub invariant-loop-len : goal.invariant-loop-len
invariant-loop-len g l = record {
  patient : l.quiet < l.patience;
  faults : g.L.Links.faults l.fn.links ≤ g.L.Links.faults l.links;
  live : g.L.Links.live l.links ≡ g.L.Links.live l.fn.links;
  small : l.reader.heard ≤ MOST_TEXT_BYTES;
  room : 0 < length l.buf;
  so_far : (before : Option (List LinkEvent)) → BlockSoFar before (g.L.Links.trace l.fn.links) l.link l.patience l.fn.kind l.code l.fn.reader l.fn.block 0 → BlockSoFar before (g.L.Links.trace l.links) l.link l.patience l.fn.kind l.code l.reader l.block l.quiet;
}

abbrev pub decreases-loop-len : goal.decreases-loop-len
decreases-loop-len g l = (MOST_TEXT_BYTES - l.reader.heard) * (l.patience + 1) + (l.patience - l.quiet)
