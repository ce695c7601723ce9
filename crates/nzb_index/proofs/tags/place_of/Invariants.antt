use Rattle.nzb_index.proofs.TagEnds.{place_on}
use Rattle.nzb_index.proofs.tags.place_of.Given as goal

abbrev pub invariant-loop-at : goal.invariant-loop-at
invariant-loop-at l = place_on l.name l.names l.at
