use Rattle.nzb_index.proofs.CanonicalText.{canonical_is_nzb}
use Rattle.nzb_index.proofs.laws.nzb_reads_back.Goals as goal

pub returns : goal.returns
returns c = canonical_is_nzb
