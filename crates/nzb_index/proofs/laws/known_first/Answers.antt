use Rattle.nzb_index.proofs.NzbLaws.{known_first_of}
use Rattle.nzb_index.proofs.laws.known_first.Goals as goal

pub returns : goal.returns
returns c = known_first_of
