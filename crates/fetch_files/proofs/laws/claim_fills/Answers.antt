use Rattle.fetch_files.proofs.Edits.{claim_fills}
use Rattle.fetch_files.proofs.laws.claim_fills.Goals as goal

pub returns : goal.returns
returns c = claim_fills
