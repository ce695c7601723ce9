use Rattle.fetch_files.proofs.Edits.{release_fills}
use Rattle.fetch_files.proofs.laws.release_fills.Goals as goal

pub returns : goal.returns
returns c = release_fills
