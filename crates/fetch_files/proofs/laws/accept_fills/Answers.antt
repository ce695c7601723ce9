use Rattle.fetch_files.proofs.Edits.{accept_fills}
use Rattle.fetch_files.proofs.laws.accept_fills.Goals as goal

pub returns : goal.returns
returns c = accept_fills
