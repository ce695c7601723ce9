use Rattle.fetch_files.proofs.Edits.{free_gave_nothing}
use Rattle.fetch_files.proofs.laws.free_gave_nothing.Goals as goal

pub returns : goal.returns
returns c = free_gave_nothing
