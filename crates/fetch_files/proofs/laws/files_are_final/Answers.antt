use Rattle.fetch_files.proofs.Final.{files_are_final}
use Rattle.fetch_files.proofs.laws.files_are_final.Goals as goal

pub returns : goal.returns
returns c = files_are_final
