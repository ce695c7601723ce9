use Rattle.fetch_files.proofs.Final.{shelf_is_final}
use Rattle.fetch_files.proofs.laws.shelf_is_final.Goals as goal

pub returns : goal.returns
returns c = shelf_is_final
