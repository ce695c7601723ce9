use Rattle.overview_index.proofs.IndexLaws.{one_index}
use Rattle.overview_index.proofs.laws.one_index_of_lines.Goals as goal

pub returns : goal.returns
returns c = one_index
