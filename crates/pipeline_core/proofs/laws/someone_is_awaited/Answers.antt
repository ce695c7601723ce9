use Rattle.pipeline_core.proofs.Awaited.{someone_is_awaited}
use Rattle.pipeline_core.proofs.laws.someone_is_awaited.Goals as goal

pub returns : goal.returns
returns c p deep idle full unfinished = someone_is_awaited p deep idle full unfinished
