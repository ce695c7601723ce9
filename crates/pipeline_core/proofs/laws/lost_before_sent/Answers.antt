use Rattle.pipeline_core.proofs.Full.{lost_before_sent}
use Rattle.pipeline_core.proofs.laws.lost_before_sent.Goals as goal

pub returns : goal.returns
returns c p link segment = lost_before_sent p link segment
