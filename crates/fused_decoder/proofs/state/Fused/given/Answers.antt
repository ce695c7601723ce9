use Rattle.fused_decoder.proofs.StartLaws.{given_count}
use Rattle.fused_decoder.proofs.state.Fused.given.Goals as goal

pub returns : goal.returns
returns c = λ heard bytes a n s given. given_count c.args.self.now heard bytes a n s given
