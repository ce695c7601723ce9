use Rattle.std.proofs.Common.{refl}
use Rattle.dot_blocks.proofs.Framing.{returned}
use Rattle.dot_blocks.proofs.place.Place.is_returned.Goals as goal

pub returns-in-DotReturn : goal.returns-in-DotReturn
returns-in-DotReturn c = λ begun at. (λ _. returned c.args.self begun c.in-DotReturn.is at, λ _. refl)
