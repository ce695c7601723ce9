use Rattle.dot_blocks.proofs.Framing.{isnt_dot}
use Rattle.dot_blocks.proofs.framer.is_dot_line.Goals as goal

pub returns-in-Return : goal.returns-in-Return
returns-in-Return c = λ begun at none ended. (λ no. absurd cc, λ is. absurd (isnt_dot c.args.place begun c.args.bytes.now c.in-Return.is at none is))
