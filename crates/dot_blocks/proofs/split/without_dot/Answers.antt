use Rattle.dot_blocks.proofs.Framing.{undotted_slice}
use Rattle.dot_blocks.proofs.split.without_dot.Goals as goal

pub returns-then-wire-eq46 : goal.returns-then-wire-eq46
returns-then-wire-eq46 c = λ none more. undotted_slice c.args.wire.now c.if-wire-eq46.true none more
