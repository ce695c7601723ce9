use Rattle.std.proofs.Common.{arith}
use Rattle.dot_blocks.proofs.Framing.{behind_return, behind_other}
use Rattle.dot_blocks.proofs.place.Place.after.Goals as goal

pub returns-then-bytes-len-eq13 : goal.returns-then-bytes-len-eq13
returns-then-bytes-len-eq13 c = λ begun at. behind_return begun c.args.bytes.now (omega arith) c.if-bytes-len-eq13.true

pub returns-else-bytes-len-eq13 : goal.returns-else-bytes-len-eq13
returns-else-bytes-len-eq13 c = λ begun at. behind_other begun c.args.bytes.now (omega arith) c.if-bytes-len-eq13.false
