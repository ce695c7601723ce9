use Rattle.std.proofs.Common.{subst}
use Rattle.body_text.specs.Standing.{IsBeforeData}
use Rattle.body_text.proofs.opening.read_stage.Goals as goal

pub unreachable-requires : goal.unreachable-requires
unreachable-requires c = subst IsBeforeData c.in-Filling.is c.requires.before
