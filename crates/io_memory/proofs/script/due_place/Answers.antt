use Rattle.std.proofs.Common.{◌∙◌}
use Rattle.io_memory.proofs.ScriptLaws.{at_due}
use Rattle.io_memory.proofs.script.due_place.Goals as goal

pub returns-else-is_spent : goal.returns-else-is_spent
returns-else-is_spent c =
    at_due c.args.script.now c.loop-turn.turn c.loop-turn.given c.index-script-turn.result c.loop-turn-test.true c.index-script-turn.is (cc) ∙ c.loop-turn.invariant
