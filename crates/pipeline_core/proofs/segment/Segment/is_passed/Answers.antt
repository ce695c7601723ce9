use Rattle.std.proofs.Common.{◌≡◌, ◌∙◌, sym, true, arith}
use Rattle.std.proofs.lemmas.Grind.{common_steps}
use Rattle.pipeline_core.specs.Searches.{passes}
use Rattle.pipeline_core.proofs.Searching.{all_yes}
use Rattle.pipeline_core.proofs.segment.Segment.is_passed.Goals.{else-waits-server-via-then-waits-server+else-not-self-server, else-waits-server-via-else-waits-server}
use Rattle.pipeline_core.proofs.segment.Segment.is_passed.Goals as goal

pub loop-server-preserved : goal.loop-server-preserved
loop-server-preserved c =
    let holds : passes c.args.waits.now c.args.self.now.answered c.loop-server.server ≡ true =
    elim c.else-waits-server.branch [
      | else-waits-server-via-then-waits-server+else-not-self-server w ↦ grind (arith, common_steps)
      | else-waits-server-via-else-waits-server w ↦ grind (arith, common_steps)
    ] in
    sym (all_yes (passes c.args.waits.now c.args.self.now.answered) c.loop-server.server c.args.servers c.loop-server-test.true holds) ∙ c.loop-server.invariant
