use Rattle.std.proofs.Common.{◌≡◌, ◌∙◌, sym, Some, true, arith}
use Rattle.std.proofs.lemmas.Grind.{common_steps}
use Rattle.pipeline_core.specs.Searches.{is_done_with}
use Rattle.pipeline_core.proofs.Searching.{all_yes}
use Rattle.pipeline_core.proofs.scans.is_spent.Goals.{else-not-is_answered_by-via-then-not-is_answered_by+else-has_link_left, else-not-is_answered_by-via-else-not-is_answered_by}
use Rattle.pipeline_core.proofs.scans.is_spent.Goals as goal

pub loop-server-preserved : goal.loop-server-preserved
loop-server-preserved c =
    let holds : is_done_with c.args.links.now (Some c.args.segment.now) c.loop-server.server ≡ true =
    elim c.else-not-is_answered_by.branch [
      | else-not-is_answered_by-via-then-not-is_answered_by+else-has_link_left w ↦ grind (arith, common_steps)
      | else-not-is_answered_by-via-else-not-is_answered_by w ↦ grind (arith, common_steps)
    ] in
    sym (all_yes (is_done_with c.args.links.now (Some c.args.segment.now)) c.loop-server.server c.args.servers c.loop-server-test.true holds) ∙ c.loop-server.invariant
