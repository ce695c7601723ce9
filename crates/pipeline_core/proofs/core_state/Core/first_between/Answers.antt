use Rattle.std.proofs.Common.{◌∙◌, sym}
use Rattle.pipeline_core.specs.Pipeline.{can_be_asked}
use Rattle.pipeline_core.proofs.Searching.{first_no, first_yes}
use Rattle.pipeline_core.proofs.core_state.Core.first_between.Goals as goal

pub returns-then-can_be_asked : goal.returns-then-can_be_asked
returns-then-can_be_asked c =
    sym (first_yes (can_be_asked c.args.self.now c.args.server) c.loop-segment.segment c.args.end c.loop-segment-test.true (sym c.can_be_asked.ensures ∙ c.if-can_be_asked.true)) ∙ c.loop-segment.invariant

pub loop-segment-preserved : goal.loop-segment-preserved
loop-segment-preserved c =
    sym (first_no (can_be_asked c.args.self.now c.args.server) c.loop-segment.segment c.args.end c.loop-segment-test.true (sym c.can_be_asked.ensures ∙ c.if-can_be_asked.false)) ∙ c.loop-segment.invariant
