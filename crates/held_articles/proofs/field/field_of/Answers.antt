-- The line at the place, found or passed over.
use Rattle.std.proofs.Common.{◌∙◌, Some, ap}
use Rattle.held_articles.proofs.Places.{found_line, passed_line}
use Rattle.held_articles.proofs.field.field_of.Goals as goal

pub returns-in-Some : goal.returns-in-Some
returns-in-Some c =
    ap Some c.in-Some.ensures.cases.1 ∙ found_line c.args.name.now c.args.head.now c.loop-i.i c.line.result.now c.line.ensures c.in-Some.ensures.cases.0 ∙ c.loop-i.invariant

pub loop-i-preserved : goal.loop-i-preserved
loop-i-preserved c =
    passed_line c.args.name.now c.args.head.now c.loop-i.i c.line.result.now c.line.ensures c.in_default.ensures.cases ∙ c.loop-i.invariant
