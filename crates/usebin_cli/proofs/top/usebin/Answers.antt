use Rattle.std.proofs.Common.{sym, ◌∙◌}
use Rattle.usebin_cli.proofs.EndLaws.{input_count, output_count, over_limit, ran, refused_2, refused_words, short_count, statuses, untouched}
use Rattle.usebin_cli.proofs.InGrammar.{in_grammar}
use Rattle.usebin_cli.proofs.top.usebin.Goals as goal

pub returns-clause-ends : goal.returns-clause-ends
returns-clause-ends g c = (c.run-ended.result.end, c.status.ensures, ran _ _ _ _ _ _ _ _ _ _ _ _ c.run-ended.result c.run-ended.ensures.runs c.say_end.ensures)

pub returns-clause-refused : goal.returns-clause-refused
returns-clause-refused g c = ((λ is. refused_2 _ _ _ _ c.run-ended.result.end c.run-ended.ensures.runs.common (sym c.status.ensures ∙ is)), (λ are. c.status.ensures ∙ refused_words _ _ _ _ _ _ _ c.run-ended.result.end c.run-ended.ensures.runs.so are))

pub returns-clause-input_count : goal.returns-clause-input_count
returns-clause-input_count g c = λ more. rw c.status.ensures (input_count _ _ _ _ c.run-ended.result.end c.run-ended.ensures.runs.common more)

pub returns-clause-output_count : goal.returns-clause-output_count
returns-clause-output_count g c = λ more. rw c.status.ensures (output_count _ _ _ _ c.run-ended.result.end c.run-ended.ensures.runs.common more)

pub returns-clause-short : goal.returns-clause-short
returns-clause-short g c = λ more. rw c.status.ensures (short_count _ _ _ _ c.run-ended.result.end c.run-ended.ensures.runs.common more)

pub returns-clause-in_grammar : goal.returns-clause-in_grammar
returns-clause-in_grammar g c = λ inside is. in_grammar _ _ _ _ _ _ _ c.run-ended.result.end c.run-ended.ensures.runs.common.read c.run-ended.ensures.runs.so inside (sym c.status.ensures ∙ is)

pub returns-clause-over_limit : goal.returns-clause-over_limit
returns-clause-over_limit g c = λ over. c.status.ensures ∙ over_limit _ _ _ _ c.run-ended.result.end c.run-ended.ensures.runs.common over

pub returns-clause-statuses : goal.returns-clause-statuses
returns-clause-statuses g c = rw c.status.ensures (statuses _ _ _ _ c.run-ended.result.end c.run-ended.ensures.runs.common)

pub returns-clause-untouched : goal.returns-clause-untouched
returns-clause-untouched g c = rw c.status.ensures (untouched _ _ _ _ c.run-ended.result.end c.run-ended.ensures.runs.common)
