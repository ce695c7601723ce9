use Rattle.std.proofs.Common.{◌∙◌, None}
use Rattle.overview_lines.proofs.IdField.{found_is_read, inner_is_read}
use Rattle.overview_lines.proofs.over.id_of.Goals as goal

pub returns-in_err-inner-clause-reading : goal.returns-in_err-inner-clause-reading
returns-in_err-inner-clause-reading c = c.from_residual.ensures ∙ found_is_read c.args.field.now None (λ id is. c.in_err-inner.ensures id is.whole)

pub returns-clause-reading : goal.returns-clause-reading
returns-clause-reading c = inner_is_read c.args.field.now c.in_ok-inner.inner.now c.new.result c.in_ok-inner.ensures c.new.ensures.rule c.new.ensures.same
