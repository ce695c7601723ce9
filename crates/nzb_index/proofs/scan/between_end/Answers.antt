use Rattle.std.proofs.lemmas.Result.{err_from_is_err_and}
use Rattle.nzb_index.proofs.Betweens.{between_fails, between_ends, between_wrong}
use Rattle.nzb_index.proofs.scan.between_end.Goals as goal

pub returns-in_err-end : goal.returns-in_err-end
returns-in_err-end c =
    let p = err_from_is_err_and c.from_residual.result c.from_residual.ensures.1 in
    rw (p.1, p.2) (between_fails c.args.text.now c.args.at c.in_err-end.field-0.0 c.in_err-end.ensures)

pub unexpected-requires : goal.unexpected-requires
unexpected-requires c = (between_wrong c.args.text.now c.args.at c.in-Declaration.end c.in_ok-end.field-0 c.in-Declaration.is c.in_ok-end.ensures).0

pub returns-in-Other : goal.returns-in-Other
returns-in-Other c = between_ends c.args.text.now c.args.at c.in-Other.end c.in_ok-end.field-0 c.in-Other.is c.in_ok-end.ensures

pub returns-in-Declaration : goal.returns-in-Declaration
returns-in-Declaration c = rw c.unexpected.ensures (between_wrong c.args.text.now c.args.at c.in-Declaration.end c.in_ok-end.field-0 c.in-Declaration.is c.in_ok-end.ensures).1
