use Rattle.std.proofs.Common.{sym, ◌∙◌}
use Rattle.std.proofs.lemmas.Result.{err_from_is_err_and}
use Rattle.nzb_index.proofs.PieceSteps.{text_reference, text_reference_fails, text_control, text_run_goes}
use Rattle.nzb_index.proofs.pieces.text_piece.Goals as goal

pub returns-in_err-end : goal.returns-in_err-end
returns-in_err-end c =
    let p = err_from_is_err_and c.from_residual.result c.from_residual.ensures.1 in
    rw (p.1, p.2) (text_reference_fails c.args.text.now c.args.at c.in_err-end.field-0.0 c.requires c.if-byte-eq38.true c.in_err-end.ensures)

pub returns-then-byte-eq38 : goal.returns-then-byte-eq38
returns-then-byte-eq38 c =
    let r = c.in_ok-end.ensures in
    text_reference c.args.text.now c.args.out.now c.push_reference.new.out r.2.0 c.args.at c.in_ok-end.end c.requires c.if-byte-eq38.true r.0 r.1 r.2.1 r.2.2

pub returns-then-is_control : goal.returns-then-is_control
returns-then-is_control c = rw c.unexpected.ensures (text_control c.args.text.now c.args.at c.requires c.if-byte-eq38.false c.if-byte-eq60.false (sym c.is_control.ensures ∙ c.if-is_control.true))

pub returns : goal.returns
returns c =
    text_run_goes c.args.text.now c.args.out.now c.push.new.out c.args.at c.text_run-end.result c.requires c.if-byte-eq38.false c.if-byte-eq60.false (sym c.is_control.ensures ∙ c.if-is_control.false) c.text_run-end.ensures.run c.text_run-end.ensures.within c.in_ok-push.ensures.ok
