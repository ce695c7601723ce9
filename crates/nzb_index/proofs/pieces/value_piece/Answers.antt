use Rattle.std.proofs.Common.{sym, ◌∙◌, inl, inr}
use Rattle.std.proofs.lemmas.Result.{err_from_is_err_and}
use Rattle.nzb_index.proofs.PieceSteps.{Open, value_ends, value_wrong, value_reference, value_reference_fails, value_return, value_white, value_run_goes}
use Rattle.nzb_index.proofs.pieces.value_piece.Goals as goal
use Rattle.nzb_index.proofs.pieces.value_piece.Goals.{then-byte-eq60-via-then-byte-eq60, then-byte-eq60-via-else-byte-eq60+then-is_control, else-byte-eq13-via-then-byte-eq13+else-starts_at, else-byte-eq13-via-else-byte-eq13}

pub returns-then-byte-quote : goal.returns-then-byte-quote
returns-then-byte-quote c = value_ends c.args.quote c.args.text.now c.args.out.now c.args.at c.requires c.if-byte-quote.true

pub returns-then-byte-eq60 : goal.returns-then-byte-eq60
returns-then-byte-eq60 c = rw c.unexpected.ensures (value_wrong c.args.quote c.args.text.now c.args.at c.requires c.if-byte-quote.false (elim c.then-byte-eq60.branch [
  | then-byte-eq60-via-then-byte-eq60 w ↦ inl w.if-byte-eq60.true
  | then-byte-eq60-via-else-byte-eq60+then-is_control w ↦ inr (sym w.is_control.ensures ∙ w.if-is_control.true)
]))

pub returns-in_err-end : goal.returns-in_err-end
returns-in_err-end c =
    let p = err_from_is_err_and c.from_residual.result c.from_residual.ensures.1 in
    let open_here : Open c.args.quote c.args.text.now c.args.at = record { within = c.requires; no_quote = c.if-byte-quote.false; no_tag = c.if-byte-eq60.false; no_control = sym c.is_control.ensures ∙ c.if-is_control.false } in
    rw (p.1, p.2) (value_reference_fails c.args.quote c.args.text.now c.args.at c.in_err-end.field-0.0 open_here c.if-byte-eq38.true c.in_err-end.ensures)

pub returns-then-byte-eq38 : goal.returns-then-byte-eq38
returns-then-byte-eq38 c =
    let r = c.in_ok-end.ensures in
    let open_here : Open c.args.quote c.args.text.now c.args.at = record { within = c.requires; no_quote = c.if-byte-quote.false; no_tag = c.if-byte-eq60.false; no_control = sym c.is_control.ensures ∙ c.if-is_control.false } in
    value_reference c.args.quote c.args.text.now c.args.out.now c.push_reference.new.out r.2.0 c.args.at c.in_ok-end.end open_here c.if-byte-eq38.true r.0 r.1 r.2.1 r.2.2

pub returns-then-starts_at : goal.returns-then-starts_at
returns-then-starts_at c =
    let open_here : Open c.args.quote c.args.text.now c.args.at = record { within = c.requires; no_quote = c.if-byte-quote.false; no_tag = c.if-byte-eq60.false; no_control = sym c.is_control.ensures ∙ c.if-is_control.false } in
    value_return c.args.quote c.args.text.now c.args.out.now c.args.at open_here c.if-byte-eq13.true (sym c.starts_at.ensures ∙ c.if-starts_at.true)

pub returns-then-is_white : goal.returns-then-is_white
returns-then-is_white c =
    let open_here : Open c.args.quote c.args.text.now c.args.at = record { within = c.requires; no_quote = c.if-byte-quote.false; no_tag = c.if-byte-eq60.false; no_control = sym c.is_control.ensures ∙ c.if-is_control.false } in
    value_white c.args.quote c.args.text.now c.args.out.now c.push.new.out c.args.at open_here c.if-byte-eq38.false (elim c.else-byte-eq13.branch [
      | else-byte-eq13-via-then-byte-eq13+else-starts_at w ↦ inr (sym w.starts_at.ensures ∙ w.if-starts_at.false)
      | else-byte-eq13-via-else-byte-eq13 w ↦ inl w.if-byte-eq13.false
    ]) (sym c.is_white.ensures ∙ c.if-is_white.true) c.in_ok-push.ensures.ok

pub returns : goal.returns
returns c =
    let open_here : Open c.args.quote c.args.text.now c.args.at = record { within = c.requires; no_quote = c.if-byte-quote.false; no_tag = c.if-byte-eq60.false; no_control = sym c.is_control.ensures ∙ c.if-is_control.false } in
    value_run_goes c.args.quote c.args.text.now c.args.out.now c.push-2.new.out c.args.at c.value_run-end.result open_here c.if-byte-eq38.false (sym c.is_white.ensures ∙ c.if-is_white.false) c.value_run-end.ensures.run c.value_run-end.ensures.within c.in_ok-push-2.ensures.ok
