use Rattle.std.proofs.Common.{◌<◌, sym, ◌∙◌, arith}
use Rattle.std.proofs.lemmas.Result.{err_from_is_err_and}
use Rattle.nzb_index.proofs.Betweens.{StillBetween, between_start, between_over, between_declares, between_next, comment_fails, inside_fails}
use Rattle.nzb_index.proofs.scan.pieces_end.Goals as goal

pub pieces-init : goal.pieces-init
pieces-init c = between_start c.args.text.now c.args.at c.white_end-end.result c.white_end-end.ensures.behind c.white_end-end.ensures.within c.white_end-end.ensures.white

further : (c : goal.After-white_end-end-in-pieces) → (c.pieces.end < c.white_end-end-in-pieces.result) × StillBetween c.args.text.now c.args.at c.white_end-end-in-pieces.result
further c =
    let inside = c.in_ok-inside.ensures in
    let behind = c.in_ok-behind.ensures in
    let white = c.white_end-end-in-pieces.ensures in
    between_next c.args.text.now c.args.at c.pieces.end c.in_ok-inside.inside c.in_ok-behind.behind c.white_end-end-in-pieces.result c.pieces.invariant (sym c.starts_at.ensures ∙ c.pieces-test.true) inside.0 behind.0 behind.1 inside.2 behind.2 white.behind white.within white.white

pub pieces-smaller : goal.pieces-smaller
pieces-smaller c = let f = further c in let within = c.white_end-end-in-pieces.ensures.within in omega (arith, f.0, within)

pub pieces-preserved : goal.pieces-preserved
pieces-preserved c = (further c).1

pub returns-in_err-inside : goal.returns-in_err-inside
returns-in_err-inside c =
    let p = err_from_is_err_and c.from_residual.result c.from_residual.ensures.1 in
    rw (p.1, p.2) (comment_fails c.args.text.now c.args.at c.pieces.end c.in_err-inside.field-0.0 c.pieces.invariant (sym c.starts_at.ensures ∙ c.pieces-test.true) c.in_err-inside.ensures)

pub returns-in_err-behind : goal.returns-in_err-behind
returns-in_err-behind c =
    let p = err_from_is_err_and c.from_residual-in_err-behind.result c.from_residual-in_err-behind.ensures.1 in
    rw (p.1, p.2) (inside_fails c.args.text.now c.args.at c.pieces.end c.in_ok-inside.inside c.in_err-behind.field-0.0 c.pieces.invariant (sym c.starts_at.ensures ∙ c.pieces-test.true) c.in_ok-inside.ensures.2 c.in_err-behind.ensures)

pub returns-then-starts_at : goal.returns-then-starts_at
returns-then-starts_at c = (between_declares c.args.text.now c.args.at c.pieces.end c.pieces.invariant (sym c.starts_at.ensures ∙ c.pieces-test.false) (sym c.starts_at-2.ensures ∙ c.if-starts_at.true)).1

pub returns : goal.returns
returns c = between_over c.args.text.now c.args.at c.pieces.end c.pieces.invariant (sym c.starts_at-2.ensures ∙ c.if-starts_at.false)
