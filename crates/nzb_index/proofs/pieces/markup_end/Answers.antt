use Rattle.std.proofs.Common.{sym, ◌∙◌}
use Rattle.std.proofs.lemmas.Result.{err_from_is_err_and}
use Rattle.nzb_index.proofs.PieceSteps.{end_tag_ends, comment_goes, comment_word_fails, comment_inside_fails, name_fails, wrong_tag}
use Rattle.nzb_index.proofs.pieces.markup_end.Goals as goal

pub returns-then-starts_at : goal.returns-then-starts_at
returns-then-starts_at c = end_tag_ends c.args.text.now c.args.at c.requires.within c.requires.opens (sym c.starts_at.ensures ∙ c.if-starts_at.true)

pub returns-in_err-inside : goal.returns-in_err-inside
returns-in_err-inside c =
    let p = err_from_is_err_and c.from_residual.result c.from_residual.ensures.1 in
    rw (p.1, p.2) (comment_word_fails c.args.text.now c.args.at c.in_err-inside.field-0.0 c.requires.within c.requires.opens (sym c.starts_at.ensures ∙ c.if-starts_at.false) (sym c.starts_at-2.ensures ∙ c.if-starts_at-2.true) c.in_err-inside.ensures)

pub returns-in_err-end : goal.returns-in_err-end
returns-in_err-end c =
    let p = err_from_is_err_and c.from_residual-in_err-end.result c.from_residual-in_err-end.ensures.1 in
    rw (p.1, p.2) (comment_inside_fails c.args.text.now c.args.at c.in_ok-inside.inside c.in_err-end.field-0.0 c.requires.within c.requires.opens (sym c.starts_at.ensures ∙ c.if-starts_at.false) (sym c.starts_at-2.ensures ∙ c.if-starts_at-2.true)
    c.in_ok-inside.ensures.2 c.in_err-end.ensures)

pub returns-then-starts_at-2 : goal.returns-then-starts_at-2
returns-then-starts_at-2 c =
    let a = c.in_ok-inside.ensures in
    let b = c.in_ok-end.ensures in
    comment_goes c.args.text.now c.args.at c.in_ok-inside.inside c.in_ok-end.end c.requires.within c.requires.opens (sym c.starts_at.ensures ∙ c.if-starts_at.false) (sym c.starts_at-2.ensures ∙ c.if-starts_at-2.true) a.0 b.0 b.1 a.2 b.2

pub returns-in_err-_end : goal.returns-in_err-_end
returns-in_err-_end c =
    let p = err_from_is_err_and c.from_residual-in_err-_end.result c.from_residual-in_err-_end.ensures.1 in
    rw (p.1, p.2) (name_fails c.args.text.now c.args.at c.in_err-_end.field-0.0 c.requires.within c.requires.opens (sym c.starts_at.ensures ∙ c.if-starts_at.false) (sym c.starts_at-2.ensures ∙ c.if-starts_at-2.false) c.in_err-_end.ensures)

pub returns : goal.returns
returns c = wrong_tag c.args.text.now c.args.at _ c.requires.within c.requires.opens (sym c.starts_at.ensures ∙ c.if-starts_at.false) (sym c.starts_at-2.ensures ∙ c.if-starts_at-2.false) c.in_ok-_end.ensures.2
