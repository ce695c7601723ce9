use Rattle.std.proofs.Common.{sym, ◌∙◌, arith}
use Rattle.nzb_index.proofs.Children.{next_ended, next_opened}
use Rattle.nzb_index.proofs.elements.child_end.Goals as goal

pub returns-then-starts_at : goal.returns-then-starts_at
returns-then-starts_at c =
    let a = c.in_ok-here.ensures in
    let b = c.in_ok-end.ensures in
    (omega (arith, a.0, b.0), b.1, next_ended c.args.name.now c.args.text.now c.args.at c.in_ok-here.here c.in_ok-end.end a.2 (sym c.starts_at.ensures ∙ c.if-starts_at.true) b.2)

pub returns : goal.returns
returns c =
    let a = c.in_ok-here.ensures in
    let w = c.in_ok-inside.ensures in
    let n = c.in_ok-end-2.ensures in
    next_opened c.args.name.now c.args.text.now c.args.at c.in_ok-here.here c.in_ok-inside.inside c.in_ok-end-2.end a.0 a.1 a.2 (sym c.starts_at.ensures ∙ c.if-starts_at.false) w.1 w.2 n.0 n.1 n.2
