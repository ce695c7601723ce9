use Rattle.std.proofs.Common.{length, drop, arith, ◌<◌}
use Rattle.std.proofs.lemmas.Result.{err_from_is_err_and}
use Rattle.nzb_index.proofs.IndexEnds.{end_read, end_word_fails, end_more_fails}
use Rattle.nzb_index.proofs.read.text_ended.Goals as goal

pub returns-then-behind-text : goal.returns-then-behind-text
returns-then-behind-text c = end_read c.args.text.now (drop c.args.at c.args.text.now) c.in_ok-behind.behind c.in_ok-behind.ensures.2 c.if-behind-text.true

pub returns-in_err-after : goal.returns-in_err-after
returns-in_err-after c =
    let p = err_from_is_err_and c.from_residual-in_err-after.result c.from_residual-in_err-after.ensures.1 in
    let b = c.in_ok-behind.ensures in
    let apart = c.if-behind-text.false in
    let less : c.in_ok-behind.behind < length c.args.text.now = omega (arith, apart, b.1) in
    rw (p.1, p.2) (end_word_fails c.args.text.now (drop c.args.at c.args.text.now) c.in_ok-behind.behind c.in_err-after.field-0.0 b.2 less c.in_err-after.ensures)

pub returns : goal.returns
returns c =
    let b = c.in_ok-behind.ensures in
    let apart = c.if-behind-text.false in
    let less : c.in_ok-behind.behind < length c.args.text.now = omega (arith, apart, b.1) in
    let a = c.in_ok-after.ensures in
    rw c.unexpected.ensures (end_more_fails c.args.text.now (drop c.args.at c.args.text.now) c.in_ok-behind.behind c.in_ok-after.after b.2 less a.2 a.1)
