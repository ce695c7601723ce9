use Rattle.std.specs.Prelude.{codes}
use Rattle.std.proofs.lemmas.Result.{err_from_is_err_and}
use Rattle.nzb_index.specs.NzbReading.{entry_item}
use Rattle.nzb_index.proofs.Children.{parent_over, parent_fails, parent_ends, parent_item_fails, parent_item_goes}
use Rattle.nzb_index.proofs.entries.entries_end.Goals as goal

pub returns-in_err-last : goal.returns-in_err-last
returns-in_err-last c =
    let p = err_from_is_err_and c.from_residual.result c.from_residual.ensures.1 in
    rw (p.1, p.2) (parent_fails entry_item (codes "nzb") c.args.text.now c.args.at c.children.end c.args.index.now c.children.index c.args.closed c.in_err-last.field-0.0 c.if-closed.false c.children.invariant.still c.children-test.true c.in_err-last.ensures)

pub returns-in-Ended : goal.returns-in-Ended
returns-in-Ended c = parent_ends entry_item (codes "nzb") c.args.text.now c.args.at c.children.end c.in-Ended.last c.args.index.now c.children.index c.args.closed c.in_ok-last.field-0 c.if-closed.false c.children.invariant.still c.children-test.true c.in-Ended.is c.in_ok-last.ensures

pub returns-in_err-next-in-Opened : goal.returns-in_err-next-in-Opened
returns-in_err-next-in-Opened c =
    let p = err_from_is_err_and c.from_residual-in_err-next-in-Opened.result c.from_residual-in_err-next-in-Opened.ensures.1 in
    rw (p.1, p.2) (parent_item_fails entry_item (codes "nzb") c.args.text.now c.args.at c.children.end c.in-Opened.from c.in-Opened.behind c.args.index.now c.children.index c.args.closed c.in_ok-last.field-0 c.in_err-next-in-Opened.field-0.0 c.if-closed.false c.children.invariant.still c.children-test.true c.in-Opened.is c.in_ok-last.ensures
    c.in_err-next-in-Opened.ensures)

pub children-preserved : goal.children-preserved
children-preserved c =
    let r = c.in_ok-next-in-Opened.ensures in
    record {
      still = (parent_item_goes entry_item (codes "nzb") c.args.text.now c.args.at c.children.end c.in-Opened.from c.in-Opened.behind c.in_ok-next-in-Opened.next c.args.index.now c.children.index c.entry_end.new.index c.in_ok-last.field-0 c.children.invariant.still c.children-test.true c.in-Opened.is c.in_ok-last.ensures r.0 r.1 r.4).1;
      count = r.2;
      few = r.3;
    }

pub returns : goal.returns
returns c = rw c.unexpected.ensures (parent_over entry_item (codes "nzb") c.args.text.now c.args.at c.children.end c.args.index.now c.children.index c.args.closed c.if-closed.false c.children.invariant.still c.children-test.false)
