use Rattle.std.specs.Prelude.{codes}
use Rattle.std.proofs.lemmas.Result.{err_from_is_err_and}
use Rattle.nzb_index.specs.NzbReading.{group_item}
use Rattle.nzb_index.proofs.Children.{parent_over, parent_fails, parent_ends, parent_item_fails, parent_item_goes}
use Rattle.nzb_index.proofs.entries.groups_end.Goals as goal

pub returns-in_err-last : goal.returns-in_err-last
returns-in_err-last c =
    let p = err_from_is_err_and c.from_residual.result c.from_residual.ensures.1 in
    rw (p.1, p.2) (parent_fails group_item (codes "groups") c.args.text.now c.args.at c.children.end c.args.groups.now c.children.groups c.args.closed c.in_err-last.field-0.0 c.if-closed.false c.children.invariant c.children-test.true c.in_err-last.ensures)

pub returns-in-Ended : goal.returns-in-Ended
returns-in-Ended c = parent_ends group_item (codes "groups") c.args.text.now c.args.at c.children.end c.in-Ended.last c.args.groups.now c.children.groups c.args.closed c.in_ok-last.field-0 c.if-closed.false c.children.invariant c.children-test.true c.in-Ended.is c.in_ok-last.ensures

pub returns-in_err-end-in-Opened : goal.returns-in_err-end-in-Opened
returns-in_err-end-in-Opened c =
    let p = err_from_is_err_and c.from_residual-in_err-end-in-Opened.result c.from_residual-in_err-end-in-Opened.ensures.1 in
    rw (p.1, p.2) (parent_item_fails group_item (codes "groups") c.args.text.now c.args.at c.children.end c.in-Opened.from c.in-Opened.behind c.args.groups.now c.children.groups c.args.closed c.in_ok-last.field-0 c.in_err-end-in-Opened.field-0.0 c.if-closed.false c.children.invariant c.children-test.true c.in-Opened.is c.in_ok-last.ensures
    c.in_err-end-in-Opened.ensures)

pub children-preserved : goal.children-preserved
children-preserved c =
    let r = c.in_ok-end-in-Opened.ensures in
    (parent_item_goes group_item (codes "groups") c.args.text.now c.args.at c.children.end c.in-Opened.from c.in-Opened.behind c.in_ok-end-in-Opened.end c.args.groups.now c.children.groups c.group_end.new.groups c.in_ok-last.field-0 c.children.invariant c.children-test.true c.in-Opened.is c.in_ok-last.ensures r.0 r.1 r.2).1

pub returns : goal.returns
returns c = rw c.unexpected.ensures (parent_over group_item (codes "groups") c.args.text.now c.args.at c.children.end c.args.groups.now c.children.groups c.args.closed c.if-closed.false c.children.invariant c.children-test.false)
