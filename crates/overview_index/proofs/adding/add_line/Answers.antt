-- A line that is refused, one that is read and added, and one that would pass a limit.
use Rattle.std.proofs.Common.{List, ◌∙◌, ap, sym, subst, arith}
use Rattle.std.specs.Prelude.{min}
use Rattle.overview_lines.specs.OverLine.{Over, over_in}
use Rattle.overview_index.specs.Grouper.{HasGrouped}
use Rattle.overview_index.specs.Session.{overs_in}
use Rattle.overview_index.proofs.AddedLines.{overs_refused, skipped_refused, overs_more, skipped_counted, skipped_uncounted, fills_here}
use Rattle.overview_index.proofs.adding.add_line.Goals as goal

pub returns-in-Err : goal.returns-in-Err
returns-in-Err c group before t = record {
  grouper = subst (λ (l : List Over). HasGrouped c.args.desk.now.grouper group l) (sym (overs_refused before c.args.line.now c.in-Err.field-0 c.in-Err.ensures.reading)) t.grouper;
  skipped = omega (arith, t.skipped, c.saturating_add-desk.ensures, skipped_refused before c.args.line.now c.in-Err.field-0 c.in-Err.ensures.reading);
}

pub returns-in-Ok-New : goal.returns-in-Ok-New
returns-in-Ok-New c group before t =
    let added = rw c.in-Ok-New.field-0-is at (c.in-Ok-New.ensures group (overs_in before) t.grouper) in
    record {
      grouper = subst (λ (l : List Over). HasGrouped c.add.new.self group l) (sym (overs_more before c.args.line.now (over_in c.in-Ok.over) c.in-Ok.ensures.reading)) added.2;
      skipped = t.skipped ∙ ap (λ n. min 18446744073709551615 n) (sym (skipped_counted before c.args.line.now (over_in c.in-Ok.over) added.0.0 c.in-Ok.ensures.reading added.0.1));
    }

pub returns-in-Ok-Repeat : goal.returns-in-Ok-Repeat
returns-in-Ok-Repeat c group before t =
    let added = rw c.in-Ok-Repeat.field-0-is at (c.in-Ok-Repeat.ensures group (overs_in before) t.grouper) in
    record {
      grouper = subst (λ (l : List Over). HasGrouped c.add.new.self group l) (sym (overs_more before c.args.line.now (over_in c.in-Ok.over) c.in-Ok.ensures.reading)) added.1;
      skipped = t.skipped ∙ ap (λ n. min 18446744073709551615 n) (sym (skipped_counted before c.args.line.now (over_in c.in-Ok.over) added.0.0 c.in-Ok.ensures.reading added.0.1));
    }

pub returns-in-Ok-NoCount : goal.returns-in-Ok-NoCount
returns-in-Ok-NoCount c group before t =
    let added = rw c.in-Ok-NoCount.field-0-is at (c.in-Ok-NoCount.ensures group (overs_in before) t.grouper) in
    record {
      grouper = subst (λ (l : List Over). HasGrouped c.add.new.self group l) (sym (overs_more before c.args.line.now (over_in c.in-Ok.over) c.in-Ok.ensures.reading)) added.1;
      skipped = omega (arith, t.skipped, c.saturating_add-desk-in-Ok-NoCount.ensures, skipped_uncounted before c.args.line.now (over_in c.in-Ok.over) c.in-Ok.ensures.reading added.0);
    }

pub returns-in-Err-add : goal.returns-in-Err-add
returns-in-Err-add c group before t some =
    fills_here c.args.desk.now.grouper c.add.new.self group before c.args.line.now (over_in c.in-Ok.over) c.in-Err-add.why c.in-Ok.ensures.reading t.grouper some (c.in-Err-add.ensures group (overs_in before) t.grouper)
