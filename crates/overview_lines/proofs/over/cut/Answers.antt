use Rattle.std.proofs.Common.{sym, ◌+◌}
use Rattle.overview_lines.proofs.OverFields.{cut_at_tab, rest_is}
use Rattle.overview_lines.proofs.over.cut.Goals as goal

pub returns-in-Some : goal.returns-in-Some
returns-in-Some c = rw (rest_is (c.in-Some.end + 1) c.args.text.now) (cut_at_tab c.args.text.now c.in-Some.end (sym c.in-Some.ensures.place))
