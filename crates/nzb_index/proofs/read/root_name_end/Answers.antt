use Rattle.std.proofs.Common.{sym, ◌∙◌}
use Rattle.nzb_index.proofs.IndexEnds.{at_tail}
use Rattle.nzb_index.proofs.read.root_name_end.Goals as goal

pub returns : goal.returns
returns c =
    let n = c.in_ok-name.ensures in
    (n.1, at_tail c.args.text.now _ c.in_ok-marked.marked c.in_ok-declared.declared c.in_ok-here.here c.in_ok-inside.inside c.in_ok-name.name c.in_ok-marked.ensures c.in_ok-declared.ensures c.in_ok-here.ensures c.in_ok-inside.ensures n c.as_slice.ensures (sym c.ne.ensures ∙ c.if-ne.false))
