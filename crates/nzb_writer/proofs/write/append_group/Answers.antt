use Rattle.std.proofs.Common.{append_assoc}
use Rattle.nzb_writer.proofs.write.append_group.Goals as goal

pub returns-clause-ok : goal.returns-clause-ok
returns-clause-ok c =
    let e0 = c.in_ok-extend.ensures.ok in
    let e1 = c.in_ok-append_escaped.ensures.ok in
    let e2 = c.in_ok-extend-2.ensures.ok in
    rw (e2, e1, e0) (simp append_assoc)
