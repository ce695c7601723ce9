use Rattle.std.proofs.Common.{append_assoc}
use Rattle.nzb_writer.specs.Canonical.{nzb_text}
use Rattle.nzb_writer.proofs.write.append_nzb.Goals as goal

pub returns-clause-ok : goal.returns-clause-ok
unfolding nzb_text
returns-clause-ok c =
    let e0 = c.in_ok-extend.ensures.ok in
    let e1 = c.in_ok-append_head.ensures.ok in
    let e2 = c.in_ok-append_files.ensures.ok in
    let e3 = c.in_ok-extend-2.ensures.ok in
    let n0 = c.as_slice.ensures in
    let n1 = c.as_slice-2.ensures in
    rw (e3, e2, e1, e0, n0, n1) (simp append_assoc)
