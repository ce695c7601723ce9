use Rattle.std.proofs.Common.{append_assoc}
use Rattle.nzb_writer.proofs.write.append_file.Goals as goal

pub returns-clause-ok : goal.returns-clause-ok
returns-clause-ok c =
    let e0 = c.in_ok-append_file_tag.ensures.ok in
    let e1 = c.in_ok-extend.ensures.ok in
    let e2 = c.in_ok-append_groups.ensures.ok in
    let e3 = c.in_ok-extend-2.ensures.ok in
    let e4 = c.in_ok-append_segments.ensures.ok in
    let e5 = c.in_ok-extend-3.ensures.ok in
    let n0 = c.as_slice.ensures in
    let n1 = c.as_slice-2.ensures in
    rw (e5, e4, e3, e2, e1, e0, n0, n1) (simp append_assoc)
