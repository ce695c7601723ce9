use Rattle.nzb_writer.specs.Canonical.{group_text}
use Rattle.nzb_writer.proofs.Appending.{line_more}
use Rattle.nzb_writer.proofs.write.append_groups.Goals as goal

pub loop-group-preserved : goal.loop-group-preserved
loop-group-preserved c =
    line_more group_text c.args.groups.now c.loop-group.group-index c.group-item.result c.args.out.now c.loop-group.out c.append_group.new.out c.loop-group-test.true c.group-item.is c.loop-group.invariant (let n = c.as_slice.ensures in let a = c.in_ok-append_group.ensures.ok in cc)
