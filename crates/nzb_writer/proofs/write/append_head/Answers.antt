use Rattle.nzb_writer.specs.Canonical.{meta_text}
use Rattle.nzb_writer.proofs.Appending.{line_more}
use Rattle.nzb_writer.proofs.write.append_head.Goals as goal

pub loop-meta-preserved : goal.loop-meta-preserved
loop-meta-preserved c =
    line_more meta_text c.args.metas.now c.loop-meta.meta-index c.meta-item.result c.extend.new.self c.loop-meta.out c.append_meta.new.out c.loop-meta-test.true c.meta-item.is c.loop-meta.invariant c.in_ok-append_meta.ensures.ok
