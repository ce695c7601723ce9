use Rattle.nzb_writer.specs.Canonical.{segment_text}
use Rattle.nzb_writer.proofs.Appending.{line_more}
use Rattle.nzb_writer.proofs.write.append_segments.Goals as goal

pub loop-segment-preserved : goal.loop-segment-preserved
loop-segment-preserved c =
    line_more segment_text c.args.segments.now c.loop-segment.segment-index c.segment-item.result c.args.out.now c.loop-segment.out c.append_segment.new.out c.loop-segment-test.true c.segment-item.is c.loop-segment.invariant c.in_ok-append_segment.ensures.ok
