use Rattle.std.proofs.Common.{◌≡◌, ◌++◌, take}
use Rattle.std.specs.List.{flat_map}
use Rattle.nzb_writer.specs.Canonical.{segment_text}
use Rattle.nzb_writer.proofs.write.append_segments.Given as goal

abbrev pub invariant-loop-segment : goal.invariant-loop-segment
invariant-loop-segment l = l.out ≡ l.initial.out ++ flat_map segment_text (take l.segment-index l.segments)
