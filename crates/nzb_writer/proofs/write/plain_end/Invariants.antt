use Rattle.std.proofs.Common.{length, ◌-◌, ◌+◌, ◌≡◌, ◌≤◌, drop}
use Rattle.std.specs.List.{prefix_len}
use Rattle.nzb_writer.specs.Canonical.{is_plain}
use Rattle.nzb_writer.proofs.write.plain_end.Given as goal

abbrev pub invariant-loop-end : goal.invariant-loop-end
invariant-loop-end l = (l.at ≤ l.end) × (l.end ≤ length l.text) × (prefix_len is_plain (drop l.at l.text) ≡ l.end - l.at + prefix_len is_plain (drop l.end l.text))

abbrev pub decreases-loop-end : goal.decreases-loop-end
decreases-loop-end l = length l.text - l.end
