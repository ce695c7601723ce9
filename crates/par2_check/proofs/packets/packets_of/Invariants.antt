use Rattle.std.proofs.Common.{◌≤◌, ◌-◌, ◌++◌, ℕ, List, length, drop, map}
use Rattle.par2_check.specs.Packets.{ArePackets, AreWithin, span_bytes}
use Rattle.par2_check.proofs.packets.packets_of.Given as goal

abbrev pub invariant-loop-span : goal.invariant-loop-span
invariant-loop-span l = record {
  high : l.at ≤ length l.text;
  within : AreWithin l.spans (length l.text);
  rest : (packets : List (List ℕ)) → ArePackets (drop l.at l.text) packets → ArePackets l.text (map (span_bytes l.text) l.spans ++ packets);
}

abbrev pub decreases-loop-span : goal.decreases-loop-span
decreases-loop-span l = length l.text - l.at
