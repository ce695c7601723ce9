use Rattle.std.proofs.Common.{◌≤◌, ◌-◌, ℕ, List, length, drop}
use Rattle.par2_check.specs.Packets.{ArePackets}
use Rattle.par2_check.proofs.packets.next_packet.Given as goal

abbrev pub invariant-loop-behind : goal.invariant-loop-behind
invariant-loop-behind l = record {
  low : l.from ≤ l.at;
  high : l.at ≤ length l.text;
  rest : (packets : List (List ℕ)) → ArePackets (drop l.at l.text) packets → ArePackets (drop l.from l.text) packets;
}

abbrev pub decreases-loop-behind : goal.decreases-loop-behind
decreases-loop-behind l = length l.text - l.at
