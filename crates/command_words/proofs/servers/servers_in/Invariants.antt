use Rattle.std.proofs.Common.{◌≡◌, ◌≤◌, ◌+◌, ◌-◌, ◌++◌, drop, length, map, string_bytes}
use Rattle.command_words.specs.Asked.{paired}
use Rattle.command_words.specs.Keys.{values_of}
use Rattle.command_words.specs.Servers.{servers_of}
use Rattle.command_words.proofs.servers.servers_in.Given as goal

abbrev pub invariant-loop-at : goal.invariant-loop-at
invariant-loop-at l = record {
  inside : l.at ≤ length l.words;
  room : length l.servers + length (values_of l.key (paired (drop l.at (map string_bytes l.words)))) ≤ 16;
  same : l.servers ++ servers_of (values_of l.key (paired (drop l.at (map string_bytes l.words)))) ≡ servers_of (values_of l.key (paired (map string_bytes l.words)));
}

abbrev pub decreases-loop-at : goal.decreases-loop-at
decreases-loop-at l = length l.words - l.at
