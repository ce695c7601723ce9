use Rattle.std.proofs.Common.{◌≡◌, ◌-◌, drop, length, map, string_bytes}
use Rattle.command_words.specs.Keys.{stands_as_key}
use Rattle.command_words.proofs.keys.has_key.Given as goal

abbrev pub invariant-loop-at : goal.invariant-loop-at
invariant-loop-at l = stands_as_key l.key (drop l.at (map string_bytes l.words)) ≡ stands_as_key l.key (map string_bytes l.words)

abbrev pub decreases-loop-at : goal.decreases-loop-at
decreases-loop-at l = length l.words - l.at
