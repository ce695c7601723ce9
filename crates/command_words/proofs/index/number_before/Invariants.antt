use Rattle.std.proofs.Common.{◌≡◌, ◌≤◌, ◌-◌, drop, length, map, string_bytes}
use Rattle.command_words.specs.Index.{number_before}
use Rattle.command_words.proofs.index.number_before.Given as goal

abbrev pub invariant-loop-at : goal.invariant-loop-at
invariant-loop-at l = record {
  inside : l.at ≤ length l.words;
  same : number_before l.key l.other (drop l.at (map string_bytes l.words)) ≡ number_before l.key l.other (map string_bytes l.words);
}

abbrev pub decreases-loop-at : goal.decreases-loop-at
decreases-loop-at l = length l.words - l.at
