use Rattle.std.proofs.Common.{◌-◌, length, map, string_bytes}
use Rattle.command_words.specs.Asked.{key_model}
use Rattle.command_words.proofs.KeysLemmas.{SoFar}
use Rattle.command_words.proofs.keys.check_pairs.Given as goal

abbrev pub invariant-loop-at : goal.invariant-loop-at
invariant-loop-at l = SoFar (map key_model l.keys) (map string_bytes l.words) l.at

abbrev pub decreases-loop-at : goal.decreases-loop-at
decreases-loop-at l = length l.words - l.at
