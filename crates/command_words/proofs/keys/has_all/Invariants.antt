use Rattle.std.proofs.Common.{◌≡◌, drop, map, string_bytes}
use Rattle.command_words.specs.Asked.{paired}
use Rattle.command_words.specs.Keys.{has_all}
use Rattle.command_words.proofs.keys.has_all.Given as goal

abbrev pub invariant-loop-key : goal.invariant-loop-key
invariant-loop-key l = has_all (map (λ key. key.now) (drop l.key-index l.keys)) (paired (map string_bytes l.words)) ≡ has_all (map (λ key. key.now) l.keys) (paired (map string_bytes l.words))
