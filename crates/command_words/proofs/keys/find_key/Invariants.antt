use Rattle.std.proofs.Common.{◌≡◌, drop, map}
use Rattle.command_words.specs.Asked.{key_model}
use Rattle.command_words.specs.Keys.{key_of}
use Rattle.command_words.proofs.keys.find_key.Given as goal

abbrev pub invariant-loop-key : goal.invariant-loop-key
invariant-loop-key l = key_of (map key_model (drop l.key-index l.keys)) l.word ≡ key_of (map key_model l.keys) l.word
