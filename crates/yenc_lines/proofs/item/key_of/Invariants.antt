use Rattle.std.proofs.Common.{◌≡◌, drop, find, bytes_eq}
use Rattle.yenc_lines.specs.Keywords.{key_name}
use Rattle.yenc_lines.proofs.item.key_of.Given as goal

abbrev pub invariant-loop-key : goal.invariant-loop-key
invariant-loop-key l = find (λ k. bytes_eq (key_name k) l.name) (drop l.key-index l.known) ≡ find (λ k. bytes_eq (key_name k) l.name) l.known
