use Rattle.std.proofs.Common.{◌≡◌, ◌≤◌, ◌==◌, take}
use Rattle.std.specs.List.{count_by}
use Rattle.article_head.proofs.field.commas_in.Given as goal

abbrev pub invariant-loop-byte : goal.invariant-loop-byte
invariant-loop-byte l = (l.commas ≡ count_by (λ byte. byte == 44) (take l.byte-index l.text)) × (l.commas ≤ l.byte-index)
