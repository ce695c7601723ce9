use Rattle.std.proofs.Common.{◌≡◌, drop}
use Rattle.held_articles.specs.Fields.{field_of}
use Rattle.held_articles.proofs.field.field_of.Given as goal

abbrev pub invariant-loop-i : goal.invariant-loop-i
invariant-loop-i l = field_of l.name (drop l.i l.head) ≡ field_of l.name l.head
