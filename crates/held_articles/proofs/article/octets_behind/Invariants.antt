use Rattle.std.proofs.Common.{◌≡◌, drop}
use Rattle.std.specs.List.{fold}
use Rattle.held_articles.specs.Octets.{with_octets}
use Rattle.held_articles.proofs.article.octets_behind.Given as goal

abbrev pub invariant-loop-i : goal.invariant-loop-i
invariant-loop-i l = fold with_octets l.octets (drop l.i l.lines) ≡ fold with_octets l.before l.lines
