-- Of no article none is the same.
use Rattle.std.proofs.Common.{rules}
use Rattle.held_articles.proofs.Presence.{none_once}
use Rattle.held_articles.proofs.held.HeldArticles.new.Goals as goal

pub invariant_of-result : goal.invariant_of-result
invariant_of-result c = record {
  ids = search rules;
  once = rw c.new.ensures none_once;
}
