use Rattle.std.proofs.Common.{ℕ, List, subst}
use Rattle.std.specs.Prelude.{IfOk, fold, ◌≡◌}
use Rattle.held_articles.specs.Octets.{with_octets}
use Rattle.held_articles.proofs.OctetCounts.{three_parts}
use Rattle.held_articles.proofs.article.Article.octets.Goals as goal

pub returns : goal.returns
returns c =
    three_parts c.args.self.now c.in_ok-head.head c.in_ok-empty.empty c.octets_behind-2.result c.in_ok-head.ensures c.in_ok-empty.ensures
    (subst (λ (lines : List (List ℕ)). IfOk c.octets_behind-2.result (λ octets. octets ≡ fold with_octets c.in_ok-empty.empty lines)) c.as_lines.ensures.lines
    c.octets_behind-2.ensures)
