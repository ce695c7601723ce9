-- Each line has its place in the block.
use Rattle.std.proofs.Common.{rules, ℕ, List, [], ◌∷◌, ◌++◌, arith, ap, ◌∙◌}
use Rattle.news_spool.proofs.OverviewLines.{line_written}
use Rattle.news_spool.proofs.Places.{got_at}
use Rattle.news_spool.proofs.overview.append_lines.Goals as goal

pub loop-i-preserved : goal.loop-i-preserved
loop-i-preserved c =
    line_written c.args.number c.loop-i.i c.args.name.now c.args.date.now c.loop-i.out c.extend.new.self c.args.articles.now c.index-articles-i.result
    (got_at c.args.articles.now c.loop-i.i c.index-articles-i.result c.loop-i-test.true c.index-articles-i.is) (search rules) (omega arith) (omega arith)
    (c.in_ok-extend.ensures.ok ∙ ap (λ (t : List ℕ). t ++ 13 ∷ 10 ∷ []) c.in_ok-append_overview.ensures)
    ∙ c.loop-i.invariant
