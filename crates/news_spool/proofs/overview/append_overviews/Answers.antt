-- The articles that are shown, from the first one on.
use Rattle.std.proofs.Common.{ℕ, List, ◌++◌, ap, ◌∙◌}
use Rattle.news_spool.proofs.LinkLaws.{OnOk-follows}
use Rattle.news_spool.proofs.ShownArticles.{block_of, none_shown, some_shown}
use Rattle.news_spool.proofs.overview.append_overviews.Goals as goal

pub returns-in-None : goal.returns-in-None
returns-in-None c =
    OnOk-follows c.say.result _ _ (λ said. said ∙ ap (λ (t : List ℕ). c.args.out.now ++ t)
    (none_shown c.args.name.now c.args.date.now c.args.range c.args.articles.now c.places-start.result.0 c.places-start.result.1
    c.places-start.ensures.start c.places-start.ensures.end c.in-None.ensures)) c.say.ensures

pub returns-in_ok-append_lines-in-Some : goal.returns-in_ok-append_lines-in-Some
returns-in_ok-append_lines-in-Some c =
    let shown = some_shown c.args.name.now c.args.date.now c.args.range c.args.articles.now c.places-start.result.0 c.places-start.result.1 c.in-Some.at
    c.places-start.ensures.start c.places-start.ensures.end c.in-Some.ensures in
    OnOk-follows c.extend.result _ _ (λ ended. ended ∙ c.in_ok-append_lines-in-Some.ensures
    ∙ block_of c.args.out.now c.say-in-Some.new.self _ _ c.in_ok-say-in-Some.ensures shown.1) c.extend.ensures.ok
