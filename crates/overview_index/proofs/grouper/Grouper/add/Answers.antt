use Rattle.std.proofs.Common.{◌∙◌, ap, rules, sym}
use Rattle.overview_lines.specs.OverLine.{over_in}
use Rattle.overview_index.specs.Group.{Counted}
use Rattle.overview_index.specs.Grouper.{count_behind}
use Rattle.overview_index.proofs.Answered.{answered_err, answered_ok, counted_as, nothing_added, uncounted}
use Rattle.overview_index.proofs.grouper.Grouper.add.Goals as goal

pub returns-in_default : goal.returns-in_default
returns-in_default c = λ group lines stands.
    let over = over_in c.args.line.now in
    let none = uncounted over (sym c.count_of.ensures.reading ∙ c.in_default.is) in (none, nothing_added c.args.self.now group lines over none stands)

pub returns-in_err-added : goal.returns-in_err-added
returns-in_err-added c = λ group lines stands.
    let article : Counted = record { over = over_in c.args.line.now; count = c.in-Some.count } in
    answered_err c.args.self.now c.put.new.self group lines article.over article c.spell_key.new.out (counted_as article.over article.count (sym c.count_of.ensures.reading ∙ c.in-Some.is))
    (record { over = c.requires; some = c.in-Some.ensures.some; short = c.in-Some.ensures.few }) (search rules) stands c.put.ensures.group c.put.result c.from_residual-in_err-added.result (search rules)
    c.from_residual-in_err-added.ensures.0 c.put.ensures.files c.put.ensures.count

pub returns : goal.returns
returns c = λ group lines stands.
    let article : Counted = record { over = over_in c.args.line.now; count = c.in-Some.count } in
    answered_ok c.args.self.now (record c.put.new.self { count = c.count_behind-self.result }) group lines article.over article c.spell_key.new.out (counted_as article.over article.count (sym c.count_of.ensures.reading ∙ c.in-Some.is))
    (record { over = c.requires; some = c.in-Some.ensures.some; short = c.in-Some.ensures.few }) (search rules) stands c.put.ensures.group c.put.result c.in_ok-added.added (search rules)
    c.put.ensures.files (c.count_behind-self.ensures ∙ ap (λ n. count_behind n c.in_ok-added.added) c.put.ensures.count)
