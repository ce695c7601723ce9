use Rattle.std.proofs.Common.{sym, subst}
use Rattle.nzb_writer.specs.Canonical.{IsValidIndex}
use Rattle.poster.specs.Index.{IndexesArticles}
use Rattle.poster.proofs.IndexLaws.{index_made, index_of_articles, index_valid}
use Rattle.poster.proofs.index.post_index.Goals as goal

pub returns-clause-valid : goal.returns-clause-valid
returns-clause-valid c =
    subst IsValidIndex
    (sym (index_made c.args.settings.now c.args.plan.now c.args.sent.now c.args.moment c.new.result c.new-files.result c.push.new.self c.in_ok-entry_of.field-0 c.new.ensures c.new-files.ensures c.in_ok-push.ensures.ok c.in_ok-entry_of.ensures))
    (index_valid c.args.settings.now c.args.plan.now c.args.sent.now c.args.moment c.requires.settings c.requires.plan c.requires.sent c.requires.moment)

pub returns-clause-articles : goal.returns-clause-articles
returns-clause-articles c =
    subst (IndexesArticles c.args.settings.now c.args.plan.now.size)
    (sym (index_made c.args.settings.now c.args.plan.now c.args.sent.now c.args.moment c.new.result c.new-files.result c.push.new.self c.in_ok-entry_of.field-0 c.new.ensures c.new-files.ensures c.in_ok-push.ensures.ok c.in_ok-entry_of.ensures))
    (index_of_articles c.args.settings.now c.args.plan.now c.args.sent.now c.args.moment c.requires.plan c.requires.sent)
