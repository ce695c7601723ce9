-- An article behind a POST that was permitted: cut off, or whole with its answer or without.
use Rattle.std.proofs.Common.{[], ◌∷◌, ◌++◌, append-nil, arith, lit≤, refl, sym}
use Rattle.link_dialog.specs.declared.awaited.Awaited.TheVariants.{Article as TheArticle}
use Rattle.link_dialog.specs.Talk.{line_reply, patience_of}
use Rattle.nntp_lines.specs.declared.why.Why.TheVariants as why
use Rattle.poster.specs.Said.{article_message}
use Rattle.poster.specs.declared.index.PartEnd.TheVariants.{Unsure}
use Rattle.poster.proofs.PostingSteps.{article_cut, article_held, article_ends}
use Rattle.poster.proofs.posting.send_article.Goals as goal

pub returns-then-cut-eq0-clause-sent : goal.returns-then-cut-eq0-clause-sent
returns-then-cut-eq0-clause-sent g c start messages replies rests =
    article_held start (g.L.Links.trace c.say.new.links) (patience_of c.args.dialog) messages c.args.block.now replies c.in-Err.cut.sent c.if-cut-eq0.true (c.in-Err.ensures.said start messages replies TheArticle rests).1

pub returns-in-Err-clause-sent : goal.returns-in-Err-clause-sent
returns-in-Err-clause-sent g c start messages replies rests =
    let said = c.in-Err.ensures.said start messages replies TheArticle rests in
    article_cut start (g.L.Links.trace c.say.new.links) (patience_of c.args.dialog) messages c.args.block.now replies c.in-Err.cut.sent (omega (arith, c.if-cut-eq0.false)) said.0 said.1

pub returns-in-Code-clause-sent : goal.returns-in-Code-clause-sent
returns-in-Code-clause-sent g c start messages replies rests =
    let heard = c.in-Code.ensures.heard start (messages ++ article_message c.args.block.now ∷ []) replies (c.in-Ok.ensures.said start messages replies TheArticle rests) in
    record { answer = line_reply c.in-Code.code heard.1.0; end_is = c.end_of.ensures; rests = heard.1.1 }

pub returns-in-Unasked-clause-sent : goal.returns-in-Unasked-clause-sent
returns-in-Unasked-clause-sent g c start messages replies rests =
    let heard = c.in-Unasked.ensures.heard start (messages ++ article_message c.args.block.now ∷ []) replies (c.in-Ok.ensures.said start messages replies TheArticle rests) in
    let answer = line_reply c.in-Unasked.code heard.1.0 in
    article_ends start (g.L.Links.trace c.hear.new.links) (patience_of c.args.dialog) messages c.args.block.now replies (answer ∷ []) (replies ++ answer ∷ []) why.Unasked _ c.requires.some (lit≤ tt) c.end_of-in-Unasked.ensures refl heard.1.1

pub returns-in-Over-clause-sent : goal.returns-in-Over-clause-sent
returns-in-Over-clause-sent g c start messages replies rests =
    let heard = c.in-Over.ensures.heard start (messages ++ article_message c.args.block.now ∷ []) replies (c.in-Ok.ensures.said start messages replies TheArticle rests) in
    article_ends start (g.L.Links.trace c.hear.new.links) (patience_of c.args.dialog) messages c.args.block.now replies [] replies c.in-Over.field-0 Unsure c.requires.some (lit≤ tt) refl (sym (append-nil replies)) heard
