-- What was heard of a status line, on the link.
use Rattle.std.proofs.Common.{ℕ, take, refl, ap, sym, subst, ◌∙◌}
use Rattle.link_dialog.specs.declared.reader.Step.{Step}
use Rattle.link_dialog.specs.Fed.{IsRead, EndsAt}
use Rattle.fetch_link.specs.declared.taking.What.TheVariants as what
use Rattle.fetch_link.proofs.Hearing.{takes_as}
use Rattle.fetch_link.proofs.InLine.{in_line, short_line, line_more, line_over, line_reply, line_article}
use Rattle.fetch_link.proofs.connection.Connection.take_line.Goals as goal

pub returns-in-More-clause-takes : goal.returns-in-More-clause-takes
returns-in-More-clause-takes c h mode against awaits alive phase stands =
    let old = c.args.self.now in
    let fed = c.feed-fed in
    let piece = c.args.piece.now in
    let was = in_line old h mode against alive phase stands in
    let reads = subst (λ (s : Step). IsRead c.args.kind h.rest piece fed.result.used s fed.new.self) c.in-More.is (fed.ensures.reads h.rest was.0) in
    takes_as _ h mode against _ _ _ _ what.More c.used_up.result.what (ap (λ (n : ℕ). take n piece) c.used_up.ensures.used) refl c.used_up.ensures.what
    (line_more old _ h mode against c.args.kind piece fed.result.used awaits alive phase stands (fed.ensures.some c.requires.some) fed.ensures.used refl refl reads.0 reads.1 fed.ensures.small refl refl)

pub returns-in-Over-clause-takes : goal.returns-in-Over-clause-takes
returns-in-Over-clause-takes c h mode against awaits alive phase stands =
    let old = c.args.self.now in
    let fed = c.feed-fed in
    let piece = c.args.piece.now in
    let was = in_line old h mode against alive phase stands in
    let ends = subst (λ (s : Step). EndsAt c.args.kind h.rest piece fed.result.used s) c.in-Over.is (fed.ensures.ends h.rest was.0) in
    takes_as _ h mode against _ _ _ _ (what.Over c.in-Over.why) c.used_up-in-Over.result.what (ap (λ (n : ℕ). take n piece) c.used_up-in-Over.ensures.used) refl c.used_up-in-Over.ensures.what
    (line_over old _ h mode against c.args.kind piece fed.result.used awaits alive phase stands (fed.ensures.some c.requires.some) fed.ensures.used refl refl ends.0 ends.1 c.in-Over.why ends.2 refl refl)

pub returns-then-not-is_article-clause-takes : goal.returns-then-not-is_article-clause-takes
returns-then-not-is_article-clause-takes c h mode against awaits alive phase stands =
    let old = c.args.self.now in
    let fed = c.feed-fed in
    let piece = c.args.piece.now in
    let code = c.in-Line.code in
    let was = in_line old h mode against alive phase stands in
    let ends = subst (λ (s : Step). EndsAt c.args.kind h.rest piece fed.result.used s) c.in-Line.is (fed.ensures.ends h.rest was.0) in
    let reads = subst (λ (s : Step). IsRead c.args.kind h.rest piece fed.result.used s fed.new.self) c.in-Line.is (fed.ensures.reads h.rest was.0) in
    let answer = c.used_up-then-not-is_article in
    takes_as _ h mode against _ _ _ _ (what.Reply code) answer.result.what (ap (λ (n : ℕ). take n piece) answer.ensures.used) refl answer.ensures.what
    (line_reply old _ h mode against c.args.kind piece fed.result.used awaits alive phase stands reads.0 fed.ensures.used refl refl ends (short_line c.args.kind h.rest piece fed.result.used code fed.new.self reads.0 fed.ensures.used reads.1) code fed.new.self reads.1
    (sym c.is_article.ensures ∙ c.if-not-is_article.true) c.new-self.ensures refl refl)

pub returns-else-not-is_article-clause-takes : goal.returns-else-not-is_article-clause-takes
returns-else-not-is_article-clause-takes c h mode against awaits alive phase stands =
    let old = c.args.self.now in
    let fed = c.feed-fed in
    let piece = c.args.piece.now in
    let code = c.in-Line.code in
    let was = in_line old h mode against alive phase stands in
    let ends = subst (λ (s : Step). EndsAt c.args.kind h.rest piece fed.result.used s) c.in-Line.is (fed.ensures.ends h.rest was.0) in
    let reads = subst (λ (s : Step). IsRead c.args.kind h.rest piece fed.result.used s fed.new.self) c.in-Line.is (fed.ensures.reads h.rest was.0) in
    let answer = c.used_up-in-Line in
    takes_as _ h mode against _ _ _ _ what.More answer.result.what (ap (λ (n : ℕ). take n piece) answer.ensures.used) refl answer.ensures.what
    (line_article old _ h mode against c.args.kind piece fed.result.used awaits alive phase stands reads.0 fed.ensures.used refl refl ends (short_line c.args.kind h.rest piece fed.result.used code fed.new.self reads.0 fed.ensures.used reads.1) code fed.new.self reads.1
    (sym c.is_article.ensures ∙ c.if-not-is_article.false) c.new-self.ensures c.start-self.ensures c.len_with_end-self.ensures refl refl refl)
