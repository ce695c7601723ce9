-- What the index finds is what is there.
use Rattle.std.proofs.Common.{rules, ◌≡◌, None, subst, sym}
use Rattle.std.specs.Option.{option_copied}
use Rattle.held_articles.specs.ById.{AreOnce, IsFoundWhere, present_article}
use Rattle.held_articles.proofs.Presence.{found_where}
use Rattle.held_articles.proofs.held.HeldArticles.present.Goals as goal

pub returns-in-Some-clause-exact : goal.returns-in-Some-clause-exact
returns-in-Some-clause-exact c =
    let once : AreOnce c.args.self.now = subst AreOnce c.self.view_is c.self.invariant.once in
    let is : option_copied c.present_at.result ≡ present_article c.args.id.now c.args.absent.now c.args.self.now = search rules in
    subst (IsFoundWhere c.args.id.now c.args.absent.now c.args.self.now) (sym is) (found_where c.args.id.now c.args.absent.now c.args.self.now once)

pub returns-in-None-clause-exact : goal.returns-in-None-clause-exact
returns-in-None-clause-exact c =
    let once : AreOnce c.args.self.now = subst AreOnce c.self.view_is c.self.invariant.once in
    let is : None ≡ present_article c.args.id.now c.args.absent.now c.args.self.now = search rules in
    subst (IsFoundWhere c.args.id.now c.args.absent.now c.args.self.now) (sym is) (found_where c.args.id.now c.args.absent.now c.args.self.now once)
