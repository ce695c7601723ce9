-- A range whose lines were added, or not, one that is refused, and one without a reply.
use Rattle.std.proofs.Common.{[], ◌∷◌, ◌++◌, Err, sym, subst, take}
use Rattle.overview_index.specs.Asking.{Tallies}
use Rattle.overview_index.specs.Session.{Range, IndexEnds, lines_in, messages_of, over_message, ranges_in}
use Rattle.overview_index.specs.declared.session.IndexError.{IndexError}
use Rattle.overview_index.proofs.SessionSteps.{range_done, range_ends, range_refused, range_cut}
use Rattle.overview_index.proofs.session.index_range.Goals as goal

pub returns-in-Ok-clause-ends : goal.returns-in-Ok-clause-ends
returns-in-Ok-clause-ends g c q start group done there u =
    let range : Range = record { first = c.args.from; last = c.args.to } in
    let a = c.in-Heard.ensures.asked start (messages_of q.group (take done (ranges_in q group))) u.replies u.stands in
    let held : Tallies (record c.args.desk.now { block = c.ask.new.block }) q.group (lines_in u.overs) = record { grouper = u.tallies.grouper; skipped = u.tallies.skipped } in
    range_done q start (g.L.Links.trace c.args.links.now) (g.L.Links.trace c.ask.new.links) c.args.dialog group c.args.desk.now c.add_overview.new.desk done range c.in-Heard.code c.in-Heard.kept c.ask.new.block c.in-Heard.live
    (record { under_way = u; there = there }) a (c.in-Ok.ensures q.group (lines_in u.overs) a.reply a.reply_is held)

pub returns-in-Err-clause-ends : goal.returns-in-Err-clause-ends
returns-in-Err-clause-ends g c q start group done there u =
    let range : Range = record { first = c.args.from; last = c.args.to } in
    let messages = messages_of q.group (take done (ranges_in q group)) in
    let a = c.in-Heard.ensures.asked start messages u.replies u.stands in
    let held : Tallies (record c.args.desk.now { block = c.ask.new.block }) q.group (lines_in u.overs) = record { grouper = u.tallies.grouper; skipped = u.tallies.skipped } in
    subst (λ (e : IndexError). IndexEnds q start (g.L.Links.trace c.quit.new.links) (Err e)) (sym c.index_error.ensures)
    (range_ends q start (g.L.Links.trace c.args.links.now) (g.L.Links.trace c.quit.new.links) c.args.dialog group c.args.desk.now done range a.reply c.in-Err.why (record { under_way = u; there = there }) a.goes
    (c.in-Err.ensures q.group (lines_in u.overs) a.reply a.reply_is held) (c.quit.ensures.quits start (messages ++ over_message range ∷ []) (u.replies ++ a.reply ∷ []) a.stands))

pub returns-in-Refused-clause-ends : goal.returns-in-Refused-clause-ends
returns-in-Refused-clause-ends g c q start group done there u =
    range_refused q start (g.L.Links.trace c.args.links.now) (g.L.Links.trace c.ask.new.links) c.args.dialog group c.args.desk.now done (record { first = c.args.from; last = c.args.to }) c.in-Refused.code (record { under_way = u; there = there })
    (c.in-Refused.ensures.asked start (messages_of q.group (take done (ranges_in q group))) u.replies u.stands)

pub returns-in-Over-clause-ends : goal.returns-in-Over-clause-ends
returns-in-Over-clause-ends g c q start group done there u =
    range_cut q start (g.L.Links.trace c.args.links.now) (g.L.Links.trace c.ask.new.links) c.args.dialog group c.args.desk.now done (record { first = c.args.from; last = c.args.to }) c.in-Over.why (record { under_way = u; there = there })
    (c.in-Over.ensures.asked start (messages_of q.group (take done (ranges_in q group))) u.replies u.stands)
