-- A run: a link opened, the newsgroup chosen, all ranges asked, and the index of their lines.
use Rattle.std.proofs.Common.{inr, refl, subst, sym}
use Rattle.std.specs.Option.{option_copied}
use Rattle.nntp_lines.specs.declared.why.Why.{Why}
use Rattle.link_dialog.specs.Talk.{Start}
use Rattle.overview_index.specs.Session.{Query, IndexWasOver, lines_in, overs_in}
use Rattle.overview_index.proofs.SessionSteps.{opens, opening_over, chosen_begins, has_index, has_none}
use Rattle.overview_index.proofs.session.run_index.Goals as goal

pub returns-in-Err-Over-clause-ends : goal.returns-in-Err-Over-clause-ends
returns-in-Err-Over-clause-ends g c =
    let q : Query = record { group = c.args.group.now; first = c.args.first; last = c.args.last; patience = c.args.patience } in
    let start : Start = record { before = g.L.Links.trace c.args.links.now; address = c.args.address.now; login = option_copied c.args.login } in
    subst (λ (reason : Why). IndexWasOver q start (g.L.Links.trace c.open.new.links) reason) (sym c.in-Err-Over.why-is)
    (opening_over q start (g.L.Links.trace c.open.new.links) c.in-Err-Over.why (rw c.in-Err-Over.field-0-is at c.in-Err-Over.ensures.over))

pub returns-in-Err-index_ranges-clause-ends : goal.returns-in-Err-index_ranges-clause-ends
returns-in-Err-index_ranges-clause-ends g c =
    let q : Query = record { group = c.args.group.now; first = c.args.first; last = c.args.last; patience = c.args.patience } in
    let start : Start = record { before = g.L.Links.trace c.args.links.now; address = c.args.address.now; login = option_copied c.args.login } in
    let begins = opens q start (g.L.Links.trace c.open.new.links) (g.L.Links.live c.open.new.links) c.in-Ok-open.dialog c.in-Ok-open.ensures.opened in
    let under = chosen_begins q start (g.L.Links.trace c.choose.new.links) c.in-Ok-open.dialog c.in-Ok-choose.chosen c.in-Ok.desk c.in-Ok.ensures (c.in-Ok-choose.ensures.ends q start refl begins) in
    c.in-Err-index_ranges.ensures.ends q start refl refl under

pub returns-in-Ok-finish-clause-ends : goal.returns-in-Ok-finish-clause-ends
returns-in-Ok-finish-clause-ends g c =
    let q : Query = record { group = c.args.group.now; first = c.args.first; last = c.args.last; patience = c.args.patience } in
    let start : Start = record { before = g.L.Links.trace c.args.links.now; address = c.args.address.now; login = option_copied c.args.login } in
    let begins = opens q start (g.L.Links.trace c.open.new.links) (g.L.Links.live c.open.new.links) c.in-Ok-open.dialog c.in-Ok-open.ensures.opened in
    let under = chosen_begins q start (g.L.Links.trace c.choose.new.links) c.in-Ok-open.dialog c.in-Ok-choose.chosen c.in-Ok.desk c.in-Ok.ensures (c.in-Ok-choose.ensures.ends q start refl begins) in
    let heard = c.in-Ok-index_ranges.ensures.ends q start refl refl under in
    has_index q start (g.L.Links.trace c.index_ranges.new.links) c.index_ranges.new.desk c.in-Ok-finish.index c.index_ranges.new.desk.skipped heard
    (c.in-Ok-finish.ensures.index q.group (overs_in (lines_in heard.overs)) heard.tallies.grouper) refl

pub returns-clause-ends : goal.returns-clause-ends
returns-clause-ends g c =
    let q : Query = record { group = c.args.group.now; first = c.args.first; last = c.args.last; patience = c.args.patience } in
    let start : Start = record { before = g.L.Links.trace c.args.links.now; address = c.args.address.now; login = option_copied c.args.login } in
    let begins = opens q start (g.L.Links.trace c.open.new.links) (g.L.Links.live c.open.new.links) c.in-Ok-open.dialog c.in-Ok-open.ensures.opened in
    let under = chosen_begins q start (g.L.Links.trace c.choose.new.links) c.in-Ok-open.dialog c.in-Ok-choose.chosen c.in-Ok.desk c.in-Ok.ensures (c.in-Ok-choose.ensures.ends q start refl begins) in
    inr (has_none q start (g.L.Links.trace c.index_ranges.new.links) c.index_ranges.new.desk (c.in-Ok-index_ranges.ensures.ends q start refl refl under))

pub returns-in-Ok-finish-clause-valid : goal.returns-in-Ok-finish-clause-valid
returns-in-Ok-finish-clause-valid g c =
    let q : Query = record { group = c.args.group.now; first = c.args.first; last = c.args.last; patience = c.args.patience } in
    let start : Start = record { before = g.L.Links.trace c.args.links.now; address = c.args.address.now; login = option_copied c.args.login } in
    let begins = opens q start (g.L.Links.trace c.open.new.links) (g.L.Links.live c.open.new.links) c.in-Ok-open.dialog c.in-Ok-open.ensures.opened in
    let under = chosen_begins q start (g.L.Links.trace c.choose.new.links) c.in-Ok-open.dialog c.in-Ok-choose.chosen c.in-Ok.desk c.in-Ok.ensures (c.in-Ok-choose.ensures.ends q start refl begins) in
    let heard = c.in-Ok-index_ranges.ensures.ends q start refl refl under in
    c.in-Ok-finish.ensures.valid q.group (overs_in (lines_in heard.overs)) heard.tallies.grouper
