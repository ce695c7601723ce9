-- The greeting and the login.
use Rattle.std.proofs.Common.{None}
use Rattle.std.specs.Option.{option_copied}
use Rattle.link_dialog.proofs.Logins.{start_with, not_greeted_by, logged_in_open, logged_in_over, greeted_stands}
use Rattle.link_dialog.proofs.dialog.Dialog.open.Goals as goal

pub returns-in-Err-clause-over : goal.returns-in-Err-clause-over
returns-in-Err-clause-over g c =
    not_greeted_by (start_with (g.L.Links.trace c.args.links.now) c.args.address.now (option_copied c.args.login)) (g.L.Links.trace c.greet.new.links) c.args.patience c.in-Err.why (c.in-Err.ensures.over (option_copied c.args.login))

pub log_in-requires : goal.log_in-requires
log_in-requires g c = (c.in-Ok.ensures.greeted None).1

pub returns-in-Ok-log_in-clause-opened : goal.returns-in-Ok-log_in-clause-opened
returns-in-Ok-log_in-clause-opened g c =
    let start = start_with (g.L.Links.trace c.args.links.now) c.args.address.now (option_copied c.args.login) in
    let greeted = c.in-Ok.ensures.greeted (option_copied c.args.login) in
    logged_in_open start (g.L.Links.trace c.greet.new.links) (g.L.Links.trace c.log_in.new.links) (g.L.Links.live c.greet.new.links) (g.L.Links.live c.log_in.new.links) c.args.patience c.in-Ok.dialog
    greeted c.in-Ok-log_in.ensures.live
    (c.in-Ok-log_in.ensures.logged_in (g.L.Links.trace c.args.links.now) c.args.address.now greeted.2.0
    (greeted_stands start (g.L.Links.trace c.greet.new.links) (g.L.Links.live c.greet.new.links) c.args.patience c.in-Ok.dialog greeted))

pub returns-in-Err-log_in-clause-over : goal.returns-in-Err-log_in-clause-over
returns-in-Err-log_in-clause-over g c =
    let start = start_with (g.L.Links.trace c.args.links.now) c.args.address.now (option_copied c.args.login) in
    let greeted = c.in-Ok.ensures.greeted (option_copied c.args.login) in
    logged_in_over start (g.L.Links.trace c.log_in.new.links) c.args.patience c.in-Ok.dialog c.in-Err-log_in.why greeted.0
    (c.in-Err-log_in.ensures.logged_in (g.L.Links.trace c.args.links.now) c.args.address.now greeted.2.0
    (greeted_stands start (g.L.Links.trace c.greet.new.links) (g.L.Links.live c.greet.new.links) c.args.patience c.in-Ok.dialog greeted))
