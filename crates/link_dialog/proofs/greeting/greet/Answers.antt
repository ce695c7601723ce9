-- The greeting.
use Rattle.std.proofs.Common.{◌≡◌, Bool, true, List, [], ◌∷◌, Some, arith, refl, sym, subst}
use Rattle.std.specs.Prelude.{slice_get}
use Rattle.nntp_lines.specs.declared.why.Why.TheVariants.{Unasked}
use Rattle.link_dialog.specs.declared.awaited.Awaited.TheVariants.{Greeting}
use Rattle.link_dialog.specs.Talk.{line_reply}
use Rattle.link_dialog.proofs.Logins.{start_with}
use Rattle.link_dialog.proofs.Talking.{opened_live}
use Rattle.link_dialog.proofs.Standing.{opened, heard_on, heard_over}
use Rattle.link_dialog.proofs.greeting.greet.Goals as goal

pub returns-in-Code-clause-greeted : goal.returns-in-Code-clause-greeted
returns-in-Code-clause-greeted g c login =
    let start = start_with (g.L.Links.trace c.args.links.now) c.args.address.now login in
    let w = opened start (g.L.Links.trace c.open.new.self) c.in-Ok.link c.args.patience c.requires c.in-Ok.ensures.trace in
    let h = c.in-Code.ensures.heard in
    let live : slice_get (g.L.Links.live c.open.new.self) c.in-Ok.link ≡ Some true = opened_live (g.L.Links.live c.args.links.now) (g.L.Links.live c.open.new.self) c.in-Ok.link c.in-Ok.ensures.number c.in-Ok.ensures.live in
    let reply = line_reply c.in-Code.field-0 h.1.0 in (
      refl,
      subst (λ (l : List Bool). slice_get l c.in-Ok.link ≡ Some true) (sym c.in-Code.ensures.live) live,
      (reply, heard_on start (g.L.Links.trace c.open.new.self) (g.L.Links.trace c.hear_reply.new.links) c.in-Ok.link c.args.patience [] [] (reply ∷ []) Greeting w h.1.1 refl),
    )

pub returns-in-Unasked-clause-over : goal.returns-in-Unasked-clause-over
returns-in-Unasked-clause-over g c login =
    let start = start_with (g.L.Links.trace c.args.links.now) c.args.address.now login in
    let w = opened start (g.L.Links.trace c.open.new.self) c.in-Ok.link c.args.patience c.requires c.in-Ok.ensures.trace in
    let h = c.in-Unasked.ensures.heard in
    let reply = line_reply c.in-Unasked.field-0 h.1.0 in (
      reply ∷ [],
      omega arith,
      heard_over start (g.L.Links.trace c.open.new.self) (g.L.Links.trace c.hear_reply.new.links) c.in-Ok.link c.args.patience [] [] (reply ∷ []) Greeting Unasked w h.1.1,
    )

pub returns-in-Over-clause-over : goal.returns-in-Over-clause-over
returns-in-Over-clause-over g c login =
    let start = start_with (g.L.Links.trace c.args.links.now) c.args.address.now login in
    let w = opened start (g.L.Links.trace c.open.new.self) c.in-Ok.link c.args.patience c.requires c.in-Ok.ensures.trace in (
      [],
      omega arith,
      heard_over start (g.L.Links.trace c.open.new.self) (g.L.Links.trace c.hear_reply.new.links) c.in-Ok.link c.args.patience [] [] [] Greeting c.in-Over.why w c.in-Over.ensures.heard,
    )
