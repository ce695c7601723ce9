-- A byte that nothing was asked for.
use Rattle.std.proofs.Common.{ℕ, [], Option, ◌∷◌, take, refl, ap, subst, ◌∙◌}
use Rattle.nntp_lines.specs.declared.why.Why.TheVariants as why
use Rattle.fetch_link.specs.declared.taking.What.TheVariants as what
use Rattle.link_dialog.specs.declared.awaited.Awaited.{Awaited}
use Rattle.fetch_link.specs.Takes.{Awaits}
use Rattle.fetch_link.proofs.Hearing.{takes_as, one_byte, unasked}
use Rattle.fetch_link.proofs.connection.Connection.take.Goals as goal

pub returns-in-None-clause-takes : goal.returns-in-None-clause-takes
returns-in-None-clause-takes c h mode against awaits alive stands =
    let piece = c.args.piece.now in
    let one = one_byte piece c.requires.some in
    takes_as _ h mode against (one.byte ∷ []) (take c.used_up.result.used piece) [] (take c.used_up.result.wrote piece) (what.Over why.Unasked) c.used_up.result.what
    (ap (λ (n : ℕ). take n piece) c.used_up.ensures.used ∙ one.is) (ap (λ (n : ℕ). take n piece) c.used_up.ensures.wrote) c.used_up.ensures.what
    (unasked c.args.self.now _ h mode against one.byte alive stands refl (subst (λ (a : Option Awaited). Awaits a h.waiting) c.in-None.is awaits) refl)
