use Rattle.std.proofs.Common.{◌∙◌, ◌++◌, ◌∷◌, [], ap}
use Rattle.poster.specs.declared.index.PartEnd.TheVariants.{NotSent}
use Rattle.poster.proofs.SaidLemmas.{outcomes_none}
use Rattle.poster.proofs.session.unsent.Goals as goal

pub loop-preserved : goal.loop-preserved
loop-preserved c = c.in_ok-push.ensures.ok ∙ ap (λ l. l ++ record { end = NotSent; bytes = 0 } ∷ []) c.loop.invariant ∙ outcomes_none c.loop.counter
