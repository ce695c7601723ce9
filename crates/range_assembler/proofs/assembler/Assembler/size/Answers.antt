use Rattle.std.proofs.Common.{◌∙◌, ℕ, List, Option, sym, ap, subst}
use Rattle.std.specs.Prelude.{slice_get}
use Rattle.range_assembler.specs.Entries.{kept_size}
use Rattle.range_assembler.specs.Order.{size_read}
use Rattle.range_assembler.specs.Sets.{ShareNothing}
use Rattle.range_assembler.proofs.Kept.{size_found}
use Rattle.range_assembler.proofs.SetLaws.{share_nothing}
use Rattle.range_assembler.proofs.assembler.Assembler.size.Goals as goal

pub returns-clause-size : goal.returns-clause-size
returns-clause-size c =
    c.size_at.ensures ∙ ap (λ (t : List (Option ℕ)). size_read (slice_get t c.args.file)) c.deref.ensures.value
    ∙ sym (size_found c.self.inside.entries.items c.self.inside.order c.self.inside.sizes.items c.args.file c.self.invariant.0)
    ∙ ap (kept_size c.args.file) c.self.view_is

pub returns-clause-disjoint : goal.returns-clause-disjoint
returns-clause-disjoint c = subst ShareNothing c.self.view_is (share_nothing c.self.inside.entries.items c.self.invariant.0.sound)
