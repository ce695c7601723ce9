use Rattle.std.proofs.Common.{◌≡◌, ◌<◌, ◌∙◌, List, Some, None, length, set, sym, ap, subst}
use Rattle.std.specs.Prelude.{slice_get}
use Rattle.range_assembler.specs.declared.sequence.Range.{Range}
use Rattle.range_assembler.specs.Sides.{HaveSides}
use Rattle.range_assembler.proofs.Ordering.{some_at}
use Rattle.range_assembler.proofs.SidesLaws.{sides_remove}
use Rattle.range_assembler.proofs.order.Order.remove.Goals as goal

pub invariant_of-self : goal.invariant_of-self
invariant_of-self c =
    let here : slice_get c.self.inside.taken c.args.place ≡ Some c.in-Some.range = sym c.get.ensures ∙ c.in-Some.is in
    let have = sides_remove c.self.inside.sides.items c.self.inside.taken c.args.place c.in-Some.range c.remove-sides.result c.self.invariant here in
    subst (λ (t : List Range). HaveSides (set c.self.inside.sides.items c.in-Some.range.segment (Some c.remove-sides.result)) t) (sym c.remove-sides.ensures) have

pub invariant_of-self-in-Some-2 : goal.invariant_of-self-in-Some-2
invariant_of-self-in-Some-2 c =
    let here : slice_get c.self.inside.taken c.args.place ≡ Some c.in-Some.range = sym c.get.ensures ∙ c.in-Some.is in
    let have = sides_remove c.self.inside.sides.items c.self.inside.taken c.args.place c.in-Some.range c.remove-sides.result c.self.invariant here in
    subst (λ (t : List Range). HaveSides (set c.self.inside.sides.items c.in-Some.range.segment (Some c.remove-sides.result)) t) (sym c.remove-sides.ensures) have

pub unreachable-requires : goal.unreachable-requires
unreachable-requires c =
    let ranges : c.self.inside.taken ≡ c.args.self.now.0 = ap (λ d. d.0) c.self.view_is in
    let inside : c.args.place < length c.self.inside.taken = subst (λ (t : List Range). c.args.place < length t) (sym ranges) c.requires.place in
    let some = some_at c.self.inside.taken c.args.place inside in
    let no_way : None ≡ Some some.range = sym c.in-None.is ∙ c.get.ensures ∙ some.there in cc
