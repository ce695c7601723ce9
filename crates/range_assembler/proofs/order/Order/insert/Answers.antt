use Rattle.std.proofs.Common.{◌≡◌, ◌<◌, ◌≤◌, ◌∙◌, List, Some, None, length, set, sym, ap, subst, refl, arith}
use Rattle.std.specs.Prelude.{slice_get, insert}
use Rattle.std.proofs.lemmas.Option.{slice_get_read}
use Rattle.range_assembler.specs.declared.sequence.Range.{Range}
use Rattle.range_assembler.specs.Sides.{HaveSides}
use Rattle.range_assembler.proofs.SidesLaws.{sides_insert}
use Rattle.range_assembler.proofs.order.Order.insert.Goals as goal

pub invariant_of-self : goal.invariant_of-self
invariant_of-self c =
    let ranges : c.self.inside.taken ≡ c.args.self.now.0 = ap (λ d. d.0) c.self.view_is in
    let low : c.args.place ≤ length c.self.inside.taken = subst (λ (t : List Range). c.args.place ≤ length t) (sym ranges) c.requires.place in
    let have = sides_insert c.self.inside.sides.items c.self.inside.taken c.args.place c.args.range c.self.invariant low in
    let after : c.take.new.self ≡ None = c.take.ensures.after in
    let more : c.insert.new.self ≡ insert c.self.inside.taken c.args.place c.args.range = c.insert.ensures in
    λ k is. subst (λ (t : List Range). HaveSides (set c.self.inside.sides.items c.args.range.segment None) t) (sym more) have k (ap (λ s. slice_get (set c.self.inside.sides.items c.args.range.segment s) k) (sym after) ∙ is)

pub unreachable-requires : goal.unreachable-requires
unreachable-requires c =
    let ranges : c.self.inside.taken ≡ c.args.self.now.0 = ap (λ d. d.0) c.self.view_is in
    let sides : length c.self.inside.sides.items ≡ c.args.self.now.1 = ap (λ d. d.1) c.self.view_is in
    let known = c.requires.known in
    let inside : c.args.range.segment < length c.self.inside.sides.items = omega (arith, sides, known) in
    let read : slice_get c.self.inside.sides.items c.args.range.segment ≡ Some c.index_mut.result.now = slice_get_read c.self.inside.sides.items (length c.self.inside.sides.items) c.args.range.segment c.index_mut.result.now refl inside c.index_mut.ensures.value in
    let none : c.index_mut.result.now ≡ None = sym c.take.ensures.value ∙ c.in-None.is in
    let has = c.self.invariant c.args.range.segment (read ∙ ap (λ s. Some s) none) in
    c.requires.absent has.place has.range (ap (λ (t : List Range). slice_get t has.place) (sym ranges) ∙ has.there) has.its
