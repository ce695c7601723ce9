use Rattle.std.proofs.Common.{◌∙◌, List, drop, ap, subst, arith}
use Rattle.range_assembler.specs.declared.assembler.Entry.{Entry}
use Rattle.range_assembler.specs.Accepted.{IsKthPart, kth_from}
use Rattle.range_assembler.proofs.Kept.{few}
use Rattle.range_assembler.proofs.Parts.{kth_found}
use Rattle.range_assembler.proofs.assembler.Assembler.accepted.Goals as goal

pub place-place-requires : goal.place-place-requires
place-place-requires c =
    let low = few c.self.inside.entries.items c.self.inside.order c.self.inside.sizes.items c.self.invariant.0 in omega (arith, low)

pub kth_from-requires : goal.kth_from-requires
kth_from-requires c =
    let low = few c.self.inside.entries.items c.self.inside.order c.self.inside.sizes.items c.self.invariant.0 in omega (arith, low)

pub returns : goal.returns
returns c =
    let found = kth_found c.self.inside.entries.items c.self.inside.order.0 c.args.file c.place-place.result c.args.k c.self.invariant.0.sound c.self.invariant.0.ordered c.place-place.ensures in
    subst (λ (entries : List Entry). IsKthPart c.args.file c.args.k entries c.kth_from.result) c.self.view_is
    (record {
      segments = found.segments;
      are = found.are;
      answer_is = c.kth_from.ensures ∙ ap (λ (entries : List Entry). kth_from c.args.file entries (drop c.place-place.result c.self.inside.order.0) c.args.k) c.deref.ensures.value ∙ found.answer_is;
    })
