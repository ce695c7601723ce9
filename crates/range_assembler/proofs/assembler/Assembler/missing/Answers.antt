use Rattle.std.proofs.Common.{◌≡◌, ◌∙◌, Some, length, sym, ap, arith}
use Rattle.range_assembler.specs.Entries.{kept_size}
use Rattle.range_assembler.specs.Missing.{missing_of}
use Rattle.range_assembler.proofs.Gapped.{room, missing_found, file_known}
use Rattle.range_assembler.proofs.assembler.Assembler.missing.Goals as goal

pub place-place-requires : goal.place-place-requires
place-place-requires c =
    let low = room c.self.inside.entries.items c.self.inside.order c.self.inside.gaps c.self.inside.sizes.items c.self.invariant.0 c.self.invariant.1 in omega (arith, low)

pub gap_at-requires-clause-place : goal.gap_at-requires-clause-place
gap_at-requires-clause-place c =
    c.place-place.ensures.within

pub gap_at-requires-clause-few : goal.gap_at-requires-clause-few
gap_at-requires-clause-few c =
    let low = room c.self.inside.entries.items c.self.inside.order c.self.inside.gaps c.self.inside.sizes.items c.self.invariant.0 c.self.invariant.1 in omega (arith, low)

pub returns-in-Some : goal.returns-in-Some
returns-in-Some c =
    let known : kept_size c.args.file c.self.inside.entries.items ≡ Some c.in-Some.size = ap (kept_size c.args.file) c.self.view_is ∙ sym c.size.ensures.size ∙ c.in-Some.is in
    c.gap_at.ensures.answer
    ∙ missing_found c.self.inside.entries.items c.self.inside.gaps (length c.self.inside.sizes.items) c.args.file c.in-Some.size c.place-place.result c.args.k c.self.invariant.1 (file_known c.self.inside.entries.items c.self.inside.order c.self.inside.sizes.items c.args.file c.in-Some.size c.self.invariant.0 known) known c.gap_at.ensures.size c.place-place.ensures
    ∙ ap (missing_of c.args.file c.args.k) c.self.view_is
