use Rattle.std.proofs.Common.{◌∙◌, List, length, sym, ap, refl, arith}
use Rattle.range_assembler.specs.declared.assembler.Entry.{Entry}
use Rattle.range_assembler.specs.declared.assembler.Hold.TheVariants.{Held}
use Rattle.range_assembler.specs.Entries.{with_claim}
use Rattle.range_assembler.specs.Claims.{is_free_entry, file_at, claim_answer}
use Rattle.range_assembler.proofs.EntryRead.{entry_read, clash_here, clash_read}
use Rattle.range_assembler.proofs.Holds.{set-edit}
use Rattle.range_assembler.proofs.Kept.{few, absent_free, index-claim}
use Rattle.range_assembler.proofs.Gapped.{gapped-same, free_only}
use Rattle.range_assembler.proofs.SetLaws.{names_least, apart}
use Rattle.range_assembler.proofs.assembler.Assembler.claim.Goals as goal

pub place-place-requires : goal.place-place-requires
place-place-requires c =
    let low = few c.self.inside.entries.items c.self.inside.order c.self.inside.sizes.items c.self.invariant.0 in omega (arith, low)

pub put-requires-clause-place : goal.put-requires-clause-place
put-requires-clause-place c =
    c.place-place.ensures.within

pub put-requires-clause-few : goal.put-requires-clause-few
put-requires-clause-few c =
    few c.self.inside.entries.items c.self.inside.order c.self.inside.sizes.items c.self.invariant.0

pub put-requires-clause-known : goal.put-requires-clause-known
put-requires-clause-known c =
    let read = entry_read is_free_entry c.self.inside.entries.items c.args.self.now c.args.segment c.index.result.now refl c.self.view_is c.requires.free c.index.ensures in
    let sides = c.self.invariant.0.sides in omega (arith, read.within, sides)

pub put-requires-clause-absent : goal.put-requires-clause-absent
put-requires-clause-absent c =
    let read = entry_read is_free_entry c.self.inside.entries.items c.args.self.now c.args.segment c.index.result.now refl c.self.view_is c.requires.free c.index.ensures in
    absent_free c.self.inside.entries.items c.self.inside.order c.self.inside.sizes.items c.args.segment c.index.result.now c.self.invariant.0 read.there read.passes

pub returns-in-Some-clause-answer : goal.returns-in-Some-clause-answer
returns-in-Some-clause-answer c =
    let read = entry_read is_free_entry c.self.inside.entries.items c.args.self.now c.args.segment c.index.result.now refl c.self.view_is c.requires.free c.index.ensures in
    ap claim_answer (c.in-Some.ensures ∙ clash_read is_free_entry c.self.inside.entries.items c.args.self.now c.self.inside.order.0 c.args.segment c.args.first c.args.last c.place-place.result c.index.result.now c.get.result read c.self.invariant.0.ordered c.place-place.ensures c.get.ensures)

pub returns-in-None-clause-answer : goal.returns-in-None-clause-answer
returns-in-None-clause-answer c =
    let read = entry_read is_free_entry c.self.inside.entries.items c.args.self.now c.args.segment c.index.result.now refl c.self.view_is c.requires.free c.index.ensures in
    ap claim_answer (c.in-None.ensures ∙ clash_read is_free_entry c.self.inside.entries.items c.args.self.now c.self.inside.order.0 c.args.segment c.args.first c.args.last c.place-place.result c.index.result.now c.get.result read c.self.invariant.0.ordered c.place-place.ensures c.get.ensures)

pub returns-in-Some-clause-clash : goal.returns-in-Some-clause-clash
returns-in-Some-clause-clash c =
    let read = entry_read is_free_entry c.self.inside.entries.items c.args.self.now c.args.segment c.index.result.now refl c.self.view_is c.requires.free c.index.ensures in
    names_least (file_at c.args.self.now c.args.segment) c.args.first c.args.last c.args.self.now c.in-Some.clash (sym (c.in-Some.ensures ∙ clash_read is_free_entry c.self.inside.entries.items c.args.self.now c.self.inside.order.0 c.args.segment c.args.first c.args.last c.place-place.result c.index.result.now c.get.result read c.self.invariant.0.ordered c.place-place.ensures c.get.ensures))

pub returns-in-None-clause-apart : goal.returns-in-None-clause-apart
returns-in-None-clause-apart c =
    let read = entry_read is_free_entry c.self.inside.entries.items c.args.self.now c.args.segment c.index.result.now refl c.self.view_is c.requires.free c.index.ensures in
    apart (file_at c.args.self.now c.args.segment) c.args.first c.args.last c.args.self.now (sym (c.in-None.ensures ∙ clash_read is_free_entry c.self.inside.entries.items c.args.self.now c.self.inside.order.0 c.args.segment c.args.first c.args.last c.place-place.result c.index.result.now c.get.result read c.self.invariant.0.ordered c.place-place.ensures c.get.ensures))

pub returns-in-None-clause-ok : goal.returns-in-None-clause-ok
returns-in-None-clause-ok c =
    let read = entry_read is_free_entry c.self.inside.entries.items c.args.self.now c.args.segment c.index.result.now refl c.self.view_is c.requires.free c.index.ensures in
    set-edit c.self.inside.entries.items c.args.segment (λ e. record { file = e.file; hold = Held; first = c.args.first; last = c.args.last }) c.index.result.now read.there
    ∙ ap (λ (t : List Entry). with_claim c.args.segment c.args.first c.args.last t) read.same

pub invariant_of-self : goal.invariant_of-self
invariant_of-self c =
    let read = entry_read is_free_entry c.self.inside.entries.items c.args.self.now c.args.segment c.index.result.now refl c.self.view_is c.requires.free c.index.ensures in (
      index-claim c.self.inside.entries.items c.self.inside.order c.put.new.order c.self.inside.sizes.items c.args.segment c.args.first c.args.last c.place-place.result c.index.result.now c.self.invariant.0 read.there read.passes c.place-place.ensures (sym (c.in-None.ensures ∙ clash_here c.self.inside.entries.items c.self.inside.order.0 c.index.result.now.file c.args.first c.args.last c.place-place.result c.get.result c.self.invariant.0.ordered c.place-place.ensures c.get.ensures)) c.requires.first c.requires.range c.requires.small c.put.ensures.ranges c.put.ensures.sides,
      gapped-same c.self.inside.entries.items c.self.inside.gaps c.args.segment (length c.self.inside.sizes.items) c.index.result.now _ c.self.invariant.1 read.there (free_only c.index.result.now.hold read.passes) refl,
    )
