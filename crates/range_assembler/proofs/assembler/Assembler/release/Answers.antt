use Rattle.std.proofs.Common.{◌∙◌, List, length, ap, refl, arith}
use Rattle.range_assembler.specs.declared.assembler.Entry.{Entry}
use Rattle.range_assembler.specs.declared.assembler.Hold.TheVariants.{Free}
use Rattle.range_assembler.specs.Entries.{with_hold}
use Rattle.range_assembler.specs.Claims.{is_held_entry}
use Rattle.range_assembler.proofs.EntryRead.{entry_read}
use Rattle.range_assembler.proofs.Holds.{set-edit}
use Rattle.range_assembler.proofs.Kept.{few, inside_release, segments_known, index-release}
use Rattle.range_assembler.proofs.Gapped.{gapped-same, held_only}
use Rattle.range_assembler.proofs.assembler.Assembler.release.Goals as goal

pub place-place-requires : goal.place-place-requires
place-place-requires c =
    let low = few c.self.inside.entries.items c.self.inside.order c.self.inside.sizes.items c.self.invariant.0 in omega (arith, low)

pub take_out-requires-clause-place : goal.take_out-requires-clause-place
take_out-requires-clause-place c =
    let read = entry_read is_held_entry c.self.inside.entries.items c.args.self.now c.args.segment c.index-entry.result.now refl c.self.view_is c.requires c.index-entry.ensures in
    λ test. inside_release c.self.inside.entries.items c.self.inside.order c.self.inside.sizes.items c.args.segment c.place-place.result c.index-entry.result.now c.self.invariant.0 read.there read.passes c.place-place.ensures test

pub take_out-requires-clause-few : goal.take_out-requires-clause-few
take_out-requires-clause-few c =
    let low = few c.self.inside.entries.items c.self.inside.order c.self.inside.sizes.items c.self.invariant.0 in omega (arith, low)

pub take_out-requires-clause-known : goal.take_out-requires-clause-known
take_out-requires-clause-known c =
    λ range there. segments_known c.self.inside.entries.items c.self.inside.order c.self.inside.sizes.items c.place-place.result range c.self.invariant.0 there

pub invariant_of-self : goal.invariant_of-self
invariant_of-self c =
    let read = entry_read is_held_entry c.self.inside.entries.items c.args.self.now c.args.segment c.index-entry.result.now refl c.self.view_is c.requires c.index-entry.ensures in (
      index-release c.self.inside.entries.items c.self.inside.order c.take_out.new.order c.self.inside.sizes.items c.args.segment c.place-place.result c.index-entry.result.now c.self.invariant.0 read.there read.passes c.place-place.ensures c.take_out.ensures.ranges c.take_out.ensures.sides,
      gapped-same c.self.inside.entries.items c.self.inside.gaps c.args.segment (length c.self.inside.sizes.items) c.index-entry.result.now _ c.self.invariant.1 read.there (held_only c.index-entry.result.now.hold read.passes).1 refl,
    )

pub returns : goal.returns
returns c =
    let read = entry_read is_held_entry c.self.inside.entries.items c.args.self.now c.args.segment c.index-entry.result.now refl c.self.view_is c.requires c.index-entry.ensures in
    set-edit c.self.inside.entries.items c.args.segment (λ e. record { file = e.file; hold = Free; first = e.first; last = e.last }) c.index-entry.result.now read.there
    ∙ ap (λ (t : List Entry). with_hold c.args.segment Free t) read.same
