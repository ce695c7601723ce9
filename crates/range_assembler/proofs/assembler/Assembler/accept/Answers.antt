use Rattle.std.proofs.Common.{◌≡◌, ◌≤◌, ◌∙◌, ℕ, Bool, true, false, List, Option, Some, None, length, sym, ap, subst, refl, arith, set}
use Rattle.std.specs.Prelude.{◌==◌, cond}
use Rattle.std.proofs.lemmas.Bool.Decides.{nat_tests}
use Rattle.range_assembler.specs.declared.assembler.Entry.{Entry}
use Rattle.range_assembler.specs.declared.assembler.Hold.TheVariants.{Accepted}
use Rattle.range_assembler.specs.Bare.{IsGapped, carved}
use Rattle.range_assembler.specs.Claims.{is_held_entry, accept_answer, other_size, size_answer}
use Rattle.range_assembler.specs.Entries.{with_accept}
use Rattle.range_assembler.proofs.Edits.{length_set}
use Rattle.range_assembler.proofs.EntryRead.{entry_read, size_here}
use Rattle.range_assembler.proofs.Gapped.{room, held_only, gap_absent, gap_known, gapped-accept}
use Rattle.range_assembler.proofs.Holds.{set-edit}
use Rattle.range_assembler.proofs.Kept.{index-accept}
use Rattle.range_assembler.proofs.assembler.Assembler.accept.Goals as goal

equal_if : (size n : ℕ) (b : Bool) → (n == size) ≡ b → None ≡ cond b None (Some n) → n ≡ size
equal_if size n true test none = grind (arith, nat_tests)
equal_if size n false test none = cc

equal_by : (size kept : ℕ) (o : Option ℕ) → None ≡ other_size size o → o ≡ Some kept → kept ≡ size
equal_by size kept None none is = cc
equal_by size kept (Some n) none is =
    let same : n ≡ kept = cc in
    sym same ∙ equal_if size n (n == size) refl none

pub invariant_of-self : goal.invariant_of-self
invariant_of-self c =
    let read = entry_read is_held_entry c.self.inside.entries.items c.args.self.now c.args.segment c.index-entry.result.now refl c.self.view_is c.requires.held c.index-entry.ensures in
    let size = size_here is_held_entry c.self.inside.entries.items c.args.self.now c.self.inside.order c.self.inside.sizes.items c.args.segment c.index-entry.result.now c.index.result.now read c.self.invariant.0 c.index.ensures in
    let small : c.index-entry.result.now.last ≤ c.args.size = subst (λ n. n ≤ c.args.size) read.last c.requires.size in (
      index-accept c.self.inside.entries.items c.self.inside.order c.self.inside.sizes.items c.args.segment c.args.size c.index-entry.result.now c.self.invariant.0 read.there read.passes small (λ kept found. equal_by c.args.size kept c.index.result.now c.in-None.ensures (size.here ∙ found)),
      subst (λ n. IsGapped (set c.self.inside.entries.items c.args.segment record { file = c.index-entry.result.now.file; hold = Accepted c.args.size; first = c.index-entry.result.now.first; last = c.index-entry.result.now.last }) c.carve.new.gaps n) (sym (length_set c.self.inside.sizes.items c.index-entry.result.now.file (Some c.args.size)))
          (gapped-accept c.self.inside.entries.items c.self.inside.gaps c.carve.new.gaps c.args.segment (length c.self.inside.sizes.items) c.args.size c.place-place.result c.index-entry.result.now c.self.invariant.0.sound c.self.invariant.1 read.there read.passes size.within c.place-place.ensures (c.carve.ensures.ranges ∙ ap (λ o. carved c.place-place.result o record { file = c.index-entry.result.now.file; segment = c.args.segment; first = c.index-entry.result.now.first; last = c.index-entry.result.now.last } c.self.inside.gaps.0) c.get-gap.ensures) c.carve.ensures.sides),
    )

pub returns-in-None-clause-answer : goal.returns-in-None-clause-answer
returns-in-None-clause-answer c =
    let read = entry_read is_held_entry c.self.inside.entries.items c.args.self.now c.args.segment c.index-entry.result.now refl c.self.view_is c.requires.held c.index-entry.ensures in
    let size = size_here is_held_entry c.self.inside.entries.items c.args.self.now c.self.inside.order c.self.inside.sizes.items c.args.segment c.index-entry.result.now c.index.result.now read c.self.invariant.0 c.index.ensures in
    ap size_answer c.in-None.ensures ∙ ap (accept_answer c.args.size) size.now_is

pub returns-in-Some-clause-answer : goal.returns-in-Some-clause-answer
returns-in-Some-clause-answer c =
    let read = entry_read is_held_entry c.self.inside.entries.items c.args.self.now c.args.segment c.index-entry.result.now refl c.self.view_is c.requires.held c.index-entry.ensures in
    let size = size_here is_held_entry c.self.inside.entries.items c.args.self.now c.self.inside.order c.self.inside.sizes.items c.args.segment c.index-entry.result.now c.index.result.now read c.self.invariant.0 c.index.ensures in
    ap size_answer c.in-Some.ensures ∙ ap (accept_answer c.args.size) size.now_is

pub returns-in-None-clause-ok : goal.returns-in-None-clause-ok
returns-in-None-clause-ok c =
    let read = entry_read is_held_entry c.self.inside.entries.items c.args.self.now c.args.segment c.index-entry.result.now refl c.self.view_is c.requires.held c.index-entry.ensures in
    set-edit c.self.inside.entries.items c.args.segment (λ e. record { file = e.file; hold = Accepted c.args.size; first = e.first; last = e.last }) c.index-entry.result.now read.there
    ∙ ap (λ (t : List Entry). with_accept c.args.segment c.args.size t) read.same

pub place-place-requires : goal.place-place-requires
place-place-requires c =
    let low = room c.self.inside.entries.items c.self.inside.order c.self.inside.gaps c.self.inside.sizes.items c.self.invariant.0 c.self.invariant.1 in omega (arith, low)

pub carve-requires-clause-first : goal.carve-requires-clause-first
carve-requires-clause-first c =
    let read = entry_read is_held_entry c.self.inside.entries.items c.args.self.now c.args.segment c.index-entry.result.now refl c.self.view_is c.requires.held c.index-entry.ensures in
    (c.self.invariant.0.sound.ranges c.args.segment c.index-entry.result.now read.there (held_only c.index-entry.result.now.hold read.passes).0).from_one

pub carve-requires-clause-last : goal.carve-requires-clause-last
carve-requires-clause-last c =
    let read = entry_read is_held_entry c.self.inside.entries.items c.args.self.now c.args.segment c.index-entry.result.now refl c.self.view_is c.requires.held c.index-entry.ensures in
    (c.self.invariant.0.sound.ranges c.args.segment c.index-entry.result.now read.there (held_only c.index-entry.result.now.hold read.passes).0).small

pub carve-requires-clause-few : goal.carve-requires-clause-few
carve-requires-clause-few c =
    room c.self.inside.entries.items c.self.inside.order c.self.inside.gaps c.self.inside.sizes.items c.self.invariant.0 c.self.invariant.1

pub carve-requires-clause-range : goal.carve-requires-clause-range
carve-requires-clause-range c =
    let read = entry_read is_held_entry c.self.inside.entries.items c.args.self.now c.args.segment c.index-entry.result.now refl c.self.view_is c.requires.held c.index-entry.ensures in
    let sides = c.self.invariant.1.sides in omega (arith, read.within, sides)

pub carve-requires-clause-absent : goal.carve-requires-clause-absent
carve-requires-clause-absent c =
    let read = entry_read is_held_entry c.self.inside.entries.items c.args.self.now c.args.segment c.index-entry.result.now refl c.self.view_is c.requires.held c.index-entry.ensures in
    gap_absent c.self.inside.entries.items c.self.inside.gaps (length c.self.inside.sizes.items) c.args.segment c.index-entry.result.now c.self.invariant.1 read.there (held_only c.index-entry.result.now.hold read.passes).1

pub carve-requires-clause-known : goal.carve-requires-clause-known
carve-requires-clause-known c =
    λ k range there. gap_known c.self.inside.entries.items c.self.inside.gaps (length c.self.inside.sizes.items) k range c.self.invariant.1 there
