use Rattle.std.proofs.Common.{ℕ, Option, ap, arith, ◌∙◌, sym}
use Rattle.std.specs.Prelude.{is_some}
use Rattle.nzb_index.specs.declared.tags.TheConstants.{FEW_NAMES}
use Rattle.nzb_index.proofs.TagEnds.{place_starts, place_here, place_further, place_later}
use Rattle.nzb_index.proofs.tags.is_among_first.Goals as goal

pub loop-at-init : goal.loop-at-init
loop-at-init c = (place_starts c.args.name.now c.args.names.now, omega arith)

pub returns-then-eq-clause-found : goal.returns-then-eq-clause-found
returns-then-eq-clause-found c = ap (λ (o : Option ℕ). is_some o) (place_here c.args.name.now c.line.result.now c.args.names.now c.loop-at.at c.loop-at.invariant.0 c.line.ensures (sym c.eq.ensures ∙ c.if-eq.true))

pub loop-at-preserved : goal.loop-at-preserved
loop-at-preserved c =
    let few = c.min-at-end.ensures in
    let below = c.loop-at-test.true in (
      place_further c.args.name.now c.line.result.now c.args.names.now c.loop-at.at c.loop-at.invariant.0 c.line.ensures (sym c.eq.ensures ∙ c.if-eq.false),
      omega (arith, few, below),
    )

pub returns-clause-later : goal.returns-clause-later
returns-clause-later c =
    let few = c.min-at-end.ensures in
    let count = c.len.ensures.count in
    let over = c.loop-at-test.false in
    place_later c.args.name.now c.args.names.now FEW_NAMES c.loop-at.at c.loop-at.invariant.0 c.loop-at.invariant.1 (λ less. omega (arith, few, count, over, less))
