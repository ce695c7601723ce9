use Rattle.std.proofs.Common.{sym, ◌∙◌}
use Rattle.nzb_index.proofs.ReferenceEnds.{reads_as, hex_here, decimal_here}
use Rattle.nzb_index.proofs.references.reference_end.Goals as goal

pub digits_end-requires-clause-within : goal.digits_end-requires-clause-within
digits_end-requires-clause-within c = (hex_here c.args.text.now c.args.from c.requires (sym c.starts_at.ensures ∙ c.if-starts_at.true)).0

pub returns-then-starts_at : goal.returns-then-starts_at
returns-then-starts_at c = reads_as c.args.text.now c.args.from c.digits_end.result _ _ (hex_here c.args.text.now c.args.from c.requires (sym c.starts_at.ensures ∙ c.if-starts_at.true)).1 c.digits_end.ensures

pub returns-then-starts_at-2 : goal.returns-then-starts_at-2
returns-then-starts_at-2 c =
    reads_as c.args.text.now c.args.from c.digits_end-then-starts_at-2.result _ _ (decimal_here c.args.text.now c.args.from c.requires (sym c.starts_at.ensures ∙ c.if-starts_at.false) (sym c.starts_at-2.ensures ∙ c.if-starts_at-2.true)).1 c.digits_end-then-starts_at-2.ensures
