use Rattle.std.proofs.Common.{refl, sym, ◌∙◌, ◌+◌, drop}
use Rattle.std.specs.Prelude.{codes}
use Rattle.nzb_index.proofs.TextsFound.{encoded}
use Rattle.nzb_index.proofs.ReferenceEnds.{name_reads, named_amp, named_lt, named_gt, named_quot, named_apos}
use Rattle.nzb_index.proofs.references.named_end.Goals as goal

pub returns-then-starts_at : goal.returns-then-starts_at
returns-then-starts_at c =
    name_reads c.args.text.now c.args.from (codes "amp;") 38 _ c.requires (sym c.starts_at.ensures ∙ c.if-starts_at.true) refl encoded.0 (named_amp (drop c.args.from c.args.text.now) (drop (c.args.from + 1) c.args.text.now) (sym c.starts_at.ensures ∙ c.if-starts_at.true))

pub returns-then-starts_at-2 : goal.returns-then-starts_at-2
returns-then-starts_at-2 c =
    name_reads c.args.text.now c.args.from (codes "lt;") 60 _ c.requires (sym c.starts_at-2.ensures ∙ c.if-starts_at-2.true) refl encoded.1 (named_lt (drop c.args.from c.args.text.now) (drop (c.args.from + 1) c.args.text.now) (sym c.starts_at.ensures ∙ c.if-starts_at.false) (sym c.starts_at-2.ensures ∙ c.if-starts_at-2.true))

pub returns-then-starts_at-3 : goal.returns-then-starts_at-3
returns-then-starts_at-3 c =
    name_reads c.args.text.now c.args.from (codes "gt;") 62 _ c.requires (sym c.starts_at-3.ensures ∙ c.if-starts_at-3.true) refl encoded.2 (named_gt (drop c.args.from c.args.text.now) (drop (c.args.from + 1) c.args.text.now) (sym c.starts_at.ensures ∙ c.if-starts_at.false) (sym c.starts_at-2.ensures ∙ c.if-starts_at-2.false) (sym c.starts_at-3.ensures ∙ c.if-starts_at-3.true))

pub returns-then-starts_at-4 : goal.returns-then-starts_at-4
returns-then-starts_at-4 c =
    name_reads c.args.text.now c.args.from (codes "quot;") 34 _ c.requires (sym c.starts_at-4.ensures ∙ c.if-starts_at-4.true) refl encoded.3 (named_quot (drop c.args.from c.args.text.now) (drop (c.args.from + 1) c.args.text.now) (sym c.starts_at.ensures ∙ c.if-starts_at.false) (sym c.starts_at-2.ensures ∙ c.if-starts_at-2.false) (sym c.starts_at-3.ensures ∙ c.if-starts_at-3.false) (sym c.starts_at-4.ensures ∙ c.if-starts_at-4.true))

pub returns-then-starts_at-5 : goal.returns-then-starts_at-5
returns-then-starts_at-5 c =
    name_reads c.args.text.now c.args.from (codes "apos;") 39 _ c.requires (sym c.starts_at-5.ensures ∙ c.if-starts_at-5.true) refl encoded.4 (named_apos (drop c.args.from c.args.text.now) (drop (c.args.from + 1) c.args.text.now) (sym c.starts_at.ensures ∙ c.if-starts_at.false) (sym c.starts_at-2.ensures ∙ c.if-starts_at-2.false) (sym c.starts_at-3.ensures ∙ c.if-starts_at-3.false) (sym c.starts_at-4.ensures ∙ c.if-starts_at-4.false) (sym c.starts_at-5.ensures ∙ c.if-starts_at-5.true))
