use Rattle.std.proofs.Common.{Bool, true, false, ◌++◌, ◌∷◌, [], ap, arith, sym, ◌∙◌}
use Rattle.std.specs.Prelude.{not}
use Rattle.std.specs.Bool.{OnTrue}
use Rattle.nzb_index.specs.Tags.{HasLater}
use Rattle.nzb_index.proofs.TagEnds.{later_more}
use Rattle.nzb_index.proofs.tags.is_new.Goals as goal

pub returns-in-Ok-clause-new : goal.returns-in-Ok-clause-new
returns-in-Ok-clause-new c = c.in-Ok.ensures.added ∙ ap (λ (b : Bool). not b) (c.requires c.args.name.now ∙ sym (c.if-is_among_first.ensures.later))

pub returns-in-Ok-clause-later : goal.returns-in-Ok-clause-later
returns-in-Ok-clause-later c = go c.in-Ok.added
  where
    go : (b : Bool) → OnTrue b (HasLater c.insert.new.self (c.args.names.now ++ c.args.name.now ∷ []))
    go true =
        let count = c.len.ensures.count in
        let many = c.if-len-lt-FEW_NAMES.false in
        later_more c.args.later.now c.insert.new.self c.args.names.now c.args.name (omega (arith, count, many)) c.requires c.in-Ok.ensures.updates
    go false = tt
