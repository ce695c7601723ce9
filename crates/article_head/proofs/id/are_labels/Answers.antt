-- The test of each piece.
use Rattle.std.proofs.Common.{rules, ◌==◌}
use Rattle.std.proofs.lemmas.Iterator.Search.{all_from_yields_List}
use Rattle.std.proofs.lemmas.Iterator.Splits.{YieldsList-from_slice_split}
use Rattle.article_head.specs.PartId.{is_label_byte}
use Rattle.article_head.specs.Field.{is_word}
use Rattle.article_head.proofs.id.are_labels.Goals as goal
use Rattle.limits.specs.declared.TheConstants.{MOST_ID_BYTES}

pub returns : goal.returns
returns c =
    all_from_yields_List (is_word is_label_byte MOST_ID_BYTES) _ _ _ c.all.ensures.ran
    (YieldsList-from_slice_split _ (λ byte. byte == 46) c.args.text.now c.split.ensures.rest c.split.ensures.done c.split.ensures.closure (λ x b q k. search rules))
    (λ x b q k. search rules)
