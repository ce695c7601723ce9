-- The test of each piece.
use Rattle.std.proofs.Common.{rules, ◌==◌}
use Rattle.std.proofs.lemmas.Iterator.Search.{all_from_yields_List}
use Rattle.std.proofs.lemmas.Iterator.Splits.{YieldsList-from_slice_split}
use Rattle.nntp_lines.specs.GroupName.{is_group_byte}
use Rattle.article_head.specs.Field.{is_word}
use Rattle.held_articles.proofs.field.are_newsgroups.Goals as goal

pub returns : goal.returns
returns c =
    all_from_yields_List (is_word is_group_byte 200) _ _ _ c.all.ensures.ran
    (YieldsList-from_slice_split _ (λ byte. byte == 44) c.args.text.now c.split.ensures.rest c.split.ensures.done c.split.ensures.closure (λ x b q k. search rules))
    (λ x b q k. search rules)
