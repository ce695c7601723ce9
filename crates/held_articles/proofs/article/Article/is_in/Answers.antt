-- The test of each piece.
use Rattle.std.proofs.Common.{rules, ℕ, List, ◌==◌, ◌∙◌, ap}
use Rattle.std.specs.List.{list_any}
use Rattle.std.specs.Str.{bytes_eq}
use Rattle.std.proofs.lemmas.Iterator.Search.{any_from_yields_List}
use Rattle.std.proofs.lemmas.Iterator.Splits.{YieldsList-from_slice_split}
use Rattle.article_head.specs.Field.{names_of}
use Rattle.held_articles.specs.Articles.{in_group}
use Rattle.held_articles.proofs.article.Article.is_in.Goals as goal

pub returns : goal.returns
unfolding in_group
returns c =
    any_from_yields_List (λ own. bytes_eq own c.args.name.now) _ _ _ c.any.ensures.ran
    (YieldsList-from_slice_split _ (λ byte. byte == 44) c.as_slice.result.now c.split.ensures.rest c.split.ensures.done c.split.ensures.closure (λ x b q k. search rules))
    (λ x b q k. search rules)
    ∙ ap (λ (text : List ℕ). list_any (λ own. bytes_eq own c.args.name.now) (names_of text)) c.as_slice.ensures
