-- The articles that are made, and those of a file.
use Rattle.std.proofs.Common.{◌≡◌, ◌+◌, ℕ, suc, List, [], ◌∷◌, length, map, take, drop, Some, refl, ap, sym, subst, ◌∙◌}
use Rattle.std.specs.Prelude.{min}
use Rattle.std.proofs.lemmas.List.{length-drop, take_min}
use Rattle.dot_blocks.specs.Blocks.{stuffed}
use Rattle.yenc_body.specs.Parts.{part_bytes, part_place}
use Rattle.poster.specs.Article.{Article, AreArticlesFrom, IsArticle, lines_of}
use Rattle.poster.specs.Said.{Made, IsMade, AreMade, blocks_of}
use Rattle.poster.specs.SessionLaws.{EachArticleOnce, MadeArticlesAreTheFiles}
use Rattle.poster.specs.declared.settings.Settings.{Settings}

pub article_each_once : EachArticleOnce
article_each_once [] = refl
article_each_once (block ∷ blocks) = ap (λ (l : List (List ℕ)). block ∷ l) (article_each_once blocks)

-- the bytes of a part that was made are those of the file
bytes_are : (s : Settings) (file : List ℕ) (part : ℕ) (made : Made) → (m : IsMade s (length file) (Some file) part made) → m.bytes ≡ part_bytes file s.part_size part
bytes_are s file part made m =
    let rest : List ℕ = drop (part_place s.part_size part) file in
    let long : length m.bytes ≡ min s.part_size (length rest) = m.length_is ∙ ap (λ n. min s.part_size n) (sym (length-drop (part_place s.part_size part) file)) in
    m.told ∙ ap (λ n. take n rest) long ∙ take_min s.part_size rest

-- the articles of some parts that were made
pub record MadeFrom (part : ℕ) (s : Settings) (file : List ℕ) (mades : List Made) : Type 0 where
  pub articles : List Article
  pub count : length articles ≡ length mades
  pub each : AreArticlesFrom part s file articles
  pub blocks : blocks_of mades ≡ map (λ (a : Article). stuffed (lines_of a)) articles

made_from : (part : ℕ) (s : Settings) (file : List ℕ) (mades : List Made) → AreMade s (length file) (Some file) part mades → MadeFrom part s file mades
made_from part s file [] are = record { articles = []; count = refl; each = tt; blocks = refl }
made_from part s file (made ∷ mades) are =
    let rest = made_from (part + 1) s file mades are.1 in
    record {
      articles = are.0.article ∷ rest.articles;
      count = ap suc rest.count;
      each = (subst (λ (bytes : List ℕ). IsArticle s (length file) part bytes are.0.article) (bytes_are s file part made are.0) are.0.is_article, rest.each);
      blocks = ap (λ b. b ∷ blocks_of mades) are.0.block_is ∙ ap (λ (l : List (List ℕ)). stuffed (lines_of are.0.article) ∷ l) rest.blocks;
    }

pub made_are_the_files : MadeArticlesAreTheFiles
made_are_the_files s file mades are count =
    let from = made_from 1 s file mades are in
    (from.articles, record { count = from.count ∙ count; each = from.each }, from.blocks)
