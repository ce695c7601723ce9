-- The laws of a post's session.
use Rattle.std.specs.Prelude.{◌≡◌, ℕ, List, [], ◌∷◌, ◌++◌, length, map, Some}
use Rattle.dot_blocks.specs.Blocks.{stuffed}
use Rattle.yenc_body.specs.Parts.{parts_of}
use Rattle.link_dialog.specs.declared.awaited.Awaited.{Awaited}
use Rattle.link_dialog.specs.declared.awaited.Awaited.TheVariants.{Article as TheArticle}
use Rattle.link_dialog.specs.Dialog.{Message}
use Rattle.link_dialog.specs.Talk.{quit_message}
use Rattle.poster.specs.Article.{Article, AreArticles, lines_of}
use Rattle.poster.specs.Said.{Made, AreMade, blocks_of, messages_of}
use Rattle.poster.specs.declared.settings.Settings.{Settings}

-- the blocks of the articles among some messages
abbrev pub article_in : Awaited → List ℕ → List (List ℕ)
article_in TheArticle bytes = bytes ∷ []
article_in other bytes = []

abbrev pub articles_said : List Message → List (List ℕ)
articles_said [] = []
articles_said (message ∷ messages) = article_in message.kind message.bytes ++ articles_said messages

-- in what is said to post some articles, each stands once, in order
abbrev pub EachArticleOnce : Type 0
EachArticleOnce = (blocks : List (List ℕ)) → articles_said (messages_of blocks ++ quit_message ∷ []) ≡ blocks

-- articles that were made for all parts of a file that is told are the articles of that file
abbrev pub MadeArticlesAreTheFiles : Type 0
MadeArticlesAreTheFiles = (s : Settings) (file : List ℕ) (mades : List Made) → AreMade s (length file) (Some file) 1 mades → length mades ≡ parts_of (length file) s.part_size →
    (articles : List Article) × AreArticles s file articles × (blocks_of mades ≡ map (λ (a : Article). stuffed (lines_of a)) articles)
