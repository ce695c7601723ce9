-- The numbers of a newsgroup's articles, counted one after the other.
use Rattle.std.proofs.Common.{◌≡◌, ℕ, ◌+◌, ◌≤◌, List, [], ◌∷◌, Some, None, length, drop, map, refl, sym, ◌∙◌, ap, arith}
use Rattle.std.specs.Prelude.{Option, filter, fold, min, max}
use Rattle.std.specs.List.{enumerate_from}
use Rattle.std.proofs.Math.ListN.{drop_of_length-le}
use Rattle.nntp_lines.specs.declared.group.GroupReply.{GroupReply}
use Rattle.held_articles.specs.declared.article.Article.{Article}
use Rattle.held_articles.specs.Articles.{in_group}
use Rattle.news_spool.specs.Groups.{count_of, group_count, with_number}

-- the numbers of the articles in a newsgroup, of which the first has this number
abbrev pub numbers_from : ℕ → List ℕ → List Article → List ℕ
numbers_from number name articles = map (λ entry. entry.0) (filter (λ entry. in_group name entry.1) (enumerate_from number articles))

abbrev pub with_more : Option GroupReply → ℕ → Option GroupReply
with_more found number = Some (with_number found number)

abbrev told : (count low high : ℕ) → GroupReply
told count low high = record { count = count; low = low; high = high }

counts_on : (count low high : ℕ) (numbers : List ℕ) →
    fold with_more (Some (told count low high)) numbers ≡ Some (told (count + length numbers) (fold min low numbers) (fold max high numbers))
counts_on count low high [] = ap (λ (n : ℕ). Some (told n low high)) (omega arith)
counts_on count low high (number ∷ numbers) =
    counts_on (count + 1) (min low number) (max high number) numbers
    ∙ ap (λ (n : ℕ). Some (told n (fold min (min low number) numbers) (fold max (max high number) numbers))) (omega arith)

pub counts_all : (numbers : List ℕ) → fold with_more None numbers ≡ count_of numbers
counts_all [] = refl
counts_all (number ∷ numbers) =
    counts_on 1 number number numbers
    ∙ ap (λ (n : ℕ). Some (told n (fold min number numbers) (fold max number numbers))) (omega arith)

-- none is left behind the last
pub counted : (name : List ℕ) (articles : List Article) (i : ℕ) (found : Option GroupReply) → length articles ≤ i
    → fold with_more found (numbers_from (i + 1) name (drop i articles)) ≡ fold with_more None (numbers_from 1 name articles) → found ≡ group_count name articles
counted name articles i found past left =
    ap (λ (rest : List Article). fold with_more found (numbers_from (i + 1) name rest)) (sym (drop_of_length-le articles past))
    ∙ left ∙ counts_all (numbers_from 1 name articles)
