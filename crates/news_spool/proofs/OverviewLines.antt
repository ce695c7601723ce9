-- The line of an article in an overview, as it is appended field by field, and as it stands in a block.
use Rattle.std.proofs.Common.{◌≡◌, ℕ, ◌+◌, ◌<◌, ◌^◌, true, List, [], ◌∷◌, ◌++◌, Some, length, drop, get_or, refl, sym, ◌∙◌, ap, arith, append_assoc}
use Rattle.std.specs.Prelude.{codes, decimal, slice_get}
use Rattle.std.proofs.lemmas.Bool.{ne_eqb}
use Rattle.std.proofs.lemmas.Fmt.{first_decimal}
use Rattle.dot_blocks.specs.Blocks.{stuffed, stuffed_line}
use Rattle.held_articles.specs.declared.article.Article.{Article}
use Rattle.held_articles.specs.Articles.{in_group}
use Rattle.held_articles.specs.Octets.{octets_of}
use Rattle.news_spool.specs.Overview.{field_text, overview_of, overviews_from}
use Rattle.held_articles.proofs.Places.{from_place}

grouped : (z a b c d e f g h i j k : List ℕ) → (((((((((((z ++ a) ++ b) ++ c) ++ d) ++ e) ++ f) ++ g) ++ h) ++ i) ++ j) ++ k)
    ≡ z ++ (a ++ (b ++ (c ++ (d ++ (e ++ (f ++ (g ++ (h ++ (i ++ (j ++ k))))))))))
grouped z a b c d e f g h i j k = simp append_assoc

-- the fields one after the other, with TABs between
pub fields_joined : (number octets len : ℕ) (article : Article) (id date old o0 o1 o2 o3 o4 o5 o6 o7 o8 o9 o10 : List ℕ) →
    o0 ≡ old ++ decimal number → o1 ≡ o0 ++ 9 ∷ field_text (codes "Subject: ") article.head → o2 ≡ o1 ++ 9 ∷ field_text (codes "From: ") article.head
    → o3 ≡ o2 ++ codes "\t" → o4 ≡ o3 ++ date → o5 ≡ o4 ++ codes "\t<" → o6 ≡ o5 ++ id → o7 ≡ o6 ++ codes ">\t\t" → o8 ≡ o7 ++ decimal octets
    → o9 ≡ o8 ++ codes "\t" → o10 ≡ o9 ++ decimal len → id ≡ article.id → octets ≡ octets_of article → len ≡ length article.body
    → o10 ≡ old ++ overview_of number article date
unfolding overview_of
fields_joined number octets len article id date old o0 o1 o2 o3 o4 o5 o6 o7 o8 o9 o10 e0 e1 e2 e3 e4 e5 e6 e7 e8 e9 e10 i o l =
    let flat = grouped old (decimal number) (9 ∷ field_text (codes "Subject: ") article.head) (9 ∷ field_text (codes "From: ") article.head) (codes "\t") date
    (codes "\t<") article.id (codes ">\t\t") (decimal (octets_of article)) (codes "\t") (decimal (length article.body)) in
    rw (e10, e9, e8, e7, e6, e5, e4, e3, e2, e1, e0, i, o, l)
    (flat ∙ ap (λ (t : List ℕ). old ++ (decimal number ++ 9 ∷ (field_text (codes "Subject: ") article.head ++ 9 ∷ (field_text (codes "From: ") article.head ++ 9 ∷ (date ++ 9 ∷ 60 ∷ t)))))
    (sym (append_assoc article.id (62 ∷ []) (9 ∷ 9 ∷ (decimal (octets_of article) ++ 9 ∷ decimal (length article.body))))))

-- ---- as it stands in a block

undotted : (text rest : List ℕ) → 46 < get_or text 0 0 → stuffed_line (text ++ rest) ≡ text ++ rest
undotted [] rest first = absurd (omega arith)
undotted (x ∷ text) rest first = let other = ne_eqb x 46 (λ is. absurd (omega (arith, is))) in rw other refl

-- it begins with a digit, so no dot is added
as_it_is : (number : ℕ) (article : Article) (date : List ℕ) → 0 < number → number < 2 ^ 64 → stuffed_line (overview_of number article date) ≡ overview_of number article date
unfolding overview_of
as_it_is number article date some fits = undotted (decimal number) _ (omega (arith, first_decimal number some fits))

-- the line of the article at a place is written
pub line_written : (number i : ℕ) (name date old new : List ℕ) (articles : List Article) (article : Article) → slice_get articles i ≡ Some article
    → in_group name article ≡ true → 0 < number + i → number + i < 2 ^ 64 → new ≡ (old ++ overview_of (number + i) article date) ++ 13 ∷ 10 ∷ []
    → new ++ stuffed (overviews_from (number + (i + 1)) name date (drop (i + 1) articles)) ≡ old ++ stuffed (overviews_from (number + i) name date (drop i articles))
line_written number i name date old new articles article is own some fits one =
    let next : number + (i + 1) ≡ number + i + 1 = omega arith in
    let line = overview_of (number + i) article date in
    let rest = stuffed (overviews_from (number + i + 1) name date (drop (i + 1) articles)) in
    rw (from_place articles i article is, own, next, as_it_is (number + i) article date some fits, one)
    (append_assoc (old ++ line) (13 ∷ 10 ∷ []) rest ∙ append_assoc old line (13 ∷ 10 ∷ rest))
