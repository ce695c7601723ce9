-- The message-ids of articles, as the keys of a set in the same order.
use Rattle.std.proofs.Common.{◌≡◌, ℕ, ◌+◌, Bool, true, false, ◌||◌, cond, List, [], ◌∷◌, ◌++◌, Some, None, length, take, map, refl, sym, ◌∙◌, ap}
use Rattle.std.specs.Prelude.{Vec, if◌then◌else◌, not, nat_lt, position}
use Rattle.std.specs.Bool.{Decides}
use Rattle.std.specs.List.{list_any, prefix_len}
use Rattle.std.specs.Str.{bytes_eq}
use Rattle.std.proofs.lemmas.List.{length-map, map-append, take-map}
use Rattle.std.proofs.lemmas.Slice.Eq.{bytes_eq-Decides}
use Rattle.indexmap.specs.IndexSet.{insert_key}
use Rattle.held_articles.specs.declared.article.Article.{Article}
use Rattle.held_articles.specs.Articles.{is_known}
use Rattle.held_articles.specs.ById.{AreIdsOf, place_of}

-- tests of one fact are one
same_test : {P Q : Type 0} (r t : Bool) → Decides r P → Decides t Q → (P → Q) → (Q → P) → r ≡ t
same_test true true d k f g = refl
same_test true false d k f g = let e : false ≡ true = k.1 (f (d.0 refl)) in cc
same_test false true d k f g = let e : false ≡ true = d.1 (g (k.0 refl)) in cc
same_test false false d k f g = refl

eq_flips : (a b : List ℕ) → bytes_eq a b ≡ bytes_eq b a
eq_flips a b = same_test (bytes_eq a b) (bytes_eq b a) (bytes_eq-Decides a b) (bytes_eq-Decides b a) sym sym

-- ---- a test of the text of each is a test of the texts

any_text : {X : Type 0} (test : List ℕ → Bool) (text : X → List ℕ) (xs : List X) → list_any (λ x. test (text x)) xs ≡ list_any test (map text xs)
any_text test text [] = refl
any_text test text (x ∷ xs) = ap (λ (b : Bool). test (text x) || b) (any_text test text xs)

prefix_text : {X : Type 0} (test : List ℕ → Bool) (text : X → List ℕ) (xs : List X) → prefix_len (λ x. not (test (text x))) xs ≡ prefix_len (λ t. not (test t)) (map text xs)
prefix_text test text [] = refl
prefix_text test text (x ∷ xs) = ap (λ (n : ℕ). cond (not (test (text x))) (1 + n) 0) (prefix_text test text xs)

position_text : {X : Type 0} (test : List ℕ → Bool) (text : X → List ℕ) (xs : List X) → position (λ x. test (text x)) xs ≡ position test (map text xs)
position_text test text xs =
    ap (λ (n : ℕ). cond (nat_lt n (length xs)) (Some n) None) (prefix_text test text xs)
    ∙ ap (λ (len : ℕ). cond (nat_lt (prefix_len (λ t. not (test t)) (map text xs)) len) (Some (prefix_len (λ t. not (test t)) (map text xs))) None) (sym (length-map xs text))

-- ---- the keys and the articles

pub known_among : {Z : Type 0} (id : List ℕ) (articles : List Article) (keys : List (Vec ℕ Z)) → AreIdsOf articles keys
    → list_any (λ key. bytes_eq id key.items) keys ≡ is_known id articles
known_among id articles keys are =
    any_text (bytes_eq id) (λ key. key.items) keys ∙ ap (list_any (bytes_eq id)) are ∙ sym (any_text (bytes_eq id) (λ article. article.id) articles)
    ∙ ap (λ (test : Article → Bool). list_any test articles) (λ j. λ article. eq_flips id article.id j)

pub place_among : {Z : Type 0} (id : List ℕ) (articles : List Article) (keys : List (Vec ℕ Z)) → AreIdsOf articles keys
    → position (λ key. bytes_eq id key.items) keys ≡ place_of id articles
place_among id articles keys are =
    position_text (bytes_eq id) (λ key. key.items) keys ∙ ap (position (bytes_eq id)) are ∙ sym (position_text (bytes_eq id) (λ article. article.id) articles)
    ∙ ap (λ (test : Article → Bool). position test articles) (λ j. λ article. eq_flips id article.id j)

-- one more
one_more : {Z : Type 0} (articles : List Article) (keys more : List (Vec ℕ Z)) (article : Article) (key : Vec ℕ Z) → AreIdsOf articles keys → key.items ≡ article.id
    → more ≡ keys ++ key ∷ [] → AreIdsOf (articles ++ article ∷ []) more
one_more articles keys more article key are own is =
    ap (map (λ key. key.items)) is ∙ map-append (λ key. key.items) keys (key ∷ [])
    ∙ ap (λ (ids : List (List ℕ)). ids ++ key.items ∷ []) are ∙ ap (λ (id : List ℕ). map (λ article. article.id) articles ++ id ∷ []) own
    ∙ sym (map-append (λ article. article.id) articles (article ∷ []))

-- one more that is put into the set, as none has its message-id
pub one_put : {Z : Type 0} (articles : List Article) (keys more : List (Vec ℕ Z)) (article : Article) (key : Vec ℕ Z) → AreIdsOf articles keys → key.items ≡ article.id
    → is_known article.id articles ≡ false → more ≡ insert_key (λ a b. bytes_eq a.items b.items) keys key → AreIdsOf (articles ++ article ∷ []) more
one_put articles keys more article key are own unknown is =
    let none : list_any (λ other. bytes_eq key.items other.items) keys ≡ false =
    known_among key.items articles keys are ∙ ap (λ (id : List ℕ). is_known id articles) own ∙ unknown in
    one_more articles keys more article key are own (is ∙ ap (λ (b : Bool). if b then keys else keys ++ key ∷ []) none)

-- the first ones
pub first_ones : {Z : Type 0} (articles : List Article) (keys : List (Vec ℕ Z)) (n : ℕ) → AreIdsOf articles keys → AreIdsOf (take n articles) (take n keys)
first_ones articles keys n are =
    sym (take-map (λ key. key.items) n keys) ∙ ap (take n) are ∙ take-map (λ article. article.id) n articles
