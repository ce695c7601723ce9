-- The articles of lines, one more after the other.
use Rattle.std.proofs.Common.{◌≡◌, ◌+◌, Bool, true, false, cond, ◌&&◌, ◌||◌, ◌==◌, List, [], ◌∷◌, ◌++◌, length, map, None, Some, refl, ap, ◌∙◌, append-nil}
use Rattle.std.specs.List.{cons_option, list_any}
use Rattle.std.proofs.lemmas.Bool.{true≢false}
use Rattle.std.proofs.lemmas.List.{length_push, map_push}
use Rattle.std.proofs.lemmas.List.Elements.{filter_map-append}
use Rattle.overview_lines.specs.OverLine.{Over}
use Rattle.overview_index.specs.Group.{Counted, Key, counted, counted_in, each_once, has_key, key_of, keys_of, number_of, parts_of, same_key, same_part}
use Rattle.overview_index.proofs.Keys.{list_any_agree, same_key-Decides, same_part-sym}
use Rattle.overview_index.proofs.Once.{each_once-push, list_any-each_once}

pub counted_more : (lines : List Over) (line : Over) (a : Counted) → counted line ≡ Some a → counted_in (lines ++ line ∷ []) ≡ counted_in lines ++ a ∷ []
counted_more lines line a is = filter_map-append counted lines (line ∷ []) ∙ ap (λ o. counted_in lines ++ cons_option o []) is

pub counted_same : (lines : List Over) (line : Over) → counted line ≡ None → counted_in (lines ++ line ∷ []) ≡ counted_in lines
counted_same lines line is = filter_map-append counted lines (line ∷ []) ∙ ap (λ o. counted_in lines ++ cons_option o []) is ∙ append-nil (counted_in lines)

any_mapped : {A B : Type 0} (f : A → B) (p : B → Bool) (xs : List A) → list_any p (map f xs) ≡ list_any (λ x. p (f x)) xs
any_mapped f p [] = refl
any_mapped f p (x ∷ xs) = ap (λ b. p (f x) || b) (any_mapped f p xs)

-- an article's key is among the keys of some articles where one of them has it
pub key_there : (articles : List Counted) (k : Key) → list_any (λ x. same_key x k) (keys_of articles) ≡ list_any (λ other. same_key (key_of other) k) articles
key_there articles k =
    list_any-each_once same_key (λ x. same_key x k) (λ x y e. ap (λ z. same_key z k) ((same_key-Decides x y).0 e)) (map key_of articles)
    ∙ any_mapped key_of (λ x. same_key x k) articles

keys_pushed : (articles : List Counted) (a : Counted) → keys_of (articles ++ a ∷ []) ≡ keys_of articles ++ cond (list_any (λ other. has_key (key_of other) a) articles) [] (key_of a ∷ [])
keys_pushed articles a =
    ap (each_once same_key) (map_push key_of articles a) ∙ each_once-push same_key (map key_of articles) (key_of a)
    ∙ ap (λ b. keys_of articles ++ cond b [] (key_of a ∷ [])) (any_mapped key_of (λ x. same_key x (key_of a)) articles)

pub keys_stay : (articles : List Counted) (a : Counted) → list_any (λ other. has_key (key_of other) a) articles ≡ true → keys_of (articles ++ a ∷ []) ≡ keys_of articles
keys_stay articles a there = keys_pushed articles a ∙ ap (λ b. keys_of articles ++ cond b [] (key_of a ∷ [])) there ∙ append-nil (keys_of articles)

pub keys_more : (articles : List Counted) (a : Counted) → list_any (λ other. has_key (key_of other) a) articles ≡ false → keys_of (articles ++ a ∷ []) ≡ keys_of articles ++ key_of a ∷ []
keys_more articles a absent = keys_pushed articles a ∙ ap (λ b. keys_of articles ++ cond b [] (key_of a ∷ [])) absent

pub parts_stay : (articles : List Counted) (a : Counted) → list_any (λ other. same_part other a) articles ≡ true → length (parts_of (articles ++ a ∷ [])) ≡ length (parts_of articles)
parts_stay articles a there = ap length (each_once-push same_part articles a ∙ ap (λ b. parts_of articles ++ cond b [] (a ∷ [])) there ∙ append-nil (parts_of articles))

pub parts_more : (articles : List Counted) (a : Counted) → list_any (λ other. same_part other a) articles ≡ false → length (parts_of (articles ++ a ∷ [])) ≡ length (parts_of articles) + 1
parts_more articles a absent = ap length (each_once-push same_part articles a ∙ ap (λ b. parts_of articles ++ cond b [] (a ∷ [])) absent) ∙ length_push (parts_of articles) a

-- an article of a file that isn't there is a part that isn't there
pub part_absent : (articles : List Counted) (a : Counted) → list_any (λ other. has_key (key_of other) a) articles ≡ false → list_any (λ other. same_part other a) articles ≡ false
part_absent [] a absent = refl
part_absent (x ∷ xs) a absent = by (has_key (key_of x) a) (part_absent xs a) absent
  where
    by : (b : Bool) → (list_any (λ other. has_key (key_of other) a) xs ≡ false → list_any (λ other. same_part other a) xs ≡ false) → (b || list_any (λ other. has_key (key_of other) a) xs) ≡ false
        → (b && (number_of x == number_of a) || list_any (λ other. same_part other a) xs) ≡ false
    by true rest h = absurd (true≢false h)
    by false rest h = rest h

-- which part an article is, said from the article
pub part_said : (articles : List Counted) (a : Counted) → list_any (λ other. same_part other a) articles ≡ list_any (λ other. has_key (key_of a) other && (number_of other == number_of a)) articles
part_said articles a = list_any_agree (λ other. same_part other a) (λ other. has_key (key_of a) other && (number_of other == number_of a)) (λ other. same_part-sym other a) articles
