-- Words as pairs, one pair after another.
use Rattle.std.proofs.Common.{◌≡◌, ◌≤◌, ◌<◌, ℕ, zero, suc, ◌+◌, Bool, true, false, List, [], ◌∷◌, ◌++◌, length, get_or, take, drop, map, Option, None, Some, Ok, Err, refl, sym, ◌∙◌, ap, arith, append_assoc, drop-cons, length-append, subst}
use Rattle.std.specs.Prelude.{is_some, if◌then◌else◌, nat_le, ◌||◌}
use Rattle.std.specs.Str.{bytes_eq}
use Rattle.std.proofs.lemmas.Bool.{cond-false, cond-true, le-leb, leb-true}
use Rattle.std.proofs.lemmas.Bool.Decides.{nat_tests}
use Rattle.std.proofs.Math.Seq.{take-add}
use Rattle.std.proofs.lemmas.List.{drop_all, drop-drop, length-map, take_all}
use Rattle.std.proofs.lemmas.Slice.Eq.{bytes_eq-Decides}
use Rattle.command_words.specs.Asked.{ChecksPair, paired}
use Rattle.command_words.specs.Keys.{Key, is_next_key, is_taken, key_of, may_stand, pairs_of, stands_as_key, value_of, values_of}

-- ---- the words from an index on

pub drop_one : (words : List (List ℕ)) (at : ℕ) → at < length words → drop at words ≡ get_or words at [] ∷ drop (at + 1) words
drop_one words at lt = drop-cons words at [] lt ∙ (let e : suc at ≡ at + 1 = omega arith in ap (λ k. get_or words at [] ∷ drop k words) e)

pub drop_two : (words : List (List ℕ)) (at : ℕ) → at + 1 < length words → drop at words ≡ get_or words at [] ∷ get_or words (at + 1) [] ∷ drop (at + 2) words
drop_two words at lt =
    drop_one words at (omega arith) ∙ ap (λ l. get_or words at [] ∷ l) (drop_one words (at + 1) lt)
    ∙ (let e : at + 1 + 1 ≡ at + 2 = omega arith in ap (λ k. get_or words at [] ∷ get_or words (at + 1) [] ∷ drop k words) e)

take_two : (words : List (List ℕ)) (at : ℕ) → at + 1 < length words → take (at + 2) words ≡ take at words ++ get_or words at [] ∷ get_or words (at + 1) [] ∷ []
take_two words at lt = take-add at 2 words ∙ ap (λ l. take at words ++ take 2 l) (drop_two words at lt)

-- the text at an index of words
pub word_at : {X : Type 0} (f : X → List ℕ) (xs : List X) (i : ℕ) (x : X) (text : List ℕ) → i < length xs → x ≡ get_or xs i x → text ≡ f x → get_or (map f xs) i [] ≡ text
word_at f [] i x text lt is text_is = absurd (omega arith)
word_at f (y ∷ xs) zero x text lt is text_is = ap f (sym is) ∙ sym text_is
word_at f (y ∷ xs) (suc i) x text lt is text_is = word_at f xs i x text (omega arith) is text_is

pub next : {X : Type 0} (f : X → List ℕ) (xs : List X) (i : ℕ) (x : X) (text : List ℕ) → i < length xs → x ≡ get_or xs i x → text ≡ f x → drop i (map f xs) ≡ text ∷ drop (i + 1) (map f xs)
next f xs i x text lt is text_is = drop_one (map f xs) i (omega (arith, lt, length-map xs f)) ∙ ap (λ t. t ∷ drop (i + 1) (map f xs)) (word_at f xs i x text lt is text_is)

pub next_two : {X : Type 0} (f : X → List ℕ) (xs : List X) (i : ℕ) (x : X) (text : List ℕ) → i + 1 < length xs → x ≡ get_or xs i x → text ≡ f x → drop i (map f xs) ≡ text ∷ get_or (map f xs) (i + 1) [] ∷ drop (i + 2) (map f xs)
next_two f xs i x text lt is text_is =
    drop_two (map f xs) i (omega (arith, lt, length-map xs f)) ∙ ap (λ t. t ∷ get_or (map f xs) (i + 1) [] ∷ drop (i + 2) (map f xs)) (word_at f xs i x text (omega arith) is text_is)

-- ---- the value of a key

pub found : (key : List ℕ) (words : List (List ℕ)) (text value : List ℕ) (rest : List (List ℕ)) → words ≡ text ∷ value ∷ rest → true ≡ bytes_eq key text → value_of key (paired words) ≡ Some value
found key words text value rest are same = ap (λ l. value_of key (paired l)) are ∙ (rw (sym same) refl)

pub passed : (key : List ℕ) (words : List (List ℕ)) (text value : List ℕ) (rest : List (List ℕ)) → words ≡ text ∷ value ∷ rest → false ≡ bytes_eq key text → value_of key (paired words) ≡ value_of key (paired rest)
passed key words text value rest are other = ap (λ l. value_of key (paired l)) are ∙ (rw (sym other) refl)

pub no_value : (key : List ℕ) (words : List (List ℕ)) (at : ℕ) → length words ≤ at + 1 → value_of key (paired (drop at words)) ≡ None
no_value key [] at le = ap (λ l. value_of key (paired l)) (drop_all at [] (omega arith))
no_value key (word ∷ []) zero le = refl
no_value key (word ∷ value ∷ words) zero le = absurd (omega arith)
no_value key (word ∷ words) (suc at) le = no_value key words at (omega arith)

pub stands : (key : List ℕ) (words : List (List ℕ)) (text : List ℕ) (rest : List (List ℕ)) → words ≡ text ∷ rest → true ≡ bytes_eq key text → stands_as_key key words ≡ true
stands key words text [] are same = ap (stands_as_key key) are ∙ sym same
stands key words text (value ∷ rest) are same = ap (stands_as_key key) are ∙ (rw (sym same) refl)

pub stands_later : (key : List ℕ) (words : List (List ℕ)) (text : List ℕ) (rest : List (List ℕ)) → words ≡ text ∷ rest → false ≡ bytes_eq key text → stands_as_key key words ≡ stands_as_key key (drop 1 rest)
stands_later key words text [] are other = ap (stands_as_key key) are ∙ sym other
stands_later key words text (value ∷ rest) are other = ap (stands_as_key key) are ∙ (rw (sym other) refl)

pub drop_next : (words : List (List ℕ)) (at : ℕ) → drop 1 (drop (at + 1) words) ≡ drop (at + 2) words
drop_next words at = drop-drop 1 (at + 1) words ∙ (let e : at + 1 + 1 ≡ at + 2 = omega arith in ap (λ k. drop k words) e)

-- ---- all values of a key

pub values_here : (key : List ℕ) (words : List (List ℕ)) (text value : List ℕ) (rest : List (List ℕ)) → words ≡ text ∷ value ∷ rest → true ≡ bytes_eq key text
    → values_of key (paired words) ≡ value ∷ values_of key (paired rest)
values_here key words text value rest are same = ap (λ l. values_of key (paired l)) are ∙ (rw (sym same) refl)

pub values_later : (key : List ℕ) (words : List (List ℕ)) (text value : List ℕ) (rest : List (List ℕ)) → words ≡ text ∷ value ∷ rest → false ≡ bytes_eq key text
    → values_of key (paired words) ≡ values_of key (paired rest)
values_later key words text value rest are other = ap (λ l. values_of key (paired l)) are ∙ (rw (sym other) refl)

pub no_values : (key : List ℕ) (words : List (List ℕ)) (at : ℕ) → length words ≤ at + 1 → values_of key (paired (drop at words)) ≡ []
no_values key [] at le = ap (λ l. values_of key (paired l)) (drop_all at [] (omega arith))
no_values key (word ∷ []) zero le = refl
no_values key (word ∷ value ∷ words) zero le = absurd (omega arith)
no_values key (word ∷ words) (suc at) le = no_values key words at (omega arith)

-- one more pair has one more value of its key, and none of another
values_more : (word : List ℕ) (pairs : List (List ℕ × List ℕ)) (key value : List ℕ) → bytes_eq word key ≡ true → values_of word (pairs ++ (key, value) ∷ []) ≡ values_of word pairs ++ value ∷ []
values_more word [] key value same = cond-true (bytes_eq word key) (value ∷ []) [] same
values_more word (pair ∷ pairs) key value same =
    elim (bytes_eq word pair.0) as (λ b. (if b then pair.1 ∷ values_of word (pairs ++ (key, value) ∷ []) else values_of word (pairs ++ (key, value) ∷ []))
    ≡ (if b then pair.1 ∷ values_of word pairs else values_of word pairs) ++ value ∷ []) [
      | true ↦ ap (λ l. pair.1 ∷ l) (values_more word pairs key value same)
      | false ↦ values_more word pairs key value same
    ]

values_stay : (word : List ℕ) (pairs : List (List ℕ × List ℕ)) (key value : List ℕ) → bytes_eq word key ≡ false → values_of word (pairs ++ (key, value) ∷ []) ≡ values_of word pairs
values_stay word [] key value other = cond-false (bytes_eq word key) (value ∷ []) [] other
values_stay word (pair ∷ pairs) key value other =
    elim (bytes_eq word pair.0) as (λ b. (if b then pair.1 ∷ values_of word (pairs ++ (key, value) ∷ []) else values_of word (pairs ++ (key, value) ∷ []))
    ≡ (if b then pair.1 ∷ values_of word pairs else values_of word pairs)) [
      | true ↦ ap (λ l. pair.1 ∷ l) (values_stay word pairs key value other)
      | false ↦ values_stay word pairs key value other
    ]

-- a key that has a value has one at least
pub one_value : (word : List ℕ) (pairs : List (List ℕ × List ℕ)) → is_some (value_of word pairs) ≡ true → 1 ≤ length (values_of word pairs)
one_value word [] some = cc
one_value word (pair ∷ pairs) some =
    elim (bytes_eq word pair.0) as (λ b. is_some (if b then Some pair.1 else value_of word pairs) ≡ true → 1 ≤ length (if b then pair.1 ∷ values_of word pairs else values_of word pairs)) [
      | true ↦ λ h. omega arith
      | false ↦ λ h. one_value word pairs h
    ] some

-- ---- one more pair

-- a word that is no next key is refused
pub refused_key : (keys : List Key) (number : ℕ) (pairs : List (List ℕ × List ℕ)) (key : List ℕ) (words : List (List ℕ)) → is_next_key keys pairs key ≡ false → pairs_of keys number pairs (key ∷ words) ≡ Err number
refused_key keys number pairs key [] is = rw is refl
refused_key keys number pairs key (value ∷ words) is = rw is refl

-- a value that isn't taken is refused
pub bad_value : (keys : List Key) (number : ℕ) (pairs : List (List ℕ × List ℕ)) (key value : List ℕ) (words : List (List ℕ)) → is_next_key keys pairs key ≡ true → is_taken (key_of keys key) (values_of key pairs) value ≡ false → pairs_of keys number pairs (key ∷ value ∷ words) ≡ Err (number + 1)
bad_value keys number pairs key value words is bad = rw (is, bad) refl

pub good_value : (keys : List Key) (number : ℕ) (pairs : List (List ℕ × List ℕ)) (key value : List ℕ) (words : List (List ℕ)) → is_next_key keys pairs key ≡ true → is_taken (key_of keys key) (values_of key pairs) value ≡ true → pairs_of keys number pairs (key ∷ value ∷ words) ≡ pairs_of keys (number + 2) (pairs ++ (key, value) ∷ []) words
good_value keys number pairs key value words is good = rw (is, good) refl

pub next_key : (keys : List Key) (pairs : List (List ℕ × List ℕ)) (word : List ℕ) (key : Key) → Some key ≡ key_of keys word → nat_le (length (values_of word pairs) + 1) key.most ≡ true → is_next_key keys pairs word ≡ true
next_key keys pairs word key known room = ap (λ k. may_stand k (length (values_of word pairs))) (sym known) ∙ room

pub repeated : (keys : List Key) (pairs : List (List ℕ × List ℕ)) (word : List ℕ) (key : Key) → Some key ≡ key_of keys word → nat_le (length (values_of word pairs) + 1) key.most ≡ false → is_next_key keys pairs word ≡ false
repeated keys pairs word key known full = ap (λ k. may_stand k (length (values_of word pairs))) (sym known) ∙ full

pub unknown : (keys : List Key) (pairs : List (List ℕ × List ℕ)) (word : List ℕ) → None ≡ key_of keys word → is_next_key keys pairs word ≡ false
unknown keys pairs word none = ap (λ k. may_stand k (length (values_of word pairs))) (sym none)

-- whether a key may stand once more, as the number of its values and the greatest one tell
pub has_room : (values times most greatest : ℕ) → values ≡ times → greatest ≡ most → times < greatest → nat_le (values + 1) most ≡ true
has_room values times most greatest times_are most_is less = le-leb (values + 1) most (omega (arith, times_are, most_is, less))

pub has_no_room : (values times most greatest : ℕ) → values ≡ times → greatest ≡ most → greatest ≤ times → nat_le (values + 1) most ≡ false
has_no_room values times most greatest times_are most_is full = let above : most ≤ values = omega (arith, times_are, most_is, full) in grind (arith, nat_tests, above)

-- ---- the same of words that go on so

pub refused_pair : (keys : List Key) (number : ℕ) (pairs : List (List ℕ × List ℕ)) (words : List (List ℕ)) (word : List ℕ) (rest : List (List ℕ)) → words ≡ word ∷ rest → is_next_key keys pairs word ≡ false → pairs_of keys number pairs words ≡ Err number
refused_pair keys number pairs words word rest are refused = ap (pairs_of keys number pairs) are ∙ refused_key keys number pairs word rest refused

pub bad_pair : (keys : List Key) (number : ℕ) (pairs : List (List ℕ × List ℕ)) (key : Key) (words : List (List ℕ)) (word value : List ℕ) (rest : List (List ℕ)) (text : List ℕ) → words ≡ word ∷ value ∷ rest → value ≡ text
    → Some key ≡ key_of keys word → nat_le (length (values_of word pairs) + 1) key.most ≡ true → false ≡ key.takes (values_of word pairs) text → pairs_of keys number pairs words ≡ Err (number + 1)
bad_pair keys number pairs key words word value rest text are is known room bad =
    ap (pairs_of keys number pairs) are
    ∙ bad_value keys number pairs word value rest (next_key keys pairs word key known room) (ap (λ k. is_taken k (values_of word pairs) value) (sym known) ∙ ap (key.takes (values_of word pairs)) is ∙ sym bad)

pub good_pair : (keys : List Key) (number : ℕ) (pairs : List (List ℕ × List ℕ)) (key : Key) (words : List (List ℕ)) (word value : List ℕ) (rest : List (List ℕ)) (first text : List ℕ) → words ≡ word ∷ value ∷ rest → first ≡ word → value ≡ text
    → Some key ≡ key_of keys word → nat_le (length (values_of word pairs) + 1) key.most ≡ true → true ≡ key.takes (values_of word pairs) text → pairs_of keys number pairs words ≡ pairs_of keys (number + 2) (pairs ++ (first, value) ∷ []) rest
good_pair keys number pairs key words word value rest first text are first_is is known room good =
    ap (pairs_of keys number pairs) are
    ∙ good_value keys number pairs word value rest (next_key keys pairs word key known room) (ap (λ k. is_taken k (values_of word pairs) value) (sym known) ∙ ap (key.takes (values_of word pairs)) is ∙ sym good)
    ∙ ap (λ w. pairs_of keys (number + 2) (pairs ++ (w, value) ∷ []) rest) (sym first_is)

-- ---- all pairs

-- The words from an index on go on from the pairs that the words before it are.
pub record SoFar (keys : List Key) (words : List (List ℕ)) (at : ℕ) : Type 0 where
  pub inside : at ≤ length words
  pub front : (rest : List (List ℕ)) → paired (take at words ++ rest) ≡ paired (take at words) ++ paired rest
  pub goes_on : pairs_of keys (at + 2) (paired (take at words)) (drop at words) ≡ pairs_of keys 2 [] words

pub begins : (keys : List Key) (words : List (List ℕ)) → SoFar keys words 0
begins keys words = record { inside = omega arith; front = λ rest. refl; goes_on = refl }

pub one_more : (keys : List Key) (words : List (List ℕ)) (at : ℕ) → SoFar keys words at → ChecksPair keys words at (Ok tt) → SoFar keys words (at + 2)
one_more keys words at so_far (inside, reads) =
    let key = get_or words at [] in
    let value = get_or words (at + 1) [] in
    let lt : at + 1 < length words = omega arith in
    let more : paired (take (at + 2) words) ≡ paired (take at words) ++ (key, value) ∷ [] = ap paired (take_two words at lt) ∙ so_far.front (key ∷ value ∷ []) in
    record {
      inside = inside;
      front = λ rest.
          ap (λ l. paired (l ++ rest)) (take_two words at lt) ∙ ap paired (append_assoc (take at words) (key ∷ value ∷ []) rest) ∙ so_far.front (key ∷ value ∷ rest)
          ∙ sym (append_assoc (paired (take at words)) ((key, value) ∷ []) (paired rest)) ∙ ap (λ l. l ++ paired rest) (sym more);
      goes_on = ap (λ l. pairs_of keys (at + 2 + 2) l (drop (at + 2) words)) more ∙ sym reads ∙ so_far.goes_on;
    }

pub all_pairs : (keys : List Key) (words : List (List ℕ)) (at : ℕ) → SoFar keys words at → length words ≤ at → pairs_of keys 2 [] words ≡ Ok (paired words)
all_pairs keys words at so_far end =
    sym so_far.goes_on ∙ ap (λ l. pairs_of keys (at + 2) (paired (take at words)) l) (drop_all at words end)
    ∙ ap (λ (l : List (List ℕ)). pairs_of keys (at + 2) (paired l) []) (take_all at words end)

-- ---- what taken pairs are

-- a pair that is taken has a next key and a value that this takes, and the others are taken behind it
record GoesOn (keys : List Key) (number : ℕ) (pairs all : List (List ℕ × List ℕ)) (key value : List ℕ) (words : List (List ℕ)) : Type 0 where
  next : is_next_key keys pairs key ≡ true
  taken : is_taken (key_of keys key) (values_of key pairs) value ≡ true
  rest : pairs_of keys (number + 2) (pairs ++ (key, value) ∷ []) words ≡ Ok all

goes_on : (keys : List Key) (number : ℕ) (pairs all : List (List ℕ × List ℕ)) (key value : List ℕ) (words : List (List ℕ)) → pairs_of keys number pairs (key ∷ value ∷ words) ≡ Ok all → GoesOn keys number pairs all key value words
goes_on keys number pairs all key value words are = chosen (is_next_key keys pairs key) (is_taken (key_of keys key) (values_of key pairs) value) refl refl are
  where
    chosen : (next taken : Bool) → is_next_key keys pairs key ≡ next → is_taken (key_of keys key) (values_of key pairs) value ≡ taken
        → (if next then (if taken then pairs_of keys (number + 2) (pairs ++ (key, value) ∷ []) words else Err (number + 1)) else Err number) ≡ Ok all → GoesOn keys number pairs all key value words
    chosen true true n t h = record { next = n; taken = t; rest = h }
    chosen true false n t h = cc
    chosen false taken n t h = cc

not_alone : (keys : List Key) (number : ℕ) (pairs all : List (List ℕ × List ℕ)) (word : List ℕ) → pairs_of keys number pairs (word ∷ []) ≡ Ok all → ⊥
not_alone keys number pairs all word =
    elim (is_next_key keys pairs word) as (λ b. (if b then Err (number + 1) else Err number) ≡ Ok all → ⊥) [ true ↦ λ h. cc | false ↦ λ h. cc ]

first_taken : (keys : List Key) (number : ℕ) (pairs all : List (List ℕ × List ℕ)) (words : List (List ℕ)) → pairs_of keys number pairs words ≡ Ok all
    → (key value : List ℕ) → values_of key pairs ≡ [] → value_of key (paired words) ≡ Some value → is_taken (key_of keys key) [] value ≡ true
first_taken keys number pairs all [] are key value none is = cc
first_taken keys number pairs all (word ∷ []) are key value none is = absurd (not_alone keys number pairs all word are)
first_taken keys number pairs all (word ∷ given ∷ words) are key value none is =
    let parts = goes_on keys number pairs all word given words are in
    elim (bytes_eq key word) as (λ b. bytes_eq key word ≡ b → (if b then Some given else value_of key (paired words)) ≡ Some value → is_taken (key_of keys key) [] value ≡ true) [
      | true ↦ λ same is.
          let e : key ≡ word = (bytes_eq-Decides key word).0 same in
          let f : given ≡ value = cc in
          let empty : values_of word pairs ≡ [] = ap (λ k. values_of k pairs) (sym e) ∙ none in
          ap (λ k. is_taken (key_of keys k) [] value) e ∙ ap (λ v. is_taken (key_of keys word) [] v) (sym f) ∙ ap (λ b. is_taken (key_of keys word) b given) (sym empty) ∙ parts.taken
      | false ↦ λ other is. first_taken keys (number + 2) (pairs ++ (word, given) ∷ []) all words parts.rest key value (values_stay key pairs word given other ∙ none) is
    ] refl is

-- the first value of a key is one that the key takes
pub values_taken : (keys : List Key) (words : List (List ℕ)) → pairs_of keys 2 [] words ≡ Ok (paired words) → (key value : List ℕ) → value_of key (paired words) ≡ Some value → is_taken (key_of keys key) [] value ≡ true
values_taken keys words are key value is = first_taken keys 2 [] (paired words) words are key value refl is

-- these values are taken one after the other, behind others
abbrev pub AreTaken : (List (List ℕ) → List ℕ → Bool) → List (List ℕ) → List (List ℕ) → Type 0
AreTaken takes before [] = Unit {0}
AreTaken takes before (value ∷ values) = (takes before value ≡ true) × AreTaken takes (before ++ value ∷ []) values

pub all_taken : (keys : List Key) (number : ℕ) (pairs all : List (List ℕ × List ℕ)) (words : List (List ℕ)) → pairs_of keys number pairs words ≡ Ok all
    → (word : List ℕ) (key : Key) → key_of keys word ≡ Some key → AreTaken key.takes (values_of word pairs) (values_of word (paired words))
all_taken keys number pairs all [] are word key known = tt
all_taken keys number pairs all (first ∷ []) are word key known = absurd (not_alone keys number pairs all first are)
all_taken keys number pairs all (first ∷ given ∷ words) are word key known =
    let parts = goes_on keys number pairs all first given words are in
    let later = all_taken keys (number + 2) (pairs ++ (first, given) ∷ []) all words parts.rest word key known in
    elim (bytes_eq word first) as (λ b. bytes_eq word first ≡ b → AreTaken key.takes (values_of word pairs) (if b then given ∷ values_of word (paired words) else values_of word (paired words))) [
      | true ↦ λ same.
          let e : word ≡ first = (bytes_eq-Decides word first).0 same in (
            ap (λ k. is_taken k (values_of word pairs) given) (sym known) ∙ ap (λ w. is_taken (key_of keys w) (values_of w pairs) given) e ∙ parts.taken,
            subst (λ before. AreTaken key.takes before (values_of word (paired words))) (values_more word pairs first given same) later,
          )
      | false ↦ λ other. subst (λ before. AreTaken key.takes before (values_of word (paired words))) (values_stay word pairs first given other) later
    ] refl

-- a key stands no more often than it may
pub all_stand : (keys : List Key) (number : ℕ) (pairs all : List (List ℕ × List ℕ)) (words : List (List ℕ)) → pairs_of keys number pairs words ≡ Ok all
    → (word : List ℕ) (key : Key) → key_of keys word ≡ Some key → length (values_of word pairs) ≤ key.most → length (values_of word pairs) + length (values_of word (paired words)) ≤ key.most
all_stand keys number pairs all [] are word key known most = omega (arith, most)
all_stand keys number pairs all (first ∷ []) are word key known most = absurd (not_alone keys number pairs all first are)
all_stand keys number pairs all (first ∷ given ∷ words) are word key known most =
    let parts = goes_on keys number pairs all first given words are in
    let later = all_stand keys (number + 2) (pairs ++ (first, given) ∷ []) all words parts.rest word key known in
    elim (bytes_eq word first) as (λ b. bytes_eq word first ≡ b → length (values_of word pairs) + length (if b then given ∷ values_of word (paired words) else values_of word (paired words)) ≤ key.most) [
      | true ↦ λ same.
          let e : word ≡ first = (bytes_eq-Decides word first).0 same in
          let room : nat_le (length (values_of word pairs) + 1) key.most ≡ true =
          ap (λ k. may_stand k (length (values_of word pairs))) (sym known) ∙ ap (λ w. may_stand (key_of keys w) (length (values_of w pairs))) e ∙ parts.next in
          let one_more : length (values_of word (pairs ++ (first, given) ∷ [])) ≡ length (values_of word pairs) + 1 =
          ap (λ l. length l) (values_more word pairs first given same) ∙ length-append (values_of word pairs) (given ∷ []) in
          let fits : length (values_of word pairs) + 1 ≤ key.most = leb-true (length (values_of word pairs) + 1) key.most room in
          let all_fit = later (omega (arith, one_more, fits)) in
          omega (arith, all_fit, one_more)
      | false ↦ λ other.
          let same_length : length (values_of word (pairs ++ (first, given) ∷ [])) ≡ length (values_of word pairs) = ap (λ l. length l) (values_stay word pairs first given other) in
          let all_fit = later (omega (arith, same_length, most)) in
          omega (arith, all_fit, same_length)
    ] refl

-- a word that stands as a key has a value
pub stands_with_value : (keys : List Key) (number : ℕ) (pairs all : List (List ℕ × List ℕ)) (words : List (List ℕ)) → pairs_of keys number pairs words ≡ Ok all
    → (key : List ℕ) → stands_as_key key words ≡ is_some (value_of key (paired words))
stands_with_value keys number pairs all [] are key = refl
stands_with_value keys number pairs all (word ∷ []) are key = absurd (not_alone keys number pairs all word are)
stands_with_value keys number pairs all (word ∷ given ∷ words) are key =
    let parts = goes_on keys number pairs all word given words are in
    elim (bytes_eq key word) as (λ b. (b || stands_as_key key words) ≡ is_some (if b then Some given else value_of key (paired words))) [
      | true ↦ refl
      | false ↦ stands_with_value keys (number + 2) (pairs ++ (word, given) ∷ []) all words parts.rest key
    ]
