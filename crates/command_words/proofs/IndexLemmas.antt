-- What the words of `index` ask for.
use Rattle.std.proofs.Common.{◌≡◌, ◌≤◌, ℕ, zero, suc, ◌+◌, ◌-◌, true, false, List, [], ◌∷◌, length, drop, Option, Some, None, Result, Ok, Err, refl, sym, ◌∙◌, ap, arith, subst, inl, inr}
use Rattle.std.specs.Prelude.{◌⊎◌, IfSome, codes, is_some, nat_le}
use Rattle.std.specs.Option.{option_and_then, unwrap_or}
use Rattle.std.specs.Str.{bytes_eq}
use Rattle.std.proofs.lemmas.List.{drop_all}
use Rattle.std.proofs.lemmas.Bool.{and_parts, cases_Bool, cond-false, cond-true, leb-true}
use Rattle.nntp_lines.specs.GroupName.{is_group_byte}
use Rattle.server_logins.proofs.ServerLaws.{server_from_test}
use Rattle.server_logins.proofs.WordTests.{word_from_test}
use Rattle.command_words.specs.Asked.{key_by, paired}
use Rattle.command_words.specs.Index.{IndexAsked, IsIndexAllowed, article_of, index_asked, index_keys, index_of, index_of_pairs, index_required, is_group, is_range, may_be_range, number_before}
use Rattle.command_words.specs.Keys.{Key, has_all, pairs_of, patience_of, text_of, value_of}
use Rattle.command_words.specs.declared.keys.Rule.TheVariants.{First, Group, Last, Number, Path, Server}
use Rattle.command_words.proofs.KeysLemmas.{values_taken}
use Rattle.command_words.proofs.PostLemmas.{there}
use Rattle.limits.specs.declared.TheConstants.{MOST_ARTICLE, MOST_PATIENCE}

-- ---- the number before another key

pub number_found : (key other : List ℕ) (words : List (List ℕ)) (text value : List ℕ) (rest : List (List ℕ)) → words ≡ text ∷ value ∷ rest → true ≡ bytes_eq key text
    → number_before key other words ≡ article_of value
number_found key other words text value rest are same = ap (number_before key other) are ∙ (rw (sym same) refl)

pub number_stopped : (key other : List ℕ) (words : List (List ℕ)) (text value : List ℕ) (rest : List (List ℕ)) → words ≡ text ∷ value ∷ rest → false ≡ bytes_eq key text
    → true ≡ bytes_eq other text → number_before key other words ≡ None
number_stopped key other words text value rest are differs same = ap (number_before key other) are ∙ (rw (sym differs, sym same) refl)

pub number_later : (key other : List ℕ) (words : List (List ℕ)) (text value : List ℕ) (rest : List (List ℕ)) → words ≡ text ∷ value ∷ rest → false ≡ bytes_eq key text
    → false ≡ bytes_eq other text → number_before key other words ≡ number_before key other rest
number_later key other words text value rest are differs differs_too = ap (number_before key other) are ∙ (rw (sym differs, sym differs_too) refl)

pub no_number : (key other : List ℕ) (words : List (List ℕ)) (at : ℕ) → length words ≤ at + 1 → number_before key other (drop at words) ≡ None
no_number key other [] at le = ap (number_before key other) (drop_all at [] (omega arith))
no_number key other (word ∷ []) zero le = refl
no_number key other (word ∷ value ∷ words) zero le = absurd (omega arith)
no_number key other (word ∷ words) (suc at) le = no_number key other words at (omega arith)

-- ---- the keys

abbrev table : Option ℕ → Option ℕ → List Key
table last first =
    key_by (codes "--server") Server
    ∷ key_by (codes "--group") Group
    ∷ key_by (codes "--first") (First last)
    ∷ key_by (codes "--last") (Last first)
    ∷ key_by (codes "--patience") (Number 1 MOST_PATIENCE)
    ∷ key_by (codes "--login") Path ∷ []

pub same_keys : (words : List (List ℕ)) (last first : Option ℕ) → last ≡ number_before (codes "--last") (codes "--first") words
    → first ≡ number_before (codes "--first") (codes "--last") words → table last first ≡ index_keys words
same_keys words last first l f = ap (λ (n : Option ℕ). table n first) l ∙ ap (table (number_before (codes "--last") (codes "--first") words)) f

-- ---- what the pairs ask for

-- pairs that are read by the keys of a table are read by those of `index`
index_pairs : (words : List (List ℕ)) (keys : List Key) (result : Result (List (List ℕ × List ℕ)) ℕ) → keys ≡ index_keys words → pairs_of keys 2 [] words ≡ result
    → index_of words ≡ index_of_pairs (length words + 2) result
index_pairs words keys result keys_are are = ap (index_of_pairs (length words + 2)) (ap (λ k. pairs_of k 2 [] words) (sym keys_are) ∙ are)

pub index_refused : (words : List (List ℕ)) (keys : List Key) (number : ℕ) → keys ≡ index_keys words → pairs_of keys 2 [] words ≡ Err number → index_of words ≡ Err number
index_refused words keys number keys_are are = index_pairs words keys (Err number) keys_are are

pub index_lacks : (words : List (List ℕ)) (keys : List Key) → keys ≡ index_keys words → pairs_of keys 2 [] words ≡ Ok (paired words)
    → has_all index_required (paired words) ≡ false → index_of words ≡ Err (length words + 2)
index_lacks words keys keys_are are lacks =
    index_pairs words keys (Ok (paired words)) keys_are are
    ∙ cond-false (has_all index_required (paired words)) (Ok (index_asked (paired words))) (Err (length words + 2)) lacks

pub index_asks : (words : List (List ℕ)) (keys : List Key) (asked : IndexAsked) → keys ≡ index_keys words → pairs_of keys 2 [] words ≡ Ok (paired words)
    → has_all index_required (paired words) ≡ true → asked ≡ index_asked (paired words) → index_of words ≡ Ok asked
index_asks words keys asked keys_are are all is =
    index_pairs words keys (Ok (paired words)) keys_are are
    ∙ cond-true (has_all index_required (paired words)) (Ok (index_asked (paired words))) (Err (length words + 2)) all
    ∙ ap (λ (a : IndexAsked). Ok a) (sym is)

pub index_is : (server group : List ℕ) (first last patience : ℕ) (login : Option (List ℕ)) (pairs : List (List ℕ × List ℕ))
    → server ≡ text_of (codes "--server") pairs → group ≡ text_of (codes "--group") pairs
    → first ≡ unwrap_or (option_and_then article_of (value_of (codes "--first") pairs)) 1 → last ≡ unwrap_or (option_and_then article_of (value_of (codes "--last") pairs)) 1
    → patience ≡ unwrap_or (option_and_then patience_of (value_of (codes "--patience") pairs)) 1500 → login ≡ value_of (codes "--login") pairs
    → record { server = server; group = group; first = first; last = last; patience = patience; login = login } ≡ index_asked pairs
index_is server group first last patience login pairs s g f l p lo = rw (s, g, f, l, p, lo) refl

-- ---- values that are there

-- all keys that have to be there are
pub record AreThere (pairs : List (List ℕ × List ℕ)) : Type 0 where
  pub server : is_some (value_of (codes "--server") pairs) ≡ true
  pub group : is_some (value_of (codes "--group") pairs) ≡ true
  pub first : is_some (value_of (codes "--first") pairs) ≡ true
  pub last : is_some (value_of (codes "--last") pairs) ≡ true

are_there : (pairs : List (List ℕ × List ℕ)) → has_all index_required pairs ≡ true → AreThere pairs
are_there pairs all =
    let server = and_parts _ _ all in
    let group = and_parts _ _ server.1 in
    let first = and_parts _ _ group.1 in
    let last = and_parts _ _ first.1 in
    record { server = server.0; group = group.0; first = first.0; last = last.0 }

pub group_is : (words : List (List ℕ)) (keys : List Key) (name : List ℕ) → keys ≡ index_keys words → pairs_of keys 2 [] words ≡ Ok (paired words)
    → has_all index_required (paired words) ≡ true → name ≡ text_of (codes "--group") (paired words) → is_group name ≡ true
group_is words keys name keys_are are all is =
    ap is_group is
    ∙ there (index_keys words) words (codes "--group") (value_of (codes "--group") (paired words)) (ap (λ k. pairs_of k 2 [] words) (sym keys_are) ∙ are) refl (are_there (paired words) all).group

-- ---- the range

-- of two keys one comes before the other
one_before : (words : List (List ℕ)) (key other a b : List ℕ) → value_of key (paired words) ≡ Some a → value_of other (paired words) ≡ Some b
    → (number_before key other words ≡ article_of a) ⊎ (number_before other key words ≡ article_of b)
one_before [] key other a b is_a is_b = cc
one_before (word ∷ []) key other a b is_a is_b = cc
one_before (word ∷ value ∷ words) key other a b is_a is_b = elim (cases_Bool (bytes_eq key word)) [
  | inl same ↦
      let given : value ≡ a = let found : Some value ≡ Some a = rw same at is_a in cc in
      inl (rw same (ap article_of given))
  | inr differs ↦ elim (cases_Bool (bytes_eq other word)) [
    | inl same ↦
        let given : value ≡ b = let found : Some value ≡ Some b = rw same at is_b in cc in
        inr (rw same (ap article_of given))
    | inr else_differs ↦
        let a_later : value_of key (paired words) ≡ Some a = rw differs at is_a in
        let b_later : value_of other (paired words) ≡ Some b = rw else_differs at is_b in
        rw (differs, else_differs) (one_before words key other a b a_later b_later)
  ]
]

-- both ends are known, and make a range
range_of_ends : (first last : Option ℕ) → is_some first ≡ true → is_some last ≡ true → may_be_range first last ≡ true → is_range (unwrap_or first 1) (unwrap_or last 1) ≡ true
range_of_ends None last f l is = cc
range_of_ends (Some first) None f l is = cc
range_of_ends (Some first) (Some last) f l is = is

ends_make_range : (words : List (List ℕ)) (a b : Option (List ℕ)) → pairs_of (index_keys words) 2 [] words ≡ Ok (paired words)
    → value_of (codes "--first") (paired words) ≡ a → value_of (codes "--last") (paired words) ≡ b → is_some a ≡ true → is_some b ≡ true
    → is_range (unwrap_or (option_and_then article_of a) 1) (unwrap_or (option_and_then article_of b) 1) ≡ true
ends_make_range words None b are a_is b_is some_a some_b = cc
ends_make_range words (Some a) None are a_is b_is some_a some_b = cc
ends_make_range words (Some a) (Some b) are a_is b_is some_a some_b =
    let keys = index_keys words in
    let first = and_parts (is_some (article_of a)) (may_be_range (article_of a) (number_before (codes "--last") (codes "--first") words))
    (values_taken keys words are (codes "--first") a a_is) in
    let last = and_parts (is_some (article_of b)) (may_be_range (number_before (codes "--first") (codes "--last") words) (article_of b))
    (values_taken keys words are (codes "--last") b b_is) in
    range_of_ends (article_of a) (article_of b) first.0 last.0
    (elim (one_before words (codes "--first") (codes "--last") a b a_is b_is) [
      | inl before ↦ ap (λ (n : Option ℕ). may_be_range n (article_of b)) (sym before) ∙ last.1
      | inr before ↦ ap (λ (n : Option ℕ). may_be_range (article_of a) n) (sym before) ∙ first.1
    ])

-- ---- the rules

login_of : (words : List (List ℕ)) (value : Option (List ℕ)) → pairs_of (index_keys words) 2 [] words ≡ Ok (paired words) → value_of (codes "--login") (paired words) ≡ value
    → IfSome value (λ path. 1 ≤ length path)
login_of words None are is = tt
login_of words (Some path) are is = leb-true 1 (length path) (values_taken (index_keys words) words are (codes "--login") path is)

-- the numbers of `index` are within their limits
pub record AreWithin (asked : IndexAsked) : Type 0 where
  pub first_least : 1 ≤ asked.first
  pub last_most : asked.last ≤ MOST_ARTICLE
  pub patience_least : 1 ≤ asked.patience
  pub patience_most : asked.patience ≤ MOST_PATIENCE

allowed_of : (words : List (List ℕ)) → pairs_of (index_keys words) 2 [] words ≡ Ok (paired words) → AreThere (paired words) → AreWithin (index_asked (paired words))
    → IsIndexAllowed (index_asked (paired words))
allowed_of words are all within =
    let keys = index_keys words in
    let pairs = paired words in
    let range = and_parts (nat_le (index_asked pairs).first (index_asked pairs).last) (nat_le ((index_asked pairs).last - (index_asked pairs).first) 9999999)
    (ends_make_range words (value_of (codes "--first") pairs) (value_of (codes "--last") pairs) are refl refl all.first all.last) in
    record {
      server = server_from_test (text_of (codes "--server") pairs) (there keys words (codes "--server") (value_of (codes "--server") pairs) are refl all.server);
      group = word_from_test is_group_byte 200 (text_of (codes "--group") pairs) (there keys words (codes "--group") (value_of (codes "--group") pairs) are refl all.group);
      first_least = within.first_least;
      last_least = leb-true (index_asked pairs).first (index_asked pairs).last range.0;
      last_most = within.last_most;
      few = leb-true ((index_asked pairs).last - (index_asked pairs).first) 9999999 range.1;
      patience_least = within.patience_least;
      patience_most = within.patience_most;
      login = login_of words (value_of (codes "--login") pairs) are refl;
    }

pub index_allowed : (words : List (List ℕ)) (keys : List Key) (asked : IndexAsked) → keys ≡ index_keys words → pairs_of keys 2 [] words ≡ Ok (paired words)
    → has_all index_required (paired words) ≡ true → asked ≡ index_asked (paired words) → AreWithin asked → IsIndexAllowed asked
index_allowed words keys asked keys_are are all is within =
    subst (λ (a : IndexAsked). IsIndexAllowed a) (sym is)
    (allowed_of words (ap (λ k. pairs_of k 2 [] words) (sym keys_are) ∙ are) (are_there (paired words) all) (subst (λ (a : IndexAsked). AreWithin a) is within))
