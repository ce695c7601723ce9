-- What the words of `fetch` ask for.
use Rattle.std.proofs.Common.{◌≡◌, ◌≤◌, ℕ, ◌+◌, true, false, List, [], length, Option, Some, None, Result, Ok, Err, refl, sym, ◌∙◌, ap, arith, subst}
use Rattle.std.specs.Prelude.{IfSome, codes}
use Rattle.std.specs.Option.{option_and_then, unwrap_or}
use Rattle.std.proofs.lemmas.Bool.{and_parts, cond-false, cond-true, leb-true}
use Rattle.command_words.specs.Asked.{paired}
use Rattle.command_words.specs.Fetch.{FetchAsked, IsFetchAllowed, depth_of, fetch_asked, fetch_keys, fetch_of, fetch_of_pairs, fetch_required}
use Rattle.command_words.specs.Keys.{Key, has_all, pairs_of, patience_of, text_of, value_of, values_of}
use Rattle.command_words.specs.Servers.{ServerAsked, is_next_server, links_of, servers_of}
use Rattle.command_words.proofs.KeysLemmas.{AreTaken, all_stand, all_taken, one_value, values_taken}
use Rattle.command_words.proofs.PostLemmas.{there}
use Rattle.command_words.proofs.ServersLemmas.{all_allowed, few_servers, links_fit, some_server}
use Rattle.limits.specs.declared.TheConstants.{MOST_PATIENCE, MOST_DEPTH}

-- ---- what the pairs ask for

-- pairs that are read by the keys of a table are read by those of `fetch`
fetch_pairs : (words : List (List ℕ)) (keys : List Key) (result : Result (List (List ℕ × List ℕ)) ℕ) → keys ≡ fetch_keys → pairs_of keys 2 [] words ≡ result
    → fetch_of words ≡ fetch_of_pairs (length words + 2) result
fetch_pairs words keys result keys_are are = ap (fetch_of_pairs (length words + 2)) (ap (λ k. pairs_of k 2 [] words) (sym keys_are) ∙ are)

pub fetch_refused : (words : List (List ℕ)) (keys : List Key) (number : ℕ) → keys ≡ fetch_keys → pairs_of keys 2 [] words ≡ Err number → fetch_of words ≡ Err number
fetch_refused words keys number keys_are are = fetch_pairs words keys (Err number) keys_are are

pub fetch_lacks : (words : List (List ℕ)) (keys : List Key) → keys ≡ fetch_keys → pairs_of keys 2 [] words ≡ Ok (paired words)
    → has_all fetch_required (paired words) ≡ false → fetch_of words ≡ Err (length words + 2)
fetch_lacks words keys keys_are are lacks =
    fetch_pairs words keys (Ok (paired words)) keys_are are
    ∙ cond-false (has_all fetch_required (paired words)) (Ok (fetch_asked (paired words))) (Err (length words + 2)) lacks

pub fetch_asks : (words : List (List ℕ)) (keys : List Key) (asked : FetchAsked) → keys ≡ fetch_keys → pairs_of keys 2 [] words ≡ Ok (paired words)
    → has_all fetch_required (paired words) ≡ true → asked ≡ fetch_asked (paired words) → fetch_of words ≡ Ok asked
fetch_asks words keys asked keys_are are all is =
    fetch_pairs words keys (Ok (paired words)) keys_are are
    ∙ cond-true (has_all fetch_required (paired words)) (Ok (fetch_asked (paired words))) (Err (length words + 2)) all
    ∙ ap (λ (a : FetchAsked). Ok a) (sym is)

pub fetch_is : (path : List ℕ) (servers : List ServerAsked) (depth patience : ℕ) (login : Option (List ℕ)) (pairs : List (List ℕ × List ℕ))
    → path ≡ text_of (codes "--nzb") pairs → servers ≡ servers_of (values_of (codes "--server") pairs)
    → depth ≡ unwrap_or (option_and_then depth_of (value_of (codes "--depth") pairs)) 8
    → patience ≡ unwrap_or (option_and_then patience_of (value_of (codes "--patience") pairs)) 1500 → login ≡ value_of (codes "--login") pairs
    → record { path = path; servers = servers; depth = depth; patience = patience; login = login } ≡ fetch_asked pairs
fetch_is path servers depth patience login pairs p s d pa lo = rw (p, s, d, pa, lo) refl

-- ---- the servers

abbrev server_key : Key
server_key = record { word = codes "--server"; most = 16; takes = is_next_server }

few_values : (words : List (List ℕ)) → pairs_of fetch_keys 2 [] words ≡ Ok (paired words) → length (values_of (codes "--server") (paired words)) ≤ 16
few_values words are =
    let most = all_stand fetch_keys 2 [] (paired words) words are (codes "--server") server_key refl (omega arith) in
    omega (arith, most)

pub has_few_servers : (words : List (List ℕ)) (keys : List Key) → keys ≡ fetch_keys → pairs_of keys 2 [] words ≡ Ok (paired words) → length (values_of (codes "--server") (paired words)) ≤ 16
has_few_servers words keys keys_are are = few_values words (ap (λ k. pairs_of k 2 [] words) (sym keys_are) ∙ are)

-- ---- the rules

login_of : (words : List (List ℕ)) (value : Option (List ℕ)) → pairs_of fetch_keys 2 [] words ≡ Ok (paired words) → value_of (codes "--login") (paired words) ≡ value
    → IfSome value (λ path. 1 ≤ length path)
login_of words None are is = tt
login_of words (Some path) are is = leb-true 1 (length path) (values_taken fetch_keys words are (codes "--login") path is)

-- the numbers of `fetch` are within their limits
pub record AreWithin (asked : FetchAsked) : Type 0 where
  pub depth_least : 1 ≤ asked.depth
  pub depth_most : asked.depth ≤ MOST_DEPTH
  pub patience_least : 1 ≤ asked.patience
  pub patience_most : asked.patience ≤ MOST_PATIENCE

allowed_of : (words : List (List ℕ)) → pairs_of fetch_keys 2 [] words ≡ Ok (paired words) → has_all fetch_required (paired words) ≡ true → AreWithin (fetch_asked (paired words))
    → IsFetchAllowed (fetch_asked (paired words))
allowed_of words are all within =
    let pairs = paired words in
    let values = values_of (codes "--server") pairs in
    let path = and_parts _ _ all in
    let server = and_parts _ _ path.1 in
    let taken : AreTaken is_next_server [] values = all_taken fetch_keys 2 [] pairs words are (codes "--server") server_key refl in
    record {
      path = leb-true 1 (length (text_of (codes "--nzb") pairs)) (there fetch_keys words (codes "--nzb") (value_of (codes "--nzb") pairs) are refl path.0);
      some = some_server values taken (one_value (codes "--server") pairs server.0);
      few = omega (arith, few_servers values, few_values words are);
      servers = all_allowed values;
      links = links_fit [] values taken (omega arith);
      depth_least = within.depth_least;
      depth_most = within.depth_most;
      patience_least = within.patience_least;
      patience_most = within.patience_most;
      login = login_of words (value_of (codes "--login") pairs) are refl;
    }

pub fetch_allowed : (words : List (List ℕ)) (keys : List Key) (asked : FetchAsked) → keys ≡ fetch_keys → pairs_of keys 2 [] words ≡ Ok (paired words)
    → has_all fetch_required (paired words) ≡ true → asked ≡ fetch_asked (paired words) → AreWithin asked → IsFetchAllowed asked
fetch_allowed words keys asked keys_are are all is within =
    subst (λ (a : FetchAsked). IsFetchAllowed a) (sym is)
    (allowed_of words (ap (λ k. pairs_of k 2 [] words) (sym keys_are) ∙ are) all (subst (λ (a : FetchAsked). AreWithin a) is within))
