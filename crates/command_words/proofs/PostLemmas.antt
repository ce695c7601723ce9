-- What the words of `post` ask for.
use Rattle.std.proofs.Common.{◌≡◌, ◌≤◌, ℕ, ◌+◌, Bool, true, false, List, [], length, Option, Some, None, Result, Ok, Err, refl, sym, ◌∙◌, ap, subst}
use Rattle.std.specs.Prelude.{codes, is_some}
use Rattle.std.specs.Option.{option_and_then, unwrap_or}
use Rattle.std.proofs.lemmas.Bool.{and_from, and_parts, cond-false, cond-true, leb-true}
use Rattle.article_head.specs.Field.{IsComment, IsFileName}
use Rattle.article_head.specs.PartId.{is_token_byte}
use Rattle.server_logins.proofs.ServerLaws.{server_from_test}
use Rattle.server_logins.proofs.WordTests.{word_from_test}
use Rattle.command_words.specs.Asked.{paired}
use Rattle.command_words.specs.Keys.{Key, file_name, has_all, is_header_name, is_taken, key_of, line_of, pairs_of, part_size_of, patience_of, stands_as_key, text_of, value_of}
use Rattle.command_words.specs.Post.{IsPostAllowed, PostAsked, post_asked, post_keys, post_of, post_of_pairs, post_required}
use Rattle.command_words.proofs.KeysLemmas.{stands_with_value, values_taken}
use Rattle.command_words.proofs.PostLaws.{domain_from_test, newsgroups_from_test, text_from_test}
use Rattle.limits.specs.declared.TheConstants.{LEAST_LINE, MOST_ID_BYTES, MOST_LINE, MOST_PART_BYTES, MOST_PATIENCE}

-- ---- what the pairs ask for

-- pairs that are read by the keys of a table are read by those of `post`
post_pairs : (words : List (List ℕ)) (keys : List Key) (named : Bool) (result : Result (List (List ℕ × List ℕ)) ℕ) → keys ≡ post_keys named → named ≡ stands_as_key (codes "--name") words → pairs_of keys 2 [] words ≡ result
    → post_of words ≡ post_of_pairs (length words + 2) result
post_pairs words keys named result keys_are named_is are =
    ap (post_of_pairs (length words + 2)) (ap (λ k. pairs_of k 2 [] words) (sym (keys_are ∙ ap post_keys named_is)) ∙ are)

pub post_refused : (words : List (List ℕ)) (keys : List Key) (named : Bool) (number : ℕ) → keys ≡ post_keys named → named ≡ stands_as_key (codes "--name") words → pairs_of keys 2 [] words ≡ Err number → post_of words ≡ Err number
post_refused words keys named number keys_are named_is are = post_pairs words keys named (Err number) keys_are named_is are

pub post_lacks : (words : List (List ℕ)) (keys : List Key) (named : Bool) → keys ≡ post_keys named → named ≡ stands_as_key (codes "--name") words → pairs_of keys 2 [] words ≡ Ok (paired words)
    → has_all post_required (paired words) ≡ false → post_of words ≡ Err (length words + 2)
post_lacks words keys named keys_are named_is are lacks =
    post_pairs words keys named (Ok (paired words)) keys_are named_is are
    ∙ cond-false (has_all post_required (paired words)) (Ok (post_asked (paired words))) (Err (length words + 2)) lacks

pub post_asks : (words : List (List ℕ)) (keys : List Key) (named : Bool) (asked : PostAsked) → keys ≡ post_keys named → named ≡ stands_as_key (codes "--name") words → pairs_of keys 2 [] words ≡ Ok (paired words)
    → has_all post_required (paired words) ≡ true → asked ≡ post_asked (paired words) → post_of words ≡ Ok asked
post_asks words keys named asked keys_are named_is are all is =
    post_pairs words keys named (Ok (paired words)) keys_are named_is are
    ∙ cond-true (has_all post_required (paired words)) (Ok (post_asked (paired words))) (Err (length words + 2)) all
    ∙ ap (λ (a : PostAsked). Ok a) (sym is)

pub post_is : (path server from newsgroups token domain name comment : List ℕ) (line part_size patience : ℕ) (login : Option (List ℕ)) (pairs : List (List ℕ × List ℕ))
    → path ≡ text_of (codes "--input") pairs → server ≡ text_of (codes "--server") pairs → from ≡ text_of (codes "--from") pairs → newsgroups ≡ text_of (codes "--group") pairs
    → token ≡ text_of (codes "--token") pairs → domain ≡ text_of (codes "--domain") pairs → name ≡ unwrap_or (value_of (codes "--name") pairs) (file_name path) → comment ≡ text_of (codes "--comment") pairs
    → line ≡ unwrap_or (option_and_then line_of (value_of (codes "--line") pairs)) 128 → part_size ≡ unwrap_or (option_and_then part_size_of (value_of (codes "--part-size") pairs)) 750000
    → patience ≡ unwrap_or (option_and_then patience_of (value_of (codes "--patience") pairs)) 1500 → login ≡ value_of (codes "--login") pairs
    → record {
      path = path;
      server = server;
      from = from;
      newsgroups = newsgroups;
      token = token;
      domain = domain;
      name = name;
      comment = comment;
      line = line;
      part_size = part_size;
      patience = patience;
      login = login;
    } ≡ post_asked pairs
post_is path server from newsgroups token domain name comment line part_size patience login pairs p s f n t d na c l ps pa lo =
    let named : name ≡ unwrap_or (value_of (codes "--name") pairs) (file_name (text_of (codes "--input") pairs)) = na ∙ ap (λ text. unwrap_or (value_of (codes "--name") pairs) (file_name text)) p in
    rw (p, s, f, n, t, d, named, c, l, ps, pa, lo) refl

-- ---- values that are there

-- the value of a key that is there is one that the key takes
pub there : (keys : List Key) (words : List (List ℕ)) (key : List ℕ) (value : Option (List ℕ)) → pairs_of keys 2 [] words ≡ Ok (paired words) → value_of key (paired words) ≡ value → is_some value ≡ true
    → is_taken (key_of keys key) [] (unwrap_or value []) ≡ true
there keys words key None are is some = cc
there keys words key (Some value) are is some = values_taken keys words are key value is

-- all keys that have to be there are
pub record AreThere (pairs : List (List ℕ × List ℕ)) : Type 0 where
  pub input : is_some (value_of (codes "--input") pairs) ≡ true
  pub server : is_some (value_of (codes "--server") pairs) ≡ true
  pub from : is_some (value_of (codes "--from") pairs) ≡ true
  pub newsgroups : is_some (value_of (codes "--group") pairs) ≡ true
  pub token : is_some (value_of (codes "--token") pairs) ≡ true
  pub domain : is_some (value_of (codes "--domain") pairs) ≡ true

are_there : (pairs : List (List ℕ × List ℕ)) → has_all post_required pairs ≡ true → AreThere pairs
are_there pairs all =
    let input = and_parts _ _ all in
    let server = and_parts _ _ input.1 in
    let from = and_parts _ _ server.1 in
    let newsgroups = and_parts _ _ from.1 in
    let token = and_parts _ _ newsgroups.1 in
    let domain = and_parts _ _ token.1 in
    record { input = input.0; server = server.0; from = from.0; newsgroups = newsgroups.0; token = token.0; domain = domain.0 }

-- ---- the name

name_is_header : (words : List (List ℕ)) (named : Bool) (input name : Option (List ℕ)) → pairs_of (post_keys named) 2 [] words ≡ Ok (paired words) → value_of (codes "--input") (paired words) ≡ input → is_some input ≡ true
    → value_of (codes "--name") (paired words) ≡ name → named ≡ is_some name → is_header_name (unwrap_or name (file_name (unwrap_or input []))) ≡ true
name_is_header words named input (Some name) are input_is some name_is named_is = values_taken (post_keys named) words are (codes "--name") name name_is
name_is_header words true input None are input_is some name_is named_is = cc
name_is_header words false None None are input_is some name_is named_is = cc
name_is_header words false (Some path) None are input_is some name_is named_is = values_taken (post_keys false) words are (codes "--input") path input_is

pub post_name : (words : List (List ℕ)) (keys : List Key) (named : Bool) (path : List ℕ) → keys ≡ post_keys named → named ≡ stands_as_key (codes "--name") words → pairs_of keys 2 [] words ≡ Ok (paired words)
    → has_all post_required (paired words) ≡ true → path ≡ text_of (codes "--input") (paired words) → is_header_name (unwrap_or (value_of (codes "--name") (paired words)) (file_name path)) ≡ true
post_name words keys named path keys_are named_is are all path_is =
    ap (λ p. is_header_name (unwrap_or (value_of (codes "--name") (paired words)) (file_name p))) path_is
    ∙ name_is_header words named (value_of (codes "--input") (paired words)) (value_of (codes "--name") (paired words)) (ap (λ k. pairs_of k 2 [] words) (sym keys_are) ∙ are) refl
    (are_there (paired words) all).input refl (named_is ∙ stands_with_value keys 2 [] (paired words) words are (codes "--name"))

file_name_of_header : (name : List ℕ) → is_header_name name ≡ true → IsFileName name
file_name_of_header name is =
    let last = and_parts _ _ is in
    let ends = and_parts _ _ last.0 in
    let begins = and_parts _ _ ends.0 in
    let sizes = and_parts _ _ begins.0 in
    record { some = leb-true 1 (length name) sizes.0; short = leb-true (length name) 255 sizes.1; printable = last.1; trimmed = and_from _ _ begins.1 ends.1 }

-- ---- the rules

comment_of : (words : List (List ℕ)) (named : Bool) (value : Option (List ℕ)) → pairs_of (post_keys named) 2 [] words ≡ Ok (paired words) → value_of (codes "--comment") (paired words) ≡ value → IsComment (unwrap_or value [])
comment_of words named None are is = text_from_test 0 200 [] refl
comment_of words named (Some value) are is = text_from_test 0 200 value (values_taken (post_keys named) words are (codes "--comment") value is)

-- the numbers of `post` are within their limits
pub record AreWithin (asked : PostAsked) : Type 0 where
  pub line_least : LEAST_LINE ≤ asked.line
  pub line_most : asked.line ≤ MOST_LINE
  pub part_size_least : 1 ≤ asked.part_size
  pub part_size_most : asked.part_size ≤ MOST_PART_BYTES
  pub patience_least : 1 ≤ asked.patience
  pub patience_most : asked.patience ≤ MOST_PATIENCE

allowed_of : (words : List (List ℕ)) (named : Bool) → pairs_of (post_keys named) 2 [] words ≡ Ok (paired words) → AreThere (paired words) → is_header_name (post_asked (paired words)).name ≡ true → AreWithin (post_asked (paired words))
    → IsPostAllowed (post_asked (paired words))
allowed_of words named are all name within =
    let keys = post_keys named in
    record {
      server = server_from_test (text_of (codes "--server") (paired words)) (there keys words (codes "--server") (value_of (codes "--server") (paired words)) are refl all.server);
      from = text_from_test 1 200 (text_of (codes "--from") (paired words)) (there keys words (codes "--from") (value_of (codes "--from") (paired words)) are refl all.from);
      newsgroups = newsgroups_from_test (text_of (codes "--group") (paired words)) (there keys words (codes "--group") (value_of (codes "--group") (paired words)) are refl all.newsgroups);
      token = word_from_test is_token_byte MOST_ID_BYTES (text_of (codes "--token") (paired words)) (there keys words (codes "--token") (value_of (codes "--token") (paired words)) are refl all.token);
      domain = domain_from_test (text_of (codes "--domain") (paired words)) (there keys words (codes "--domain") (value_of (codes "--domain") (paired words)) are refl all.domain);
      name = file_name_of_header (post_asked (paired words)).name name;
      comment = comment_of words named (value_of (codes "--comment") (paired words)) are refl;
      line_least = within.line_least;
      line_most = within.line_most;
      part_size_least = within.part_size_least;
      part_size_most = within.part_size_most;
      patience_least = within.patience_least;
      patience_most = within.patience_most;
    }

pub post_allowed : (words : List (List ℕ)) (keys : List Key) (named : Bool) (asked : PostAsked) → keys ≡ post_keys named → named ≡ stands_as_key (codes "--name") words → pairs_of keys 2 [] words ≡ Ok (paired words)
    → has_all post_required (paired words) ≡ true → asked ≡ post_asked (paired words) → AreWithin asked → IsPostAllowed asked
post_allowed words keys named asked keys_are named_is are all is within =
    subst (λ (a : PostAsked). IsPostAllowed a) (sym is)
    (allowed_of words named (ap (λ k. pairs_of k 2 [] words) (sym keys_are) ∙ are) (are_there (paired words) all)
    (post_name words keys named (text_of (codes "--input") (paired words)) keys_are named_is are all refl)
    (subst (λ (a : PostAsked). AreWithin a) is within))
