-- What the words of a command ask for.
use Rattle.std.proofs.Common.{◌≡◌, ◌≤◌, ℕ, ◌+◌, ◌-◌, Bool, true, false, List, [], ◌∷◌, length, drop, get_or, map, take, Option, Some, None, Result, Ok, Err, refl, sym, ◌∙◌, ap, arith}
use Rattle.std.specs.Prelude.{if◌then◌else◌, is_some, not, nat_le, codes}
use Rattle.std.specs.List.{list_all}
use Rattle.std.specs.Option.{option_and_then, option_map, unwrap_or}
use Rattle.std.proofs.lemmas.List.{take_all}
use Rattle.std.proofs.lemmas.Bool.{and_from, and_parts}
use Rattle.std.proofs.lemmas.Bool.Decides.{nat_tests}
use Rattle.command_words.specs.Asked.{key_by, paired, path_rule}
use Rattle.command_words.specs.CommandLine.{Command, PartAsked, asks_or_lacks, asks_to_index, asks_to_post, command_of, encode_asked, encode_keys, encode_of, part_asked, part_of, words_of, words_of_pairs}
use Rattle.command_words.specs.CommandLine.Words.{Asks, Refused}
use Rattle.command_words.specs.CommandLine.Command.{Encode}
use Rattle.command_words.specs.Keys.{Key, file_name, is_header_name, is_named_path, is_path, is_printable, line_of, once, pairs_of, part_size_of, stands_as_key, value_of}
use Rattle.command_words.specs.Index.{index_of}
use Rattle.command_words.specs.Post.{post_of}
use Rattle.command_words.specs.declared.keys.Rule.{Rule}
use Rattle.command_words.proofs.KeysLemmas.{stands_with_value, values_taken}
use Rattle.yenc_lines.specs.Name.{IsName, has_no_line_end, is_line_end}
use Rattle.limits.specs.declared.TheConstants.{MOST_PART_BYTES}

-- ---- a command by its keys

refused : (keys : List Key) (asked : List (List ℕ × List ℕ) → Option Command) (words : List (List ℕ)) (number : ℕ) → pairs_of keys 2 [] words ≡ Err number → command_of keys asked words ≡ Refused number
refused keys asked words number are = ap (words_of_pairs asked (length words + 2)) are

lacking : (keys : List Key) (asked : List (List ℕ × List ℕ) → Option Command) (words : List (List ℕ)) → pairs_of keys 2 [] words ≡ Ok (paired words) → asked (paired words) ≡ None → command_of keys asked words ≡ Refused (length words + 2)
lacking keys asked words are none = ap (words_of_pairs asked (length words + 2)) are ∙ ap (asks_or_lacks (length words + 2)) none

asking : (keys : List Key) (asked : List (List ℕ × List ℕ) → Option Command) (words : List (List ℕ)) (command : Command) → pairs_of keys 2 [] words ≡ Ok (paired words) → asked (paired words) ≡ Some command → command_of keys asked words ≡ Asks command
asking keys asked words command are is = ap (words_of_pairs asked (length words + 2)) are ∙ ap (asks_or_lacks (length words + 2)) is

-- a table that begins with a path is that of a command that takes one
pub same_table : (named : Bool) (rule : Rule) (rest : List Key) → rule ≡ path_rule named → key_by (codes "--input") rule ∷ rest ≡ once (codes "--input") (if named then is_path else is_named_path) ∷ rest
same_table true rule rest is = ap (λ (r : Rule). key_by (codes "--input") r ∷ rest) is
same_table false rule rest is = ap (λ (r : Rule). key_by (codes "--input") r ∷ rest) is

-- ---- encode

no_path : (pairs : List (List ℕ × List ℕ)) → None ≡ value_of (codes "--input") pairs → encode_asked pairs ≡ None
no_path pairs none = ap (option_map (λ path. Encode (part_asked pairs path))) (sym none)

path_asks : (pairs : List (List ℕ × List ℕ)) (path : List ℕ) (asked : PartAsked) → Some path ≡ value_of (codes "--input") pairs → asked ≡ part_asked pairs path → encode_asked pairs ≡ Some (Encode asked)
path_asks pairs path asked there is = ap (option_map (λ p. Encode (part_asked pairs p))) (sym there) ∙ ap (λ (a : PartAsked). Some (Encode a)) (sym is)

-- pairs that are read by the keys of a table are read by those of `encode`
encode_pairs : (words : List (List ℕ)) (keys : List Key) (named : Bool) (result : Result (List (List ℕ × List ℕ)) ℕ) → keys ≡ encode_keys named → named ≡ stands_as_key (codes "--name") words → pairs_of keys 2 [] words ≡ result
    → pairs_of (encode_keys (stands_as_key (codes "--name") words)) 2 [] words ≡ result
encode_pairs words keys named result keys_are named_is are = ap (λ k. pairs_of k 2 [] words) (sym (keys_are ∙ ap encode_keys named_is)) ∙ are

pub encode_refused : (words : List (List ℕ)) (keys : List Key) (named : Bool) (number : ℕ) → keys ≡ encode_keys named → named ≡ stands_as_key (codes "--name") words → pairs_of keys 2 [] words ≡ Err number → encode_of words ≡ Refused number
encode_refused words keys named number keys_are named_is are = refused (encode_keys (stands_as_key (codes "--name") words)) encode_asked words number (encode_pairs words keys named (Err number) keys_are named_is are)

pub encode_lacks : (words : List (List ℕ)) (keys : List Key) (named : Bool) → keys ≡ encode_keys named → named ≡ stands_as_key (codes "--name") words → pairs_of keys 2 [] words ≡ Ok (paired words)
    → None ≡ value_of (codes "--input") (paired words) → encode_of words ≡ Refused (length words + 2)
encode_lacks words keys named keys_are named_is are none = lacking (encode_keys (stands_as_key (codes "--name") words)) encode_asked words (encode_pairs words keys named (Ok (paired words)) keys_are named_is are) (no_path (paired words) none)

pub encode_asks : (words : List (List ℕ)) (keys : List Key) (named : Bool) (path : List ℕ) (asked : PartAsked) → keys ≡ encode_keys named → named ≡ stands_as_key (codes "--name") words → pairs_of keys 2 [] words ≡ Ok (paired words)
    → Some path ≡ value_of (codes "--input") (paired words) → asked ≡ part_asked (paired words) path → encode_of words ≡ Asks (Encode asked)
encode_asks words keys named path asked keys_are named_is are there is =
    asking (encode_keys (stands_as_key (codes "--name") words)) encode_asked words (Encode asked) (encode_pairs words keys named (Ok (paired words)) keys_are named_is are) (path_asks (paired words) path asked there is)

pub asked_is : (path name : List ℕ) (line part_size part : ℕ) (pairs : List (List ℕ × List ℕ)) → name ≡ unwrap_or (value_of (codes "--name") pairs) (file_name path) → line ≡ unwrap_or (option_and_then line_of (value_of (codes "--line") pairs)) 128
    → part_size ≡ unwrap_or (option_and_then part_size_of (value_of (codes "--part-size") pairs)) MOST_PART_BYTES → part ≡ unwrap_or (option_and_then part_of (value_of (codes "--part") pairs)) 1
    → record { path = path; name = name; line = line; part_size = part_size; part = part } ≡ part_asked pairs path
asked_is path name line part_size part pairs n l s p = rw (n, l, s, p) refl

-- the name in the header is one that it can carry: the one that is given, or else that of the file
name_is_header : (words : List (List ℕ)) (named : Bool) (path : List ℕ) (name : Option (List ℕ)) → pairs_of (encode_keys named) 2 [] words ≡ Ok (paired words) → value_of (codes "--input") (paired words) ≡ Some path
    → value_of (codes "--name") (paired words) ≡ name → named ≡ is_some name → is_header_name (unwrap_or name (file_name path)) ≡ true
name_is_header words named path (Some name) are there name_is named_is = values_taken (encode_keys named) words are (codes "--name") name name_is
name_is_header words true path None are there name_is named_is = cc
name_is_header words false path None are there name_is named_is = values_taken (encode_keys false) words are (codes "--input") path there

pub header_name_of : (words : List (List ℕ)) (keys : List Key) (named : Bool) (path : List ℕ) → keys ≡ encode_keys named → named ≡ stands_as_key (codes "--name") words → pairs_of keys 2 [] words ≡ Ok (paired words)
    → Some path ≡ value_of (codes "--input") (paired words) → is_header_name (unwrap_or (value_of (codes "--name") (paired words)) (file_name path)) ≡ true
header_name_of words keys named path keys_are named_is are there =
    name_is_header words named path (value_of (codes "--name") (paired words)) (ap (λ k. pairs_of k 2 [] words) (sym keys_are) ∙ are) (sym there) refl
    (named_is ∙ stands_with_value keys 2 [] (paired words) words are (codes "--name"))

-- a name that a header can carry from the command line is one that a header can carry
printable_ends_no_line : (c : ℕ) → is_printable c ≡ true → not (is_line_end c) ≡ true
printable_ends_no_line c is = grind (arith, nat_tests)

printable_has_no_end : (name : List ℕ) → list_all is_printable name ≡ true → has_no_line_end name ≡ true
printable_has_no_end [] all = refl
printable_has_no_end (c ∷ name) all =
    let parts = and_parts (is_printable c) (list_all is_printable name) all in
    and_from _ _ (printable_ends_no_line c parts.0) (printable_has_no_end name parts.1)

at_least : (m n : ℕ) → nat_le m n ≡ true → m ≤ n
at_least m n is = grind (arith, nat_tests)

pub name_of_header : (name : List ℕ) → is_header_name name ≡ true → IsName name
name_of_header name is =
    let last = and_parts _ _ is in
    let ends = and_parts _ _ last.0 in
    let begins = and_parts _ _ ends.0 in
    let sizes = and_parts _ _ begins.0 in
    record {
      some = at_least 1 (length name) sizes.0;
      most = at_least (length name) 255 sizes.1;
      no_line_end = printable_has_no_end name last.1;
      trimmed = and_from _ _ begins.1 ends.1;
    }

-- ---- all words

pub words_encode : {X : Type 0} (f : X → List ℕ) (xs : List X) (x : X) (text : List ℕ) → 1 ≤ length xs → x ≡ get_or xs 0 x → text ≡ f x → text ≡ codes "encode" → words_of (map f xs) ≡ encode_of (map f (take (length xs - 1) (drop 1 xs)))
words_encode f [] x text some is text_is same = absurd (omega arith)
words_encode f (y ∷ xs) x text some is text_is same =
    let first : f y ≡ codes "encode" = ap f (sym is) ∙ sym text_is ∙ same in
    let rest : take (length (y ∷ xs) - 1) xs ≡ xs = take_all (length (y ∷ xs) - 1) xs (omega arith) in
    ap (λ w. words_of (w ∷ map f xs)) first ∙ ap (λ l. encode_of (map f l)) (sym rest)

pub words_post : {X : Type 0} (f : X → List ℕ) (xs : List X) (x : X) (text : List ℕ) → 1 ≤ length xs → x ≡ get_or xs 0 x → text ≡ f x → text ≡ codes "post" → words_of (map f xs) ≡ asks_to_post (post_of (map f (take (length xs - 1) (drop 1 xs))))
words_post f [] x text some is text_is same = absurd (omega arith)
words_post f (y ∷ xs) x text some is text_is same =
    let first : f y ≡ codes "post" = ap f (sym is) ∙ sym text_is ∙ same in
    let rest : take (length (y ∷ xs) - 1) xs ≡ xs = take_all (length (y ∷ xs) - 1) xs (omega arith) in
    ap (λ w. words_of (w ∷ map f xs)) first ∙ ap (λ l. asks_to_post (post_of (map f l))) (sym rest)

pub words_index : {X : Type 0} (f : X → List ℕ) (xs : List X) (x : X) (text : List ℕ) → 1 ≤ length xs → x ≡ get_or xs 0 x → text ≡ f x → text ≡ codes "index" → words_of (map f xs) ≡ asks_to_index (index_of (map f (take (length xs - 1) (drop 1 xs))))
words_index f [] x text some is text_is same = absurd (omega arith)
words_index f (y ∷ xs) x text some is text_is same =
    let first : f y ≡ codes "index" = ap f (sym is) ∙ sym text_is ∙ same in
    let rest : take (length (y ∷ xs) - 1) xs ≡ xs = take_all (length (y ∷ xs) - 1) xs (omega arith) in
    ap (λ w. words_of (w ∷ map f xs)) first ∙ ap (λ l. asks_to_index (index_of (map f l))) (sym rest)
