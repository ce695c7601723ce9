-- The words of the command line, those behind the program's name: the command, and then pairs of a key and its value.
use Rattle.std.specs.Prelude.{ℕ, ◌+◌, Bool, if◌then◌else◌, List, [], ◌∷◌, length, Result, Ok, Err, Option, Some, None, is_some, codes}
use Rattle.std.specs.Str.{bytes_eq}
use Rattle.std.specs.Option.{option_and_then, option_map, unwrap_or}
use Rattle.command_words.specs.declared.keys.Form.{Form}
use Rattle.command_words.specs.declared.keys.Form.TheVariants.{File}
use Rattle.command_words.specs.Index.{IndexAsked, index_of}
use Rattle.command_words.specs.Keys.{Key, file_name, form_of, is_header_name, is_named_path, is_path, line_of, number_in, once, pairs_of, part_size_of, stands_as_key, value_of}
use Rattle.command_words.specs.Post.{PostAsked, post_of}
use Rattle.limits.specs.declared.TheConstants.{MOST_PART_BYTES}

-- a part of a file that is to be encoded: the file's path, the name in the header, how many characters a data line has
-- before it is full, how many bytes the parts have, and the part's number, from 1
pub record PartAsked : Type 0 where
  pub path : List ℕ
  pub name : List ℕ
  pub line : ℕ
  pub part_size : ℕ
  pub part : ℕ

-- a body that is to be decoded: the path of the text, and how the body was saved in it
pub record BodyAsked : Type 0 where
  pub path : List ℕ
  pub form : Form

-- what the words ask for: the body of a part of a file, the bytes of a saved body, what the NZB text at a path lists, that a file
-- is posted, or that articles of a newsgroup are indexed
pub data Command : Type 0 where
  Encode : (asked : PartAsked) → Command
  Decode : (asked : BodyAsked) → Command
  Check : (path : List ℕ) → Command
  Post : (asked : PostAsked) → Command
  Index : (asked : IndexAsked) → Command

-- what the words ask for, or the number of the first word that is refused, counted from 1
pub data Words : Type 0 where
  Asks : Command → Words
  Refused : (number : ℕ) → Words

-- ---- the words behind a command

-- pairs that lack a required key ask for nothing, and are refused at this number
abbrev pub asks_or_lacks : ℕ → Option Command → Words
asks_or_lacks missing (Some command) = Asks command
asks_or_lacks missing None = Refused missing

abbrev pub words_of_pairs : (List (List ℕ × List ℕ) → Option Command) → ℕ → Result (List (List ℕ × List ℕ)) ℕ → Words
words_of_pairs asked missing (Ok pairs) = asks_or_lacks missing (asked pairs)
words_of_pairs asked missing (Err number) = Refused number

-- What words behind a command ask for, of which the first is the second of all, by the command's keys and by what pairs of
-- them ask for. Where a required key is missing, the number is the one behind the last word.
abbrev pub command_of : List Key → (List (List ℕ × List ℕ) → Option Command) → List (List ℕ) → Words
command_of keys asked words = words_of_pairs asked (length words + 2) (pairs_of keys 2 [] words)

-- ---- encode

-- the number of a part
abbrev pub part_of : List ℕ → Option ℕ
part_of = number_in 1 4294967295

-- The keys of `encode`. Where no `--name` is given, the last part of the path is the name, and has to be able to.
abbrev pub encode_keys : Bool → List Key
encode_keys is_named =
    once (codes "--input") (if is_named then is_path else is_named_path)
    ∷ once (codes "--name") is_header_name
    ∷ once (codes "--line") (λ value. is_some (line_of value))
    ∷ once (codes "--part-size") (λ value. is_some (part_size_of value))
    ∷ once (codes "--part") (λ value. is_some (part_of value)) ∷ []

-- what the pairs ask for, of the file at a path
abbrev pub part_asked : List (List ℕ × List ℕ) → List ℕ → PartAsked
part_asked pairs path = record {
  path = path;
  name = unwrap_or (value_of (codes "--name") pairs) (file_name path);
  line = unwrap_or (option_and_then line_of (value_of (codes "--line") pairs)) 128;
  part_size = unwrap_or (option_and_then part_size_of (value_of (codes "--part-size") pairs)) MOST_PART_BYTES;
  part = unwrap_or (option_and_then part_of (value_of (codes "--part") pairs)) 1;
}

abbrev pub encode_asked : List (List ℕ × List ℕ) → Option Command
encode_asked pairs = option_map (λ path. Encode (part_asked pairs path)) (value_of (codes "--input") pairs)

abbrev pub encode_of : List (List ℕ) → Words
encode_of words = command_of (encode_keys (stands_as_key (codes "--name") words)) encode_asked words

-- ---- decode

abbrev pub decode_keys : List Key
decode_keys = once (codes "--input") is_path ∷ once (codes "--form") (λ value. is_some (form_of value)) ∷ []

-- the form that the pairs ask for, or that of a file
abbrev pub form_asked : List (List ℕ × List ℕ) → Form
form_asked pairs = unwrap_or (option_and_then form_of (value_of (codes "--form") pairs)) File

abbrev pub decode_asked : List (List ℕ × List ℕ) → Option Command
decode_asked pairs = option_map (λ path. Decode (record { path = path; form = form_asked pairs })) (value_of (codes "--input") pairs)

abbrev pub decode_of : List (List ℕ) → Words
decode_of words = command_of decode_keys decode_asked words

-- ---- check

abbrev pub check_keys : List Key
check_keys = once (codes "--nzb") is_path ∷ []

abbrev pub check_asked : List (List ℕ × List ℕ) → Option Command
check_asked pairs = option_map (λ path. Check path) (value_of (codes "--nzb") pairs)

abbrev pub check_of : List (List ℕ) → Words
check_of words = command_of check_keys check_asked words

-- ---- post

abbrev pub asks_to_post : Result PostAsked ℕ → Words
asks_to_post (Ok asked) = Asks (Post asked)
asks_to_post (Err number) = Refused number

-- ---- index

abbrev pub asks_to_index : Result IndexAsked ℕ → Words
asks_to_index (Ok asked) = Asks (Index asked)
asks_to_index (Err number) = Refused number

-- ---- all words

abbrev pub words_of : List (List ℕ) → Words
words_of [] = Refused 1
words_of (command ∷ words) =
    if bytes_eq command (codes "encode") then encode_of words
    else if bytes_eq command (codes "decode") then decode_of words
    else if bytes_eq command (codes "check") then check_of words
    else if bytes_eq command (codes "post") then asks_to_post (post_of words)
    else if bytes_eq command (codes "index") then asks_to_index (index_of words)
    else Refused 1

-- the words are refused
abbrev pub IsRefused : Words → Type 0
IsRefused (Asks command) = ⊥
IsRefused (Refused number) = Unit {0}

-- the number of the refused word, if one is
abbrev pub refused_number : Words → Option ℕ
refused_number (Asks command) = None
refused_number (Refused number) = Some number
