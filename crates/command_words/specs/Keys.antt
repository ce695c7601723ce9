-- Pairs of a key and its value on the command line, in any order.
use Rattle.std.specs.Prelude.{ℕ, ◌+◌, ◌-◌, ◌==◌, ◌&&◌, ◌||◌, Bool, false, not, nat_le, List, [], ◌∷◌, ◌++◌, length, get_or, if◌then◌else◌, Result, Ok, Err, Option, Some, None, is_some, codes}
use Rattle.std.specs.Str.{bytes_eq}
use Rattle.std.specs.List.{list_all}
use Rattle.std.specs.Option.{unwrap_or}
use Rattle.numbers.specs.Numbers.{decimal_of, within}
use Rattle.command_words.specs.declared.keys.Form.{Form}
use Rattle.command_words.specs.declared.keys.Form.TheVariants.{File, Wire}
use Rattle.limits.specs.declared.TheConstants.{LEAST_LINE, MOST_LINE, MOST_PART_BYTES, MOST_PATIENCE}

-- ---- what a value has to be

-- what follows the last slash of the rest, or else what is given
abbrev pub name_after : List ℕ → List ℕ → List ℕ
name_after name [] = name
name_after name (c ∷ rest) = if c == 47 then name_after rest rest else name_after name rest

-- the bytes behind the last slash of a path
abbrev pub file_name : List ℕ → List ℕ
file_name path = name_after path path

-- a printable character of ASCII
abbrev pub is_printable : ℕ → Bool
is_printable c = nat_le 32 c && nat_le c 126

-- 1 to 255 printable characters, with no space at either end
abbrev pub is_header_name : List ℕ → Bool
is_header_name name =
    nat_le 1 (length name) && nat_le (length name) 255 && not (get_or name 0 0 == 32) && not (get_or name (length name - 1) 0 == 32)
    && list_all is_printable name

-- a path: some bytes
abbrev pub is_path : List ℕ → Bool
is_path path = nat_le 1 (length path)

-- a path whose last part can be the name in the header
abbrev pub is_named_path : List ℕ → Bool
is_named_path path = is_header_name (file_name path)

-- a zero stands in front of other digits
abbrev pub has_leading_zero : List ℕ → Bool
has_leading_zero value = nat_le 2 (length value) && get_or value 0 0 == 48

-- the number that a value is in decimal digits without leading zeros, from the least to the most
abbrev pub number_in : ℕ → ℕ → List ℕ → Option ℕ
number_in least most value = if has_leading_zero value then None else within least most (decimal_of value)

-- how many characters a data line may have before it is full
abbrev pub line_of : List ℕ → Option ℕ
line_of = number_in LEAST_LINE MOST_LINE

-- how many bytes a part may have
abbrev pub part_size_of : List ℕ → Option ℕ
part_size_of = number_in 1 MOST_PART_BYTES

-- after how many receives that got nothing a server may be given up
abbrev pub patience_of : List ℕ → Option ℕ
patience_of = number_in 1 MOST_PATIENCE

-- how a body was saved: as the lines of a file, or as a reply off the wire
abbrev pub form_of : List ℕ → Option Form
form_of value = if bytes_eq value (codes "file") then Some File else if bytes_eq value (codes "wire") then Some Wire else None

-- ---- keys

-- a key that a command knows: how often it may stand, and the values that it takes, beside those that it has so far
pub record Key : Type 0 where
  pub word : List ℕ
  pub most : ℕ
  pub takes : List (List ℕ) → List ℕ → Bool

-- a key that may stand once
abbrev pub once : List ℕ → (List ℕ → Bool) → Key
once word takes = record { word = word; most = 1; takes = λ before. takes }

-- the key that a word is
abbrev pub key_of : List Key → List ℕ → Option Key
key_of [] word = None
key_of (key ∷ keys) word = if bytes_eq word key.word then Some key else key_of keys word

-- whether a key may stand once more than so often, if there is one
abbrev pub may_stand : Option Key → ℕ → Bool
may_stand None times = false
may_stand (Some key) times = nat_le (times + 1) key.most

-- whether a value is one that the key takes beside those that it has, if there is one
abbrev pub is_taken : Option Key → List (List ℕ) → List ℕ → Bool
is_taken None before value = false
is_taken (Some key) before value = key.takes before value

-- whether a word stands where a key stands
abbrev pub stands_as_key : List ℕ → List (List ℕ) → Bool
stands_as_key key [] = false
stands_as_key key (word ∷ []) = bytes_eq key word
stands_as_key key (word ∷ value ∷ words) = bytes_eq key word || stands_as_key key words

-- ---- pairs

-- the value that a key has in some pairs
abbrev pub value_of : List ℕ → List (List ℕ × List ℕ) → Option (List ℕ)
value_of word [] = None
value_of word (pair ∷ pairs) = if bytes_eq word pair.0 then Some pair.1 else value_of word pairs

-- all values that a key has in some pairs
abbrev pub values_of : List ℕ → List (List ℕ × List ℕ) → List (List ℕ)
values_of word [] = []
values_of word (pair ∷ pairs) = if bytes_eq word pair.0 then pair.1 ∷ values_of word pairs else values_of word pairs

-- all these keys have a value
abbrev pub has_all : List (List ℕ) → List (List ℕ × List ℕ) → Bool
has_all keys pairs = list_all (λ key. is_some (value_of key pairs)) keys

-- the value of a key, or nothing where it has none
abbrev pub text_of : List ℕ → List (List ℕ × List ℕ) → List ℕ
text_of key pairs = unwrap_or (value_of key pairs) []

-- whether a word can be the next key: the command knows it, and the pairs so far have it less often than it may stand
abbrev pub is_next_key : List Key → List (List ℕ × List ℕ) → List ℕ → Bool
is_next_key keys pairs word = may_stand (key_of keys word) (length (values_of word pairs))

-- Some pairs and those in further words, of which the first has the given number, or the number of the first word that
-- is refused: one that is no next key, or a value that its key doesn't take. A value that is missing has the number
-- behind the last word.
abbrev pub pairs_of : List Key → ℕ → List (List ℕ × List ℕ) → List (List ℕ) → Result (List (List ℕ × List ℕ)) ℕ
pairs_of keys number pairs [] = Ok pairs
pairs_of keys number pairs (word ∷ []) = if is_next_key keys pairs word then Err (number + 1) else Err number
pairs_of keys number pairs (word ∷ value ∷ words) =
    if is_next_key keys pairs word
    then (if is_taken (key_of keys word) (values_of word pairs) value then pairs_of keys (number + 2) (pairs ++ (word, value) ∷ []) words else Err (number + 1))
    else Err number
