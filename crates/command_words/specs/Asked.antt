-- What a reading of the words answers.
use Rattle.std.specs.Prelude.{◌≡◌, ◌+◌, ◌≤◌, ◌++◌, ◌∷◌, [], ℕ, Bool, if◌then◌else◌, List, drop, get_or, length, take, is_some, Result, Ok, Err}
use Rattle.server_logins.specs.Server.{is_server}
use Rattle.command_words.specs.CommandLine.{BodyAsked, PartAsked, Words}
use Rattle.command_words.specs.CommandLine.Words.{Asks, Refused}
use Rattle.command_words.specs.CommandLine.Command.{Check, Decode, Encode, Index, Post}
use Rattle.command_words.specs.Index.{IsIndexAllowed, index_found, is_first, is_group, is_last}
use Rattle.command_words.specs.Keys.{Key, form_of, is_header_name, is_named_path, is_path, number_in, pairs_of}
use Rattle.command_words.specs.Post.{IsPostAllowed, post_found}
use Rattle.command_words.specs.PostValues.{is_comment, is_domain, is_from, is_newsgroups, is_token}
use Rattle.command_words.specs.Servers.{is_next_server}
use Rattle.command_words.specs.declared.keys.Key.{Key as TableKey}
use Rattle.command_words.specs.declared.keys.Rule.{Rule}
use Rattle.command_words.specs.declared.keys.Rule.TheVariants.{Comment, Domain, FetchServer, First, Form, From, Group, HeaderName, Last, NamedPath, Newsgroups, Number, Path, Server, Token}
use Rattle.command_words.specs.declared.words.Command.{Command}
use Rattle.command_words.specs.declared.words.Command.TheVariants as given
use Rattle.command_words.specs.declared.words.CheckWords.{CheckWords}
use Rattle.command_words.specs.declared.words.DecodeWords.{DecodeWords}
use Rattle.command_words.specs.declared.words.EncodeWords.{EncodeWords}
use Rattle.limits.specs.declared.TheConstants.{LEAST_LINE, MOST_LINE, MOST_PART_BYTES, MOST_SERVERS}

-- ---- keys in a table

-- how often a key of a rule may stand
abbrev pub most_times : Rule → ℕ
most_times FetchServer = MOST_SERVERS
most_times _ = 1

-- the values that a rule takes, beside those that the key has so far
abbrev pub takes_by : Rule → List (List ℕ) → List ℕ → Bool
takes_by Path before value = is_path value
takes_by NamedPath before value = is_named_path value
takes_by HeaderName before value = is_header_name value
takes_by (Number least most) before value = is_some (number_in least most value)
takes_by Form before value = is_some (form_of value)
takes_by Server before value = is_server value
takes_by FetchServer before value = is_next_server before value
takes_by From before value = is_from value
takes_by Newsgroups before value = is_newsgroups value
takes_by Comment before value = is_comment value
takes_by Token before value = is_token value
takes_by Domain before value = is_domain value
takes_by Group before value = is_group value
takes_by (First last) before value = is_first last value
takes_by (Last first) before value = is_last first value

-- which paths a command takes, where a name is given or isn't
abbrev pub path_rule : Bool → Rule
path_rule is_named = if is_named then Path else NamedPath

-- a word that is a key of a rule
abbrev pub key_by : List ℕ → Rule → Key
key_by word rule = record { word = word; most = most_times rule; takes = takes_by rule }

-- a key of a table
abbrev pub key_model : TableKey → Key
key_model key = key_by key.word.now key.rule

-- ---- pairs

-- words as pairs, without a last one that is alone
abbrev pub paired : List (List ℕ) → List (List ℕ × List ℕ)
paired [] = []
paired (key ∷ []) = []
paired (key ∷ value ∷ words) = (key, value) ∷ paired words

-- the words are the pairs that they ask for, or the word of the answered number is the first that is refused
abbrev pub ChecksPairs : List Key → List (List ℕ) → Result (Unit {0}) ℕ → Type 0
ChecksPairs keys words (Ok done) = pairs_of keys 2 [] words ≡ Ok (paired words)
ChecksPairs keys words (Err number) = pairs_of keys 2 [] words ≡ Err number

-- the pair at an index goes on behind those before it, or a word of it is the first that is refused
abbrev pub ChecksPair : List Key → List (List ℕ) → ℕ → Result (Unit {0}) ℕ → Type 0
ChecksPair keys words at (Ok done) =
    (at + 2 ≤ length words)
    × (pairs_of keys (at + 2) (paired (take at words)) (drop at words)
    ≡ pairs_of keys (at + 2 + 2) (paired (take at words) ++ (get_or words at [], get_or words (at + 1) []) ∷ []) (drop (at + 2) words))
ChecksPair keys words at (Err number) = pairs_of keys (at + 2) (paired (take at words)) (drop at words) ≡ Err number

-- ---- commands

-- what `encode` was found to be asked for
abbrev pub asked_of : EncodeWords → PartAsked
asked_of asked = record { path = asked.path.now; name = asked.name; line = asked.line; part_size = asked.part_size; part = asked.part }

-- what `decode` was found to be asked for
abbrev pub body_asked : DecodeWords → BodyAsked
body_asked asked = record { path = asked.path.now; form = asked.form }

-- the numbers of `encode` are within their limits
pub record IsEncodeAllowed (asked : EncodeWords) : Type 0 where
  pub line_least : LEAST_LINE ≤ asked.line
  pub line_most : asked.line ≤ MOST_LINE
  pub part_size_least : 1 ≤ asked.part_size
  pub part_size_most : asked.part_size ≤ MOST_PART_BYTES
  pub part_least : 1 ≤ asked.part

abbrev pub IsAllowed : Command → Type 0
IsAllowed (given.Encode asked) = IsEncodeAllowed asked
IsAllowed (given.Decode asked) = Unit {0}
IsAllowed (given.Check asked) = Unit {0}
IsAllowed (given.Post asked) = IsPostAllowed (post_found asked)
IsAllowed (given.Index asked) = IsIndexAllowed (index_found asked)

-- the words behind `encode` ask for what was answered, or the word of the answered number is the first that is refused
abbrev pub ReadsEncode : Words → Result EncodeWords ℕ → Type 0
ReadsEncode words (Ok asked) = words ≡ Asks (Encode (asked_of asked))
ReadsEncode words (Err number) = words ≡ Refused number

-- the same of the words behind `decode`
abbrev pub ReadsDecode : Words → Result DecodeWords ℕ → Type 0
ReadsDecode words (Ok asked) = words ≡ Asks (Decode (body_asked asked))
ReadsDecode words (Err number) = words ≡ Refused number

-- the same of the words behind `check`
abbrev pub ReadsCheck : Words → Result CheckWords ℕ → Type 0
ReadsCheck words (Ok asked) = words ≡ Asks (Check asked.path.now)
ReadsCheck words (Err number) = words ≡ Refused number

-- the same of all words
abbrev pub ReadsCommand : Words → Result Command ℕ → Type 0
ReadsCommand words (Ok (given.Encode asked)) = words ≡ Asks (Encode (asked_of asked))
ReadsCommand words (Ok (given.Decode asked)) = words ≡ Asks (Decode (body_asked asked))
ReadsCommand words (Ok (given.Check asked)) = words ≡ Asks (Check asked.path.now)
ReadsCommand words (Ok (given.Post asked)) = words ≡ Asks (Post (post_found asked))
ReadsCommand words (Ok (given.Index asked)) = words ≡ Asks (Index (index_found asked))
ReadsCommand words (Err number) = words ≡ Refused number
