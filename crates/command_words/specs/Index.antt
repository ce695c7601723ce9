-- The words of the command `index`.
use Rattle.std.specs.Prelude.{◌≡◌, ◌≤◌, ℕ, ◌+◌, ◌-◌, ◌&&◌, Bool, true, nat_le, if◌then◌else◌, List, [], ◌∷◌, length, Result, Ok, Err, Option, Some, None, is_some, IfSome, codes}
use Rattle.std.specs.Option.{option_and_then, option_copied, unwrap_or}
use Rattle.std.specs.Str.{bytes_eq}
use Rattle.article_head.specs.Field.{is_word}
use Rattle.server_logins.specs.Server.{IsServer, is_server}
use Rattle.nntp_lines.specs.GroupName.{IsGroupName, is_group_byte}
use Rattle.command_words.specs.Keys.{Key, has_all, is_path, number_in, once, pairs_of, patience_of, text_of, value_of}
use Rattle.command_words.specs.declared.index.IndexWords.{IndexWords}
use Rattle.limits.specs.declared.TheConstants.{MOST_ARTICLE, MOST_PATIENCE}

-- Articles of a newsgroup that are to be indexed: the news server's address, the newsgroup, the numbers of the first and of the
-- last one, after how many receives that got nothing the server is given up, and the path of the login file.
pub record IndexAsked : Type 0 where
  pub server : List ℕ
  pub group : List ℕ
  pub first : ℕ
  pub last : ℕ
  pub patience : ℕ
  pub login : Option (List ℕ)

-- ---- what a value has to be

-- the name of one newsgroup
abbrev pub is_group : List ℕ → Bool
is_group value = is_word is_group_byte 200 value

-- the number of an article
abbrev pub article_of : List ℕ → Option ℕ
article_of = number_in 1 MOST_ARTICLE

-- from a number to one that isn't below it, at most 10,000,000 numbers
abbrev pub is_range : ℕ → ℕ → Bool
is_range first last = nat_le first last && nat_le (last - first) 9999999

-- two ends of a range, where both are known
abbrev pub may_be_range : Option ℕ → Option ℕ → Bool
may_be_range None last = true
may_be_range (Some first) None = true
may_be_range (Some first) (Some last) = is_range first last

-- the first number, by the last one where that is known, and the last by the first
abbrev pub is_first : Option ℕ → List ℕ → Bool
is_first last value = is_some (article_of value) && may_be_range (article_of value) last

abbrev pub is_last : Option ℕ → List ℕ → Bool
is_last first value = is_some (article_of value) && may_be_range first (article_of value)

-- the number that a key gives before another key comes
abbrev pub number_before : List ℕ → List ℕ → List (List ℕ) → Option ℕ
number_before key other [] = None
number_before key other (word ∷ []) = None
number_before key other (word ∷ value ∷ words) =
    if bytes_eq key word then article_of value else if bytes_eq other word then None else number_before key other words

-- ---- the words

-- The keys of `index`. Of the two ends of the range the one that comes later is judged by the one before it.
abbrev pub index_keys : List (List ℕ) → List Key
index_keys words =
    once (codes "--server") is_server
    ∷ once (codes "--group") is_group
    ∷ once (codes "--first") (is_first (number_before (codes "--last") (codes "--first") words))
    ∷ once (codes "--last") (is_last (number_before (codes "--first") (codes "--last") words))
    ∷ once (codes "--patience") (λ value. is_some (patience_of value))
    ∷ once (codes "--login") is_path ∷ []

-- the keys that have to be there
abbrev pub index_required : List (List ℕ)
index_required = codes "--server" ∷ codes "--group" ∷ codes "--first" ∷ codes "--last" ∷ []

-- what pairs ask for that have all that has to be there
abbrev pub index_asked : List (List ℕ × List ℕ) → IndexAsked
index_asked pairs = record {
  server = text_of (codes "--server") pairs;
  group = text_of (codes "--group") pairs;
  first = unwrap_or (option_and_then article_of (value_of (codes "--first") pairs)) 1;
  last = unwrap_or (option_and_then article_of (value_of (codes "--last") pairs)) 1;
  patience = unwrap_or (option_and_then patience_of (value_of (codes "--patience") pairs)) 1500;
  login = value_of (codes "--login") pairs;
}

-- pairs that lack a required key ask for nothing, and are refused at this number
abbrev pub index_of_pairs : ℕ → Result (List (List ℕ × List ℕ)) ℕ → Result IndexAsked ℕ
index_of_pairs missing (Ok pairs) = if has_all index_required pairs then Ok (index_asked pairs) else Err missing
index_of_pairs missing (Err number) = Err number

-- What the words behind `index` ask for, or the number of the first word that is refused, where that behind the command is
-- the second. Where a required key is missing, it is the number behind the last word.
abbrev pub index_of : List (List ℕ) → Result IndexAsked ℕ
index_of words = index_of_pairs (length words + 2) (pairs_of (index_keys words) 2 [] words)

-- ---- what was found

-- what `index` was found to be asked for
abbrev pub index_found : IndexWords → IndexAsked
index_found asked = record {
  server = asked.server.now;
  group = asked.group;
  first = asked.first;
  last = asked.last;
  patience = asked.patience;
  login = option_copied asked.login;
}

-- the words behind `index` ask for what was answered, or the word of the answered number is the first that is refused
abbrev pub ReadsIndex : Result IndexAsked ℕ → Result IndexWords ℕ → Type 0
ReadsIndex asked (Ok found) = asked ≡ Ok (index_found found)
ReadsIndex asked (Err number) = asked ≡ Err number

-- what `index` is asked for keeps to the rules of what it goes into
pub record IsIndexAllowed (asked : IndexAsked) : Type 0 where
  pub server : IsServer asked.server
  pub group : IsGroupName asked.group
  pub first_least : 1 ≤ asked.first
  pub last_least : asked.first ≤ asked.last
  pub last_most : asked.last ≤ MOST_ARTICLE
  pub few : asked.last - asked.first ≤ 9999999
  pub patience_least : 1 ≤ asked.patience
  pub patience_most : asked.patience ≤ MOST_PATIENCE
  pub login : IfSome asked.login (λ path. 1 ≤ length path)
