-- The words of the command `fetch`.
use Rattle.std.specs.Prelude.{◌≡◌, ◌≤◌, ℕ, ◌+◌, if◌then◌else◌, List, [], ◌∷◌, length, Result, Ok, Err, Option, is_some, IfSome, All, codes}
use Rattle.std.specs.Option.{option_and_then, option_copied, unwrap_or}
use Rattle.command_words.specs.Keys.{Key, has_all, is_path, number_in, once, pairs_of, patience_of, text_of, value_of, values_of}
use Rattle.command_words.specs.Servers.{IsServerAllowed, ServerAsked, is_next_server, links_of, servers_of}
use Rattle.command_words.specs.declared.fetch.FetchWords.{FetchWords}
use Rattle.limits.specs.declared.TheConstants.{MOST_PATIENCE, MOST_SERVERS, MOST_LINKS, MOST_DEPTH}

-- Files that are to be fetched: the path of the NZB text that lists them, the news servers in the order of the words, how many
-- requests a link may have without an answer, after how many receives that got nothing a link is given up, and the path of the
-- login file.
pub record FetchAsked : Type 0 where
  pub path : List ℕ
  pub servers : List ServerAsked
  pub depth : ℕ
  pub patience : ℕ
  pub login : Option (List ℕ)

-- how many requests a link may have without an answer
abbrev pub depth_of : List ℕ → Option ℕ
depth_of = number_in 1 MOST_DEPTH

-- The keys of `fetch`. It is the one command that takes a key more than once: each server has its own.
abbrev pub fetch_keys : List Key
fetch_keys =
    once (codes "--nzb") is_path
    ∷ record { word = codes "--server"; most = MOST_SERVERS; takes = is_next_server }
    ∷ once (codes "--depth") (λ value. is_some (depth_of value))
    ∷ once (codes "--patience") (λ value. is_some (patience_of value))
    ∷ once (codes "--login") is_path ∷ []

-- the keys that have to be there
abbrev pub fetch_required : List (List ℕ)
fetch_required = codes "--nzb" ∷ codes "--server" ∷ []

-- what pairs ask for that have all that has to be there
abbrev pub fetch_asked : List (List ℕ × List ℕ) → FetchAsked
fetch_asked pairs = record {
  path = text_of (codes "--nzb") pairs;
  servers = servers_of (values_of (codes "--server") pairs);
  depth = unwrap_or (option_and_then depth_of (value_of (codes "--depth") pairs)) 8;
  patience = unwrap_or (option_and_then patience_of (value_of (codes "--patience") pairs)) 1500;
  login = value_of (codes "--login") pairs;
}

-- pairs that lack a required key ask for nothing, and are refused at this number
abbrev pub fetch_of_pairs : ℕ → Result (List (List ℕ × List ℕ)) ℕ → Result FetchAsked ℕ
fetch_of_pairs missing (Ok pairs) = if has_all fetch_required pairs then Ok (fetch_asked pairs) else Err missing
fetch_of_pairs missing (Err number) = Err number

-- What the words behind `fetch` ask for, or the number of the first word that is refused, where that behind the command is
-- the second. Where a required key is missing, it is the number behind the last word.
abbrev pub fetch_of : List (List ℕ) → Result FetchAsked ℕ
fetch_of words = fetch_of_pairs (length words + 2) (pairs_of fetch_keys 2 [] words)

-- ---- what was found

-- what `fetch` was found to be asked for
abbrev pub fetch_found : FetchWords → FetchAsked
fetch_found asked = record {
  path = asked.path.now;
  servers = asked.servers;
  depth = asked.depth;
  patience = asked.patience;
  login = option_copied asked.login;
}

-- the words behind `fetch` ask for what was answered, or the word of the answered number is the first that is refused
abbrev pub ReadsFetch : Result FetchAsked ℕ → Result FetchWords ℕ → Type 0
ReadsFetch asked (Ok found) = asked ≡ Ok (fetch_found found)
ReadsFetch asked (Err number) = asked ≡ Err number

-- what `fetch` is asked for keeps to the rules of what it goes into
pub record IsFetchAllowed (asked : FetchAsked) : Type 0 where
  pub path : 1 ≤ length asked.path
  pub some : 1 ≤ length asked.servers
  pub few : length asked.servers ≤ MOST_SERVERS
  pub servers : All IsServerAllowed asked.servers
  pub links : links_of asked.servers ≤ MOST_LINKS
  pub depth_least : 1 ≤ asked.depth
  pub depth_most : asked.depth ≤ MOST_DEPTH
  pub patience_least : 1 ≤ asked.patience
  pub patience_most : asked.patience ≤ MOST_PATIENCE
  pub login : IfSome asked.login (λ path. 1 ≤ length path)
