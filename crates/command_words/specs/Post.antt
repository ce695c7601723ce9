-- The words of the command `post`.
use Rattle.std.specs.Prelude.{◌≡◌, ◌≤◌, ℕ, ◌+◌, Bool, if◌then◌else◌, List, [], ◌∷◌, length, Result, Ok, Err, Option, is_some, codes}
use Rattle.std.specs.Option.{option_and_then, option_copied, unwrap_or}
use Rattle.article_head.specs.Field.{IsComment, IsFileName, IsFrom, IsNewsgroups}
use Rattle.article_head.specs.PartId.{IsDomain, IsToken}
use Rattle.server_logins.specs.Server.{IsServer, is_server}
use Rattle.command_words.specs.Keys.{Key, file_name, has_all, is_header_name, is_named_path, is_path, line_of, once, pairs_of, part_size_of, patience_of, stands_as_key, text_of, value_of}
use Rattle.command_words.specs.PostValues.{is_comment, is_domain, is_from, is_newsgroups, is_token}
use Rattle.command_words.specs.declared.post.PostWords.{PostWords}
use Rattle.limits.specs.declared.TheConstants.{LEAST_LINE, MOST_LINE, MOST_PART_BYTES, MOST_PATIENCE}

-- A file that is to be posted: its path, the news server's address, who posts, the newsgroups, the token and the domain of the
-- message-ids, the file's name, what the subject begins with, how many characters a data line has before it is full, how many
-- bytes the parts have, after how many receives that got nothing the server is given up, and the path of the login file.
pub record PostAsked : Type 0 where
  pub path : List ℕ
  pub server : List ℕ
  pub from : List ℕ
  pub newsgroups : List ℕ
  pub token : List ℕ
  pub domain : List ℕ
  pub name : List ℕ
  pub comment : List ℕ
  pub line : ℕ
  pub part_size : ℕ
  pub patience : ℕ
  pub login : Option (List ℕ)

-- The keys of `post`. Where no `--name` is given, the last part of the path is the name, and has to be able to.
abbrev pub post_keys : Bool → List Key
post_keys is_named =
    once (codes "--input") (if is_named then is_path else is_named_path)
    ∷ once (codes "--server") is_server
    ∷ once (codes "--from") is_from
    ∷ once (codes "--group") is_newsgroups
    ∷ once (codes "--token") is_token
    ∷ once (codes "--domain") is_domain
    ∷ once (codes "--name") is_header_name
    ∷ once (codes "--comment") is_comment
    ∷ once (codes "--line") (λ value. is_some (line_of value))
    ∷ once (codes "--part-size") (λ value. is_some (part_size_of value))
    ∷ once (codes "--patience") (λ value. is_some (patience_of value))
    ∷ once (codes "--login") is_path ∷ []

-- the keys that have to be there
abbrev pub post_required : List (List ℕ)
post_required = codes "--input" ∷ codes "--server" ∷ codes "--from" ∷ codes "--group" ∷ codes "--token" ∷ codes "--domain" ∷ []

-- what pairs ask for that have all that has to be there
abbrev pub post_asked : List (List ℕ × List ℕ) → PostAsked
post_asked pairs = record {
  path = text_of (codes "--input") pairs;
  server = text_of (codes "--server") pairs;
  from = text_of (codes "--from") pairs;
  newsgroups = text_of (codes "--group") pairs;
  token = text_of (codes "--token") pairs;
  domain = text_of (codes "--domain") pairs;
  name = unwrap_or (value_of (codes "--name") pairs) (file_name (text_of (codes "--input") pairs));
  comment = text_of (codes "--comment") pairs;
  line = unwrap_or (option_and_then line_of (value_of (codes "--line") pairs)) 128;
  part_size = unwrap_or (option_and_then part_size_of (value_of (codes "--part-size") pairs)) 750000;
  patience = unwrap_or (option_and_then patience_of (value_of (codes "--patience") pairs)) 1500;
  login = value_of (codes "--login") pairs;
}

-- pairs that lack a required key ask for nothing, and are refused at this number
abbrev pub post_of_pairs : ℕ → Result (List (List ℕ × List ℕ)) ℕ → Result PostAsked ℕ
post_of_pairs missing (Ok pairs) = if has_all post_required pairs then Ok (post_asked pairs) else Err missing
post_of_pairs missing (Err number) = Err number

-- What the words behind `post` ask for, or the number of the first word that is refused, where that behind the command is
-- the second. Where a required key is missing, it is the number behind the last word.
abbrev pub post_of : List (List ℕ) → Result PostAsked ℕ
post_of words = post_of_pairs (length words + 2) (pairs_of (post_keys (stands_as_key (codes "--name") words)) 2 [] words)

-- ---- what was found

-- what `post` was found to be asked for
abbrev pub post_found : PostWords → PostAsked
post_found asked = record {
  path = asked.path.now;
  server = asked.server.now;
  from = asked.from.now;
  newsgroups = asked.newsgroups.now;
  token = asked.token.now;
  domain = asked.domain.now;
  name = asked.name;
  comment = asked.comment.now;
  line = asked.line;
  part_size = asked.part_size;
  patience = asked.patience;
  login = option_copied asked.login;
}

-- the words behind `post` ask for what was answered, or the word of the answered number is the first that is refused
abbrev pub ReadsPost : Result PostAsked ℕ → Result PostWords ℕ → Type 0
ReadsPost asked (Ok found) = asked ≡ Ok (post_found found)
ReadsPost asked (Err number) = asked ≡ Err number

-- what `post` is asked for keeps to the rules of what it goes into
pub record IsPostAllowed (asked : PostAsked) : Type 0 where
  pub server : IsServer asked.server
  pub from : IsFrom asked.from
  pub newsgroups : IsNewsgroups asked.newsgroups
  pub token : IsToken asked.token
  pub domain : IsDomain asked.domain
  pub name : IsFileName asked.name
  pub comment : IsComment asked.comment
  pub line_least : LEAST_LINE ≤ asked.line
  pub line_most : asked.line ≤ MOST_LINE
  pub part_size_least : 1 ≤ asked.part_size
  pub part_size_most : asked.part_size ≤ MOST_PART_BYTES
  pub patience_least : 1 ≤ asked.patience
  pub patience_most : asked.patience ≤ MOST_PATIENCE
