-- The news servers that a fetch asks: where each one is, over how many links it is asked, and at which level. A level above 0
-- makes a fallback, which is asked only for what the servers of lower levels don't have.
use Rattle.std.specs.Prelude.{◌≡◌, ◌≤◌, ◌↔◌, ℕ, ◌+◌, Bool, false, nat_le, if◌then◌else◌, List, [], ◌∷◌, ◌++◌, Option, Some, None, filter_map, sum_by}
use Rattle.std.specs.Option.{option_and_then, option_map}
use Rattle.server_logins.specs.Cut.{cut_at}
use Rattle.server_logins.specs.Server.{IsServer, is_server}
use Rattle.command_words.specs.Keys.{number_in}
use Rattle.command_words.specs.declared.servers.Marked.{Marked}
use Rattle.command_words.specs.declared.servers.ServerWords.{ServerWords}
use Rattle.limits.specs.declared.TheConstants.{MOST_LINKS, MOST_LEVEL}

-- a news server: its address, how many links, and the level
pub record ServerAsked : Type 0 where
  pub address : List ℕ
  pub links : ℕ
  pub level : ℕ

-- nothing, which says the default, or a mark and a number behind it
abbrev pub SaysNumber : (mark least most default : ℕ) → List ℕ → ℕ → Type 0
SaysNumber mark least most default [] number = number ≡ default
SaysNumber mark least most default (byte ∷ digits) number = (byte ≡ mark) × (number_in least most digits ≡ Some number)

-- HOST:PORT, then `*` and how many links, unless there is one, then `@` and the level, unless it is 0
pub record IsServerWord (value : List ℕ) (server : ServerAsked) : Type 0 where
  pub links_text : List ℕ
  pub level_text : List ℕ
  pub whole : value ≡ server.address ++ links_text ++ level_text
  pub address : IsServer server.address
  pub links : SaysNumber 42 1 MOST_LINKS 1 links_text server.links
  pub level : SaysNumber 64 0 MOST_LEVEL 0 level_text server.level

-- ---- as it is read

-- the text in front of a mark and the number behind it, or the whole text and a default where the mark doesn't stand
abbrev pub marked_of_cut : (least most default : ℕ) → List ℕ → Option (List ℕ × List ℕ) → Option (List ℕ × ℕ)
marked_of_cut least most default text None = Some (text, default)
marked_of_cut least most default text (Some cut) = option_map (λ number. (cut.0, number)) (number_in least most cut.1)

abbrev pub marked_of : (mark least most default : ℕ) → List ℕ → Option (List ℕ × ℕ)
marked_of mark least most default text = marked_of_cut least most default text (cut_at mark text)

abbrev pub server_at : ℕ → List ℕ × ℕ → Option ServerAsked
server_at level linked = if is_server linked.0 then Some (record { address = linked.0; links = linked.1; level = level }) else None

-- the server that a value names
abbrev pub server_of : List ℕ → Option ServerAsked
server_of value = option_and_then (λ leveled. option_and_then (server_at leveled.1) (marked_of 42 1 MOST_LINKS 1 leveled.0)) (marked_of 64 0 MOST_LEVEL 0 value)

-- the servers that some values name
abbrev pub servers_of : List (List ℕ) → List ServerAsked
servers_of values = filter_map server_of values

-- how many links they have together
abbrev pub links_of : List ServerAsked → ℕ
links_of servers = sum_by (λ server. server.links) servers

abbrev pub has_room : ℕ → Option ServerAsked → Bool
has_room links None = false
has_room links (Some server) = nat_le (links + server.links) MOST_LINKS

-- whether a value names a server whose links are at most `MOST_LINKS` with those of the servers before it
abbrev pub is_next_server : List (List ℕ) → List ℕ → Bool
is_next_server before value = has_room (links_of (servers_of before)) (server_of value)

-- ---- what was found

-- the server that was found
abbrev pub server_found : ServerWords → ServerAsked
server_found server = record { address = server.address.now; links = server.links; level = server.level }

-- the text and the number of a mark that was found
abbrev pub marked_model : Marked → List ℕ × ℕ
marked_model marked = (marked.front.now, marked.number)

-- what a server may be
pub record IsServerAllowed (server : ServerAsked) : Type 0 where
  pub address : IsServer server.address
  pub links_least : 1 ≤ server.links
  pub links_most : server.links ≤ MOST_LINKS
  pub level : server.level ≤ MOST_LEVEL

-- a value names a server exactly where it is one's word
abbrev pub ServerWordsAreRead : Type 0
ServerWordsAreRead = (value : List ℕ) (server : ServerAsked) → (server_of value ≡ Some server) ↔ IsServerWord value server
