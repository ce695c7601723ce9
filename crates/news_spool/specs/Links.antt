-- The links to servers in memory, and the articles of all servers, and what each call does to them.
use Rattle.std.specs.Prelude.{◌≡◌, ℕ, ◌==◌, nat_lt, ⊤, Bool, List, [], ◌∷◌, ◌++◌, take, slice_index_or, slice_set, Option, Some, None}
use Rattle.std.specs.Option.{option_and_then, option_map}
use Rattle.std.specs.List.{find, list_all, position}
use Rattle.std.specs.Str.{bytes_eq}
use Rattle.io_traits.specs.declared.links.Got.{Got}
use Rattle.io_traits.specs.declared.links.Got.TheVariants as got
use Rattle.held_articles.specs.declared.article.Article.{Article}
use Rattle.news_spool.specs.declared.link_state.Due.{Due}
use Rattle.news_spool.specs.declared.link_state.Due.TheVariants as due
use Rattle.news_spool.specs.declared.link_state.LinkState.{LinkState}
use Rattle.news_spool.specs.declared.plan.SpoolLink.{SpoolLink}
use Rattle.news_spool.specs.declared.plan.SpoolPlan.{SpoolPlan}
use Rattle.news_spool.specs.declared.plan.SpoolServer.{SpoolServer}
use Rattle.news_spool.specs.LinkState.{due_on, ended, given, heard_bytes, new_link}
use Rattle.news_spool.specs.Pieces.{piece_at}

-- ---- opened

-- the first server with an address
abbrev pub server_of : List SpoolServer → List ℕ → Option ℕ
server_of servers address = position (λ server. bytes_eq server.address address) servers

-- the first entry for a link
abbrev pub entry_of : List SpoolLink → ℕ → Option SpoolLink
entry_of entries link = find (λ entry. entry.link == link) entries

abbrev pub ends_after : List SpoolLink → ℕ → Option ℕ
ends_after entries link = option_and_then (λ entry. entry.ends_after) (entry_of entries link)

abbrev pub quiet_after : List SpoolLink → ℕ → Option ℕ
quiet_after entries link = option_and_then (λ entry. entry.quiet_after) (entry_of entries link)

-- the link of this number, opened to an address; to one that isn't listed there is none
abbrev pub opened_link : SpoolPlan → List ℕ → ℕ → Option LinkState
opened_link plan address link =
    option_map (λ server. new_link server (ends_after plan.links link) (quiet_after plan.links link)) (server_of plan.servers address)

-- such a link comes behind the others
abbrev pub OpensLink : SpoolPlan → List ℕ → ℕ → List LinkState → List LinkState → Type 0
OpensLink plan address link before after =
    (opened : LinkState) × (opened_link plan address link ≡ Some opened) × (after ≡ before ++ opened ∷ [])

-- ---- one link

-- the state of a link
abbrev pub state_at : List LinkState → ℕ → LinkState
state_at links link = slice_index_or links link (new_link 0 None None)

-- a link ends
abbrev pub after_end : ℕ → List LinkState → List LinkState
after_end link links = slice_set links link (ended (state_at links link))

-- ---- sent

-- a server; there is none at another place
abbrev pub server_at : List SpoolServer → ℕ → SpoolServer
server_at servers server = slice_index_or servers server (record { address = []; absent = []; login = None })

-- bytes came on a link
abbrev pub after_sent : SpoolPlan → ℕ → List ℕ → List LinkState × List Article → List LinkState × List Article
after_sent plan link bytes held =
    let state = state_at held.0 link in
    let heard = heard_bytes (server_at plan.servers state.server) plan.date bytes (state, held.1) in
    (slice_set held.0 link heard.0, heard.1)

-- ---- received

-- what is due on a link to a receive into so much room, whose turn this is
abbrev pub due_at : SpoolPlan → ℕ → List LinkState → ℕ → ℕ → Due
due_at plan turn links link room = due_on (piece_at plan.pieces turn) room (state_at links link)

abbrev pub got_of : Due → Got
got_of (due.Bytes n) = got.Bytes n
got_of due.Quiet = got.Quiet
got_of due.End = got.Closed

-- the bytes that it gives are the next ones that are owed
abbrev pub GivesOwed : List LinkState → ℕ → List ℕ → Got → Type 0
GivesOwed links link buf (got.Bytes n) = take n buf ≡ take n (state_at links link).talk.owed
GivesOwed links link buf got.Quiet = ⊤
GivesOwed links link buf got.Closed = ⊤
GivesOwed links link buf got.Failed = ⊤

abbrev pub after_receive : List LinkState → ℕ → Got → List LinkState
after_receive links link (got.Bytes n) = slice_set links link (given n (state_at links link))
after_receive links link got.Quiet = links
after_receive links link got.Closed = after_end link links
after_receive links link got.Failed = after_end link links

-- ---- all links

-- each link is to one of so many servers
abbrev pub are_served : ℕ → List LinkState → Bool
are_served servers links = list_all (λ link. nat_lt link.server servers) links
