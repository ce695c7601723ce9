-- The servers that the words of `fetch` name.
use Rattle.std.proofs.Common.{◌≡◌, ◌≤◌, ◌<◌, ℕ, ◌+◌, Bool, true, false, List, [], ◌∷◌, ◌++◌, length, map, Option, Some, None, refl, sym, ◌∙◌, ap, arith, subst, append_assoc, length-append, slice_set, take, zero-add}
use Rattle.std.specs.Prelude.{All, IfSome, fold, nat_le, ◌&&◌}
use Rattle.std.specs.List.{cons_option}
use Rattle.std.specs.Option.{option_and_then, option_map}
use Rattle.std.proofs.lemmas.Bool.{and_parts, cond_both, leb-true}
use Rattle.std.proofs.lemmas.List.Elements.{All-cons, All-nil, filter_map-append}
use Rattle.std.proofs.lemmas.List.{append-nil, length-map, length-set, length-take, map-append, take_more_set}
use Rattle.std.proofs.lemmas.List.Sums.{sum_by-append}
use Rattle.numbers.specs.Numbers.{decimal_of, within}
use Rattle.server_logins.specs.Cut.{cut_at}
use Rattle.server_logins.specs.Server.{is_server}
use Rattle.server_logins.proofs.ServerLaws.{server_from_test}
use Rattle.command_words.specs.Keys.{has_leading_zero, number_in}
use Rattle.command_words.specs.Servers.{IsServerAllowed, ServerAsked, has_room, is_next_server, links_of, marked_of, marked_of_cut, server_at, server_found, server_of, servers_of}
use Rattle.command_words.specs.declared.servers.ServerWords.{ServerWords}
use Rattle.command_words.proofs.KeysLemmas.{AreTaken}
use Rattle.limits.specs.declared.TheConstants.{MOST_SERVERS, MOST_LINKS, MOST_LEVEL}

-- ---- lists of servers

-- the servers of a value and of others behind it
pub servers_go_on : (before : List ServerAsked) (value : List ℕ) (values : List (List ℕ)) → (before ++ servers_of (value ∷ [])) ++ servers_of values ≡ before ++ servers_of (value ∷ values)
servers_go_on before value values = append_assoc before (servers_of (value ∷ [])) (servers_of values) ∙ ap (λ l. before ++ l) (sym (filter_map-append server_of (value ∷ []) values))

put_length : (server : Option ServerAsked) (servers : List ServerAsked) → length (cons_option server servers) ≤ length servers + 1
put_length None servers = omega arith
put_length (Some server) servers = omega arith

pub few_servers : (values : List (List ℕ)) → length (servers_of values) ≤ length values
few_servers [] = omega arith
few_servers (value ∷ values) = omega (arith, put_length (server_of value) (servers_of values), few_servers values)

links_from : (links : ℕ) (servers : List ServerWords) → fold (λ n (server : ServerWords). n + server.links) links servers ≡ fold (λ n (server : ServerAsked). n + server.links) links (map server_found servers)
links_from links [] = refl
links_from links (server ∷ servers) = links_from (links + server.links) servers

pub links_found : (servers : List ServerWords) → fold (λ n (server : ServerWords). n + server.links) 0 servers ≡ links_of (map server_found servers)
links_found servers = links_from 0 servers

-- ---- a list in an array

pub push_room : (all : List ServerWords) (len : ℕ) (now : List ServerAsked) → map server_found (take len all) ≡ now → length all ≡ MOST_SERVERS → length now < MOST_SERVERS → len < MOST_SERVERS
push_room all len now is long few =
    let same = ap (λ (l : List ServerAsked). length l) (sym is) ∙ length-map (take len all) server_found ∙ length-take len all in
    omega (arith, same, long, few)

pub pushed : (all : List ServerWords) (len : ℕ) (now : List ServerAsked) (server : ServerWords) → map server_found (take len all) ≡ now → length all ≡ MOST_SERVERS → len < MOST_SERVERS
    → map server_found (take (len + 1) (slice_set all len server)) ≡ now ++ server_found server ∷ []
pushed all len now server is long room =
    ap (map server_found) (take_more_set all len server (omega (arith, long, room)))
    ∙ map-append server_found (take len all) (server ∷ []) ∙ ap (λ l. l ++ server_found server ∷ []) is

pub pushed_length : (all : List ServerWords) (len : ℕ) (server : ServerWords) → length all ≡ MOST_SERVERS → length (slice_set all len server) ≡ MOST_SERVERS
pushed_length all len server long = length-set all len server ∙ long

-- ---- one more value

-- a list of servers before some values, and one behind the first of them
pub one_server_more : (servers new : List ServerAsked) (values total rest : List (List ℕ)) (value given : List ℕ) → new ≡ servers ++ servers_of (given ∷ []) → value ≡ given → values ≡ value ∷ rest
    → length servers + length values ≤ MOST_SERVERS → servers ++ servers_of values ≡ servers_of total → (length new + length rest ≤ MOST_SERVERS) × (new ++ servers_of rest ≡ servers_of total)
one_server_more servers new values total rest value given new_is value_is values_are room same =
    let new_length = ap (λ (l : List ServerAsked). length l) new_is ∙ length-append servers (servers_of (given ∷ [])) in
    let values_length = ap (λ (l : List (List ℕ)). length l) values_are in
    let one = few_servers (given ∷ []) in (
      omega (arith, new_length, values_length, one, room),
      ap (λ l. l ++ servers_of rest) new_is ∙ servers_go_on servers given rest ∙ ap (λ v. servers ++ servers_of (v ∷ rest)) (sym value_is) ∙ ap (λ l. servers ++ servers_of l) (sym values_are) ∙ same,
    )

pub same_servers : (servers new : List ServerAsked) (values total rest : List (List ℕ)) → new ≡ servers → values ≡ rest
    → length servers + length values ≤ MOST_SERVERS → servers ++ servers_of values ≡ servers_of total → (length new + length rest ≤ MOST_SERVERS) × (new ++ servers_of rest ≡ servers_of total)
same_servers servers new values total rest new_is values_are room same =
    let new_length = ap (λ (l : List ServerAsked). length l) new_is in
    let values_length = ap (λ (l : List (List ℕ)). length l) values_are in (
      omega (arith, new_length, values_length, room),
      ap (λ l. l ++ servers_of rest) new_is ∙ ap (λ l. servers ++ servers_of l) (sym values_are) ∙ same,
    )

-- ---- what a server may be

within_limits : (least most : ℕ) (number : Option ℕ) → IfSome (within least most number) (λ n. (least ≤ n) × (n ≤ most))
within_limits least most None = tt
within_limits least most (Some number) =
    cond_both (nat_le least number && nat_le number most) (Some number) None (λ o. IfSome o (λ n. (least ≤ n) × (n ≤ most)))
    (λ is. let parts = and_parts (nat_le least number) (nat_le number most) is in (leb-true least number parts.0, leb-true number most parts.1))
    (λ is. tt)

number_within : (least most : ℕ) (value : List ℕ) → IfSome (number_in least most value) (λ n. (least ≤ n) × (n ≤ most))
number_within least most value =
    cond_both (has_leading_zero value) None (within least most (decimal_of value)) (λ o. IfSome o (λ n. (least ≤ n) × (n ≤ most))) (λ is. tt) (λ is. within_limits least most (decimal_of value))

marked_within : (mark least most default : ℕ) (text : List ℕ) → least ≤ default → default ≤ most → IfSome (marked_of mark least most default text) (λ m. (least ≤ m.1) × (m.1 ≤ most))
marked_within mark least most default text low high = by_cut (cut_at mark text)
  where
    mapped : (front : List ℕ) (number : Option ℕ) → IfSome number (λ n. (least ≤ n) × (n ≤ most)) → IfSome {T = List ℕ × ℕ} (option_map (λ n. (front, n)) number) (λ m. (least ≤ m.1) × (m.1 ≤ most))
    mapped front None limits = tt
    mapped front (Some number) limits = limits

    by_cut : (cut : Option (List ℕ × List ℕ)) → IfSome (marked_of_cut least most default text cut) (λ m. (least ≤ m.1) × (m.1 ≤ most))
    by_cut None = (low, high)
    by_cut (Some cut) = mapped cut.0 (number_in least most cut.1) (number_within least most cut.1)

allowed_at : (level : ℕ) (linked : List ℕ × ℕ) → level ≤ MOST_LEVEL → 1 ≤ linked.1 → linked.1 ≤ MOST_LINKS → IfSome (server_at level linked) IsServerAllowed
allowed_at level linked top least most =
    cond_both (is_server linked.0) (Some (record { address = linked.0; links = linked.1; level = level })) None (λ o. IfSome o IsServerAllowed)
    (λ is. record { address = server_from_test linked.0 is; links_least = least; links_most = most; level = top })
    (λ is. tt)

by_links : (level : ℕ) → level ≤ MOST_LEVEL → (linked : Option (List ℕ × ℕ)) → IfSome linked (λ m. (1 ≤ m.1) × (m.1 ≤ MOST_LINKS)) → IfSome (option_and_then (server_at level) linked) IsServerAllowed
by_links level top None limits = tt
by_links level top (Some linked) limits = allowed_at level linked top limits.0 limits.1

by_level : (leveled : Option (List ℕ × ℕ)) → IfSome leveled (λ m. (0 ≤ m.1) × (m.1 ≤ MOST_LEVEL)) → IfSome (option_and_then (λ (m : List ℕ × ℕ). option_and_then (server_at m.1) (marked_of 42 1 MOST_LINKS 1 m.0)) leveled) IsServerAllowed
by_level None limits = tt
by_level (Some leveled) limits = by_links leveled.1 limits.1 (marked_of 42 1 MOST_LINKS 1 leveled.0) (marked_within 42 1 MOST_LINKS 1 leveled.0 (omega arith) (omega arith))

server_allowed : (value : List ℕ) → IfSome (server_of value) IsServerAllowed
server_allowed value = by_level (marked_of 64 0 MOST_LEVEL 0 value) (marked_within 64 0 MOST_LEVEL 0 value (omega arith) (omega arith))

put_allowed : (server : Option ServerAsked) (servers : List ServerAsked) → IfSome server IsServerAllowed → All IsServerAllowed servers → All IsServerAllowed (cons_option server servers)
put_allowed None servers one all = all
put_allowed (Some server) servers one all = All-cons IsServerAllowed server servers one all

pub all_allowed : (values : List (List ℕ)) → All IsServerAllowed (servers_of values)
all_allowed [] = All-nil IsServerAllowed
all_allowed (value ∷ values) = put_allowed (server_of value) (servers_of values) (server_allowed value) (all_allowed values)

-- ---- servers that are taken one after the other

room_says : (links : ℕ) (server : Option ServerAsked) → has_room links server ≡ true → links + links_of (cons_option server []) ≤ 64
room_says links None room = cc
room_says links (Some server) room = let e : links_of (server ∷ []) ≡ server.links = zero-add server.links in omega (arith, e, leb-true (links + server.links) 64 room)

-- their links are at most 64 together
pub links_fit : (before values : List (List ℕ)) → AreTaken is_next_server before values → links_of (servers_of before) ≤ 64 → links_of (servers_of (before ++ values)) ≤ 64
links_fit before [] taken most = subst (λ l. links_of (servers_of l) ≤ 64) (sym (append-nil before)) most
links_fit before (value ∷ values) taken most =
    let room = room_says (links_of (servers_of before)) (server_of value) taken.0 in
    let more : links_of (servers_of (before ++ value ∷ [])) ≡ links_of (servers_of before) + links_of (servers_of (value ∷ [])) =
    ap links_of (filter_map-append server_of before (value ∷ [])) ∙ sum_by-append (λ (server : ServerAsked). server.links) (servers_of before) (servers_of (value ∷ [])) in
    subst (λ l. links_of (servers_of l) ≤ 64) (append_assoc before (value ∷ []) values) (links_fit (before ++ value ∷ []) values taken.1 (omega (arith, room, more)))

put_some : (links : ℕ) (server : Option ServerAsked) (servers : List ServerAsked) → has_room links server ≡ true → 1 ≤ length (cons_option server servers)
put_some links None servers room = cc
put_some links (Some server) servers room = omega arith

pub some_server : (values : List (List ℕ)) → AreTaken is_next_server [] values → 1 ≤ length values → 1 ≤ length (servers_of values)
some_server [] taken some = absurd (omega arith)
some_server (value ∷ values) taken some = put_some 0 (server_of value) (servers_of values) taken.0
