-- Links, each of which is to one of so many servers.
use Rattle.std.proofs.Common.{◌≡◌, ℕ, zero, suc, ◌<◌, Bool, true, List, [], ◌∷◌, ◌++◌, Some, length, set, get_or, refl, arith}
use Rattle.std.specs.Prelude.{nat_lt, slice_get}
use Rattle.std.proofs.lemmas.Bool.{and_from, and_parts, lt-ltb, ltb-true}
use Rattle.news_spool.specs.declared.link_state.LinkState.{LinkState}
use Rattle.news_spool.specs.Links.{are_served}

pub one_more : (servers : ℕ) (links : List LinkState) (link : LinkState) → are_served servers links ≡ true → link.server < servers
    → are_served servers (links ++ link ∷ []) ≡ true
one_more servers [] link served within = and_from (nat_lt link.server servers) true (lt-ltb link.server servers within) refl
one_more servers (first ∷ links) link served within =
    let parts = and_parts (nat_lt first.server servers) (are_served servers links) served in
    and_from (nat_lt first.server servers) (are_served servers (links ++ link ∷ [])) parts.0 (one_more servers links link parts.1 within)

pub one_changed : (servers : ℕ) (links : List LinkState) (k : ℕ) (link : LinkState) → are_served servers links ≡ true → link.server < servers
    → are_served servers (set links k link) ≡ true
one_changed servers [] k link served within = refl
one_changed servers (first ∷ links) zero link served within =
    let parts = and_parts (nat_lt first.server servers) (are_served servers links) served in
    and_from (nat_lt link.server servers) (are_served servers links) (lt-ltb link.server servers within) parts.1
one_changed servers (first ∷ links) (suc k) link served within =
    let parts = and_parts (nat_lt first.server servers) (are_served servers links) served in
    and_from (nat_lt first.server servers) (are_served servers (set links k link)) parts.0 (one_changed servers links k link parts.1 within)

pub one_served : (servers : ℕ) (links : List LinkState) (k : ℕ) (link : LinkState) → are_served servers links ≡ true → k < length links → link ≡ get_or links k link
    → link.server < servers
one_served servers [] k link served inside is = absurd (omega arith)
one_served servers (first ∷ links) zero link served inside is =
    let parts = and_parts (nat_lt first.server servers) (are_served servers links) served in
    rw is (ltb-true first.server servers parts.0)
one_served servers (first ∷ links) (suc k) link served inside is =
    let parts = and_parts (nat_lt first.server servers) (are_served servers links) served in
    one_served servers links k link parts.1 (omega arith) is

-- a link that changes and stays with its server
pub same_server : (servers : ℕ) (links : List LinkState) (k : ℕ) (state after : LinkState) → are_served servers links ≡ true → k < length links → state ≡ get_or links k state
    → after.server ≡ state.server → are_served servers (set links k after) ≡ true
same_server servers links k state after served inside is same =
    one_changed servers links k after served (omega (arith, same, one_served servers links k state served inside is))

-- a link that is live was opened
pub live_inside : (live : List Bool) (k : ℕ) → slice_get live k ≡ Some true → k < length live
live_inside [] k is = cc
live_inside (first ∷ live) zero is = omega arith
live_inside (first ∷ live) (suc k) is = omega (arith, live_inside live k is)
