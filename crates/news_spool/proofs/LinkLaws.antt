-- What calls do to one of the links.
use Rattle.std.proofs.Common.{◌≡◌, ℕ, ◌<◌, List, [], None, Result, Ok, Err, length, set, get_or, sym, ◌∙◌, ap}
use Rattle.std.specs.Prelude.{OnOk}
use Rattle.held_articles.specs.declared.article.Article.{Article}
use Rattle.news_spool.specs.declared.link_state.LinkState.{LinkState}
use Rattle.news_spool.specs.declared.plan.SpoolPlan.{SpoolPlan}
use Rattle.news_spool.specs.declared.plan.SpoolServer.{SpoolServer}
use Rattle.news_spool.specs.LinkState.{ended, heard_bytes, new_link}
use Rattle.news_spool.specs.Links.{after_end, after_sent, server_at, state_at}
use Rattle.news_spool.proofs.Places.{at_place, set_again, set_found}

-- what follows from a fact on `Ok`
pub OnOk-follows : {T E : Type 0} (r : Result T E) (P Q : Type 0) → (P → Q) → OnOk r P → OnOk r Q
OnOk-follows (Ok value) P Q f p = f p
OnOk-follows (Err error) P Q f p = tt

-- the link at a place, and its server
pub state_is : (links : List LinkState) (k : ℕ) (state : LinkState) → k < length links → state ≡ get_or links k state → state_at links k ≡ state
state_is links k state inside is = at_place links k state (new_link 0 None None) inside is

pub server_is : (servers : List SpoolServer) (k : ℕ) (server : SpoolServer) → k < length servers → server ≡ get_or servers k server → server ≡ server_at servers k
server_is servers k server inside is = sym (at_place servers k server (record { address = []; absent = []; login = None }) inside is)

-- bytes came on one link
pub sent_is : (plan : SpoolPlan) (links : List LinkState) (articles : List Article) (k : ℕ) (date bytes : List ℕ) (state : LinkState)
    (server : SpoolServer) (after : LinkState) (kept : List Article) → k < length links → state ≡ get_or links k state
    → server ≡ server_at plan.servers state.server → date ≡ plan.date → (after, kept) ≡ heard_bytes server date bytes (state, articles)
    → (set links k after, kept) ≡ after_sent plan k bytes (links, articles)
sent_is plan links articles k date bytes state server after kept inside is own day heard =
    ap (λ (x : LinkState × List Article). (set links k x.0, x.1))
    (heard ∙ ap (λ (server : SpoolServer). heard_bytes server date bytes (state, articles)) own
    ∙ ap (λ (date : List ℕ). heard_bytes (server_at plan.servers state.server) date bytes (state, articles)) day)
    ∙ ap (λ (x : LinkState). (set links k (heard_bytes (server_at plan.servers x.server) plan.date bytes (x, articles)).0, (heard_bytes (server_at plan.servers x.server) plan.date bytes (x, articles)).1))
    (sym (state_is links k state inside is))

-- what a link keeps once it has ended doesn't know what came before
pub ended_is : (links : List LinkState) (k : ℕ) (state after : LinkState) → k < length links → state ≡ get_or links k state → after.server ≡ state.server
    → after_end k (set links k after) ≡ after_end k links
ended_is links k state after inside is same =
    set_again links k after (ended (state_at (set links k after) k))
    ∙ ap (λ (x : LinkState). set links k (ended x)) (set_found links k after (new_link 0 None None) inside)
    ∙ ap (λ (server : ℕ). set links k (ended (record { server = server; line = after.line; talk = after.talk; ends_in = after.ends_in; quiet_in = after.quiet_in }))) same
    ∙ ap (λ (x : LinkState). set links k (ended x)) (sym (state_is links k state inside is))
