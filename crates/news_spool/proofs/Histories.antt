-- A history that goes on.
use Rattle.std.proofs.Common.{◌≡◌, ℕ, zero, suc, ◌≤◌, List, [], ◌∷◌, ◌++◌, Result, Ok, Err, length, take, set, refl, sym, ◌∙◌, ap, arith}
use Rattle.std.proofs.lemmas.List.{append-nil}
use Rattle.std.specs.Prelude.{OnErr, OnOk, IfOk, Option}
use Rattle.std.specs.Option.{option_to_list}
use Rattle.io_traits.specs.declared.links.Got.{Got}
use Rattle.io_traits.specs.declared.links.Got.TheVariants as got
use Rattle.io_traits.specs.declared.links.LinkEvent.{LinkEvent}
use Rattle.io_traits.specs.declared.links.LinkEvent.TheVariants.{Opened, Sent, Heard, Quiet, Ended}
use Rattle.io_traits.specs.Links.{GotFits, heard_events, opened_events, sent_events}
use Rattle.held_articles.specs.declared.article.Article.{Article}
use Rattle.news_spool.specs.declared.link_state.LinkState.{LinkState}
use Rattle.news_spool.specs.declared.plan.SpoolPlan.{SpoolPlan}
use Rattle.news_spool.specs.declared.spool.Spool.{Spool}
use Rattle.news_spool.specs.LinkState.{given}
use Rattle.news_spool.specs.Links.{OpensLink, after_end, after_receive, after_sent, state_at}
use Rattle.news_spool.specs.Spool.{spool_articles, spool_events, spool_held, spool_links, spool_plan}
use Rattle.news_spool.specs.History.{Act, added, told, all_told, after_act, events_of, held_after, held_from, GoesOnBy}

events_append : (acts more : List Act) → events_of (acts ++ more) ≡ events_of acts ++ events_of more
events_append [] more = refl
events_append (added article ∷ acts) more = events_append acts more
events_append (told event ∷ acts) more = ap (λ (events : List LinkEvent). event ∷ events) (events_append acts more)

events_told : (events : List LinkEvent) → events_of (all_told events) ≡ events
events_told [] = refl
events_told (event ∷ events) = ap (λ (more : List LinkEvent). event ∷ more) (events_told events)

held_append : (plan : SpoolPlan) (acts more : List Act) (held : List LinkState × List Article) → held_from plan (acts ++ more) held ≡ held_from plan more (held_from plan acts held)
held_append plan [] more held = refl
held_append plan (act ∷ acts) more held = held_append plan acts more (after_act plan act held)

-- by acts that are told, and change what is held so
pub goes_on : (before now : Spool) (acts : List Act) → spool_plan now ≡ spool_plan before → spool_events now ≡ spool_events before ++ events_of acts
    → spool_held now ≡ held_from (spool_plan before) acts (spool_held before) → GoesOnBy before now acts
goes_on before now acts plan events held history has = record {
  events = events ∙ ap (λ (x : List LinkEvent). x ++ events_of acts) has.events ∙ sym (events_append history acts);
  held = held ∙ ap (held_from (spool_plan before) acts) has.held ∙ sym (held_append (spool_plan before) history acts ([], []))
      ∙ ap (λ (x : SpoolPlan). held_after x (history ++ acts)) (sym plan);
}

-- ---- each call

pair_is : {a b : List LinkState} {x y : List Article} → a ≡ b → x ≡ y → ◌≡◌ {A = List LinkState × List Article} (a, x) (b, y)
pair_is e f = cc

pub adds : (before now : Spool) (article : Article) → spool_plan now ≡ spool_plan before → spool_events now ≡ spool_events before → spool_links now ≡ spool_links before
    → spool_articles now ≡ spool_articles before ++ article ∷ [] → GoesOnBy before now (added article ∷ [])
adds before now article plan events links articles =
    goes_on before now (added article ∷ []) plan (events ∙ sym (append-nil (spool_events before))) (pair_is links articles)

pub opens : {E : Type 0} (before now : Spool) (address : List ℕ) (result : Result ℕ E) → spool_plan now ≡ spool_plan before
    → spool_events now ≡ spool_events before ++ opened_events address result
    → IfOk result (λ link. OpensLink (spool_plan before) address link (spool_links before) (spool_links now))
    → OnErr result (spool_links now ≡ spool_links before) → spool_articles now ≡ spool_articles before
    → GoesOnBy before now (all_told (opened_events address result))
opens before now address (Ok link) plan events opened none articles =
    goes_on before now (told (Opened link address) ∷ []) plan events
    (pair_is (opened.2 ∙ ap (λ (state : Option LinkState). spool_links before ++ option_to_list state) (sym opened.1)) articles)
opens before now address (Err error) plan events opened none articles = goes_on before now [] plan events (pair_is none articles)

take_all : (bytes : List ℕ) (n : ℕ) → n ≡ length bytes → take n bytes ≡ bytes
take_all [] zero is = refl
take_all [] (suc n) is = refl
take_all (byte ∷ bytes) zero is = absurd (omega arith)
take_all (byte ∷ bytes) (suc n) is = ap (λ (more : List ℕ). byte ∷ more) (take_all bytes n (omega arith))

length_taken : (bytes : List ℕ) (n : ℕ) → n ≤ length bytes → length (take n bytes) ≡ n
length_taken bytes zero short = refl
length_taken [] (suc n) short = absurd (omega arith)
length_taken (byte ∷ bytes) (suc n) short = ap (λ (k : ℕ). suc k) (length_taken bytes n (omega arith))

pub sends : {E : Type 0} (before now : Spool) (link : ℕ) (bytes : List ℕ) (result : Result ℕ E) → spool_plan now ≡ spool_plan before
    → spool_events now ≡ spool_events before ++ sent_events link bytes result → IfOk result (λ n. n ≡ length bytes)
    → OnOk result (spool_held now ≡ after_sent (spool_plan before) link bytes (spool_held before))
    → OnErr result (spool_links now ≡ after_end link (spool_links before)) → OnErr result (spool_articles now ≡ spool_articles before)
    → GoesOnBy before now (all_told (sent_events link bytes result))
sends before now link bytes (Ok n) plan events whole heard ended articles =
    goes_on before now (told (Sent link (take n bytes)) ∷ []) plan events
    (heard ∙ ap (λ (all : List ℕ). after_sent (spool_plan before) link all (spool_held before)) (sym (take_all bytes n whole)))
sends before now link bytes (Err error) plan events whole heard ended articles =
    goes_on before now (told (Ended link) ∷ []) plan events (pair_is ended articles)

pub receives : (before now : Spool) (link room : ℕ) (buf : List ℕ) (result : Got) → length buf ≡ room → spool_plan now ≡ spool_plan before
    → spool_events now ≡ spool_events before ++ heard_events link buf result → GotFits room result
    → spool_links now ≡ after_receive (spool_links before) link result → spool_articles now ≡ spool_articles before
    → GoesOnBy before now (all_told (heard_events link buf result))
receives before now link room buf (got.Bytes n) same plan events fits links articles =
    let len = length_taken buf n (omega (arith, fits.1, same)) in
    goes_on before now (told (Heard link (take n buf)) ∷ []) plan events
    (pair_is (links ∙ ap (λ (k : ℕ). set (spool_links before) link (given k (state_at (spool_links before) link))) (sym len)) articles)
receives before now link room buf got.Quiet same plan events fits links articles = goes_on before now (told (Quiet link) ∷ []) plan events (pair_is links articles)
receives before now link room buf got.Closed same plan events fits links articles = goes_on before now (told (Ended link) ∷ []) plan events (pair_is links articles)
receives before now link room buf got.Failed same plan events fits links articles = goes_on before now (told (Ended link) ∷ []) plan events (pair_is links articles)
