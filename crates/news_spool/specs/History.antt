-- What a spool holds after all that happened to it. Bytes that are sent are heard one after the other, in the order in which
-- they came over all links, so that each reply is made over the articles that were there just before the last byte of its
-- command or article.
use Rattle.std.specs.Prelude.{◌≡◌, List, [], ◌∷◌, ◌++◌, length, slice_set}
use Rattle.std.specs.Option.{option_to_list}
use Rattle.io_traits.specs.declared.links.LinkEvent.{LinkEvent}
use Rattle.io_traits.specs.declared.links.LinkEvent.TheVariants.{Opened, Sent, Heard, Quiet, Ended}
use Rattle.held_articles.specs.declared.article.Article.{Article}
use Rattle.news_spool.specs.declared.link_state.LinkState.{LinkState}
use Rattle.news_spool.specs.declared.plan.SpoolPlan.{SpoolPlan}
use Rattle.news_spool.specs.declared.spool.Spool.{Spool}
use Rattle.news_spool.specs.LinkState.{given}
use Rattle.news_spool.specs.Links.{after_end, after_sent, opened_link, state_at}
use Rattle.news_spool.specs.Spool.{spool_events, spool_held, spool_plan}

-- an article was added, or something happened on a link
pub data Act : Type 0 where
  added : Article → Act
  told : LinkEvent → Act

-- the events on links
abbrev pub events_of : List Act → List LinkEvent
events_of [] = []
events_of (added article ∷ acts) = events_of acts
events_of (told event ∷ acts) = event ∷ events_of acts

abbrev pub all_told : List LinkEvent → List Act
all_told [] = []
all_told (event ∷ events) = told event ∷ all_told events

-- ---- what is held

-- an event on a link
abbrev pub after_event : SpoolPlan → LinkEvent → List LinkState × List Article → List LinkState × List Article
after_event plan (Opened link address) held = (held.0 ++ option_to_list (opened_link plan address link), held.1)
after_event plan (Sent link bytes) held = after_sent plan link bytes held
after_event plan (Heard link bytes) held = (slice_set held.0 link (given (length bytes) (state_at held.0 link)), held.1)
after_event plan (Quiet link) held = held
after_event plan (Ended link) held = (after_end link held.0, held.1)

abbrev pub after_act : SpoolPlan → Act → List LinkState × List Article → List LinkState × List Article
after_act plan (added article) held = (held.0, held.1 ++ article ∷ [])
after_act plan (told event) held = after_event plan event held

abbrev pub held_from : SpoolPlan → List Act → List LinkState × List Article → List LinkState × List Article
held_from plan [] held = held
held_from plan (act ∷ acts) held = held_from plan acts (after_act plan act held)

-- the links and the articles after all that happened
abbrev pub held_after : SpoolPlan → List Act → List LinkState × List Article
held_after plan acts = held_from plan acts ([], [])

-- this is all that happened to a spool, whose trace tells the events on links
pub record HasHistory (spool : Spool) (acts : List Act) : Type 0 where
  pub events : spool_events spool ≡ events_of acts
  pub held : spool_held spool ≡ held_after (spool_plan spool) acts

-- it goes on by these acts
abbrev pub GoesOnBy : Spool → Spool → List Act → Type 0
GoesOnBy before now acts = (history : List Act) → HasHistory before history → HasHistory now (history ++ acts)
