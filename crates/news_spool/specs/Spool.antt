-- What is seen of a spool.
use Rattle.std.specs.Prelude.{◌≡◌, ℕ, Bool, List, Option}
use Rattle.io_memory.specs.LinkLog.{log_events, log_live}
use Rattle.io_traits.specs.declared.blame.Blame.{Blame}
use Rattle.io_traits.specs.declared.links.LinkEvent.{LinkEvent}
use Rattle.held_articles.specs.declared.article.Article.{Article}
use Rattle.news_spool.specs.declared.link_state.LinkState.{LinkState}
use Rattle.news_spool.specs.declared.plan.SpoolPlan.{SpoolPlan}
use Rattle.news_spool.specs.declared.spool.Spool.{Spool}

-- what it was made for
abbrev pub spool_plan : Spool → SpoolPlan
spool_plan spool = spool.plan

-- the articles, from number 1 on
abbrev pub spool_articles : Spool → List Article
spool_articles spool = spool.articles

-- the state of each link that was opened, in order
abbrev pub spool_links : Spool → List LinkState
spool_links spool = spool.links.items

-- which of the plan's pieces bounds the next receive, from 0
abbrev pub spool_turn : Spool → ℕ
spool_turn spool = spool.turn

-- all that happened on links
abbrev pub spool_events : Spool → List LinkEvent
spool_events spool = log_events spool.log

-- for each link that was opened, in order, whether it is live
abbrev pub spool_live : Spool → List Bool
spool_live spool = log_live spool.log

-- how many calls failed
abbrev pub spool_faults : Spool → ℕ
spool_faults spool = spool.faults

-- the last call that failed, if one did and there was room for its address
abbrev pub spool_blame : Spool → Option Blame
spool_blame spool = spool.blame

-- the links, and the articles
abbrev pub spool_held : Spool → List LinkState × List Article
spool_held spool = (spool_links spool, spool_articles spool)

-- nothing happened on links
pub record KeepsLinks (before now : Spool) : Type 0 where
  pub plan : spool_plan now ≡ spool_plan before
  pub links : spool_links now ≡ spool_links before
  pub turn : spool_turn now ≡ spool_turn before
  pub events : spool_events now ≡ spool_events before
  pub live : spool_live now ≡ spool_live before
  pub faults : spool_faults now ≡ spool_faults before
  pub blame : spool_blame now ≡ spool_blame before

-- no call failed, and nothing was told
pub record KeepsOutside (before now : Spool) : Type 0 where
  pub plan : spool_plan now ≡ spool_plan before
  pub events : spool_events now ≡ spool_events before
  pub live : spool_live now ≡ spool_live before
  pub faults : spool_faults now ≡ spool_faults before
  pub blame : spool_blame now ≡ spool_blame before
