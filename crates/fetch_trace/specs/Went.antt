-- The form of a clause of a function that calls the links: what it told, and what stands after it.
use Rattle.std.specs.Prelude.{◌≡◌, Bool, IsTrue, List, Option}
use Rattle.io_traits.specs.declared.links.LinkEvent.{LinkEvent}
use Rattle.io_traits.specs.Links.{tell}
use Rattle.fetch_trace.specs.Setting.{Setting}
use Rattle.fetch_trace.specs.Standing.{Standing}
use Rattle.fetch_trace.specs.Moving.{moved_by}
use Rattle.fetch_trace.specs.Lawful.{IsLawful}
use Rattle.fetch_trace.specs.Turns.{AreInTurn}

-- From this standing these events were told, each of which might come, in turn where the links keep turns, and after them the facts
-- hold of the standing that they lead to. `before` and `after` are what the links tell: nothing, or all that happened.
pub record Went (setting : Setting) (keeps_turns : Bool) (facts : Standing → Type 0) (s : Standing) (before after : Option (List LinkEvent)) : Type 0 where
  pub events : List LinkEvent
  pub told : after ≡ tell before events
  pub lawful : IsLawful setting s events
  pub turns : IsTrue keeps_turns → AreInTurn setting s events
  pub stands : facts (moved_by setting s events)
