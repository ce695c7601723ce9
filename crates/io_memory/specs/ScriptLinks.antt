-- What links that follow a script hold, and which of their calls fail.
use Rattle.std.specs.Prelude.{ℕ, Bool, List, Option}
use Rattle.io_traits.specs.declared.blame.Blame.{Blame}
use Rattle.io_traits.specs.declared.links.LinkEvent.{LinkEvent}
use Rattle.io_memory.specs.declared.script.Turn.{Turn}
use Rattle.io_memory.specs.declared.script_links.ScriptLinks.{ScriptLinks}
use Rattle.io_memory.specs.Script.{rests_at}
use Rattle.io_memory.specs.Sends.{takes_left}

-- what is still to come of each script, in order; the first is that of link 0
abbrev pub links_left : ScriptLinks → List (List Turn)
links_left links = rests_at links.places.items links.scripts

-- all that happened
abbrev pub links_events : ScriptLinks → List LinkEvent
links_events links = links.log.events.items

-- for each link that was opened, in order, whether it is live
abbrev pub links_live : ScriptLinks → List Bool
links_live links = links.log.live.items

-- the numbers, from 1, of the calls that are to fail
abbrev pub links_failing : ScriptLinks → List ℕ
links_failing links = links.failing

-- the most that each send takes that is still to come, in order; behind the last one a send takes all
abbrev pub links_takes : ScriptLinks → List ℕ
links_takes links = takes_left links.takes

-- how many calls were made
abbrev pub links_calls : ScriptLinks → ℕ
links_calls links = links.calls

-- how many calls failed
abbrev pub links_faults : ScriptLinks → ℕ
links_faults links = links.faults

-- the last call that failed, if one did and there was room for its address
abbrev pub links_blame : ScriptLinks → Option Blame
links_blame links = links.blame
