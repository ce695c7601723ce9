-- What happened on links in memory, and which of them are live.
use Rattle.std.specs.Prelude.{Bool, List}
use Rattle.io_traits.specs.declared.links.LinkEvent.{LinkEvent}
use Rattle.io_memory.specs.declared.log.LinkLog.{LinkLog}

-- all that happened, in order
abbrev pub log_events : LinkLog → List LinkEvent
log_events log = log.events.items

-- for each link that was opened, in order, whether it is live
abbrev pub log_live : LinkLog → List Bool
log_live log = log.live.items
