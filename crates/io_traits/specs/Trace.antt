-- What a trace says of one link. A trace is a list of events on links, in the order in which they happened.
use Rattle.std.specs.Prelude.{◌==◌, ℕ, List, [], ◌∷◌, ◌++◌, filter}
use Rattle.io_traits.specs.declared.links.LinkEvent.{LinkEvent}
use Rattle.io_traits.specs.declared.links.LinkEvent.TheVariants.{Opened, Sent, Heard, Quiet, Ended}

-- the link on which an event happened
abbrev pub link_of : LinkEvent → ℕ
link_of (Opened link address) = link
link_of (Sent link bytes) = link
link_of (Heard link bytes) = link
link_of (Quiet link) = link
link_of (Ended link) = link

-- the events on one link, in order
abbrev pub on_link : ℕ → List LinkEvent → List LinkEvent
on_link link events = filter (λ event. link_of event == link) events

-- all bytes that went out, in order
abbrev pub sent : List LinkEvent → List ℕ
sent [] = []
sent (Sent link bytes ∷ events) = bytes ++ sent events
sent (Opened link address ∷ events) = sent events
sent (Heard link bytes ∷ events) = sent events
sent (Quiet link ∷ events) = sent events
sent (Ended link ∷ events) = sent events

-- all bytes that came in, in order
abbrev pub heard : List LinkEvent → List ℕ
heard [] = []
heard (Heard link bytes ∷ events) = bytes ++ heard events
heard (Opened link address ∷ events) = heard events
heard (Sent link bytes ∷ events) = heard events
heard (Quiet link ∷ events) = heard events
heard (Ended link ∷ events) = heard events
