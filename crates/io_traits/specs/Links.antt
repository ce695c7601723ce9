-- What the calls on links do to the trace, to the links that are live, and to the count of faults.
use Rattle.std.specs.Prelude.{◌≡◌, ◌<◌, ◌≤◌, ℕ, Bool, true, false, List, [], ◌∷◌, ◌++◌, Option, Some, Result, Ok, Err, take, slice_set, ⊤}
use Rattle.std.specs.Option.{option_map}
use Rattle.io_traits.specs.declared.links.Got.{Got}
use Rattle.io_traits.specs.declared.links.Got.TheVariants as got
use Rattle.io_traits.specs.declared.links.LinkEvent.{LinkEvent}
use Rattle.io_traits.specs.declared.links.LinkEvent.TheVariants.{Opened, Sent, Heard, Quiet, Ended}
use Rattle.io_traits.specs.Causes.{Rose}

-- a trace that is told goes on by these events; one that isn't told stays so
abbrev pub tell : Option (List LinkEvent) → List LinkEvent → Option (List LinkEvent)
tell told events = option_map (λ trace. trace ++ events) told

-- a failed opening tells nothing
abbrev pub opened_events : {E : Type 0} → List ℕ → Result ℕ E → List LinkEvent
opened_events address (Ok link) = Opened link address ∷ []
opened_events address (Err e) = []

-- for each link that was opened, in order, whether it is live: it hasn't ended
abbrev pub live_after_open : {E : Type 0} → List Bool → Result ℕ E → List Bool
live_after_open live (Ok link) = live ++ true ∷ []
live_after_open live (Err e) = live

-- a send tells the bytes that went out; a failed one ends the link
abbrev pub sent_events : {E : Type 0} → ℕ → List ℕ → Result ℕ E → List LinkEvent
sent_events link piece (Ok n) = Sent link (take n piece) ∷ []
sent_events link piece (Err e) = Ended link ∷ []

abbrev pub live_after_send : {E : Type 0} → List Bool → ℕ → Result ℕ E → List Bool
live_after_send live link (Ok n) = live
live_after_send live link (Err e) = slice_set live link false

-- a receive tells the bytes at the front of the buffer, or that the link was quiet, or that it ended
abbrev pub heard_events : ℕ → List ℕ → Got → List LinkEvent
heard_events link buf (got.Bytes n) = Heard link (take n buf) ∷ []
heard_events link buf got.Quiet = Quiet link ∷ []
heard_events link buf got.Closed = Ended link ∷ []
heard_events link buf got.Failed = Ended link ∷ []

abbrev pub live_after_receive : List Bool → ℕ → Got → List Bool
live_after_receive live link (got.Bytes n) = live
live_after_receive live link got.Quiet = live
live_after_receive live link got.Closed = slice_set live link false
live_after_receive live link got.Failed = slice_set live link false

-- from 1 byte up to the buffer's length
abbrev pub GotFits : ℕ → Got → Type 0
GotFits room (got.Bytes n) = (0 < n) × (n ≤ room)
GotFits room got.Quiet = ⊤
GotFits room got.Closed = ⊤
GotFits room got.Failed = ⊤

-- a failed receive has raised the count of faults, and every other answer leaves it as it was
abbrev pub GotHasCause : ℕ → ℕ → Got → Type 0
GotHasCause before now (got.Bytes n) = now ≡ before
GotHasCause before now got.Quiet = now ≡ before
GotHasCause before now got.Closed = now ≡ before
GotHasCause before now got.Failed = (before ≤ now) × Rose before now

-- what is told to be the last failed call, after a receive
abbrev pub blame_after_receive : {B : Type 0} → Option (Option B) → B → Got → Option (Option B)
blame_after_receive before call (got.Bytes n) = before
blame_after_receive before call got.Quiet = before
blame_after_receive before call got.Closed = before
blame_after_receive before call got.Failed = option_map (λ _. Some call) before
