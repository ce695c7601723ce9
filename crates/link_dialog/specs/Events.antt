-- What the events of one link say of it at a moment. A moment is a front of its trace in which each byte heard is an
-- event of its own, so that nothing depends on how the bytes were cut into receives.
use Rattle.std.specs.Prelude.{◌≡◌, ◌+◌, ℕ, Bool, true, false, List, [], ◌∷◌, ◌++◌, map}
use Rattle.std.specs.List.{AllByRecursion}
use Rattle.io_traits.specs.declared.links.LinkEvent.{LinkEvent}
use Rattle.io_traits.specs.declared.links.LinkEvent.TheVariants.{Opened, Sent, Heard, Quiet, Ended}
use Rattle.io_traits.specs.Trace.{link_of}

-- each event is on this link
abbrev pub AllOn : ℕ → List LinkEvent → Type 0
AllOn link events = AllByRecursion (λ event. link_of event ≡ link) events

-- an event for each byte
abbrev pub single_bytes : ℕ → List ℕ → List LinkEvent
single_bytes link bytes = map (λ byte. Heard link (byte ∷ [])) bytes

-- the events, with each byte heard an event of its own
abbrev pub fine : List LinkEvent → List LinkEvent
fine [] = []
fine (Heard link bytes ∷ events) = single_bytes link bytes ++ fine events
fine (Opened link address ∷ events) = Opened link address ∷ fine events
fine (Sent link bytes ∷ events) = Sent link bytes ∷ fine events
fine (Quiet link ∷ events) = Quiet link ∷ fine events
fine (Ended link ∷ events) = Ended link ∷ fine events

-- how many quiet receives stand last, n of them before these events
abbrev pub quiet_after : ℕ → List LinkEvent → ℕ
quiet_after n [] = n
quiet_after n (Quiet link ∷ events) = quiet_after (n + 1) events
quiet_after n (Opened link address ∷ events) = quiet_after 0 events
quiet_after n (Sent link bytes ∷ events) = quiet_after 0 events
quiet_after n (Heard link bytes ∷ events) = quiet_after 0 events
quiet_after n (Ended link ∷ events) = quiet_after 0 events

abbrev pub quiets_at_end : List LinkEvent → ℕ
quiets_at_end events = quiet_after 0 events

-- whether the link ended
abbrev pub has_ended : List LinkEvent → Bool
has_ended [] = false
has_ended (Ended link ∷ events) = true
has_ended (Opened link address ∷ events) = has_ended events
has_ended (Sent link bytes ∷ events) = has_ended events
has_ended (Heard link bytes ∷ events) = has_ended events
has_ended (Quiet link ∷ events) = has_ended events
