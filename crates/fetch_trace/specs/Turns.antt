-- Rotation: receives go round the links. It is a definition beside lawful, since real links are heard in the order in which they
-- have something to say.
use Rattle.std.specs.Prelude.{◌≡◌, ◌<◌, ◌≤◌, ◌⊎◌, ◌↔◌, ℕ, ◌+◌, ◌&&◌, ◌||◌, Bool, true, not, List, [], ◌∷◌, Option, Some, None, nat_lt, nat_le, slice_get}
use Rattle.io_traits.specs.declared.links.LinkEvent.{LinkEvent}
use Rattle.io_traits.specs.declared.links.LinkEvent.TheVariants as event
use Rattle.fetch_trace.specs.Setting.{Setting}
use Rattle.fetch_trace.specs.LinkNow.{LinkNow, is_over, is_ready, waiting_of}
use Rattle.fetch_trace.specs.Standing.{Standing, place_from}
use Rattle.fetch_trace.specs.Moving.{moved}
use Rattle.fetch_trace.specs.LawfulReading.{awaits}

-- strictly behind one link and before another, in rotation
abbrev pub IsBetween : ℕ → ℕ → ℕ → Type 0
IsBetween last i k = ((last < k) × (k < i)) ⊎ ((i ≤ last) × ((last < k) ⊎ (k < i)))

-- the links between that of the last receive and this one are over, or await nothing
abbrev pub InRotation : Standing → Option ℕ → ℕ → Type 0
InRotation s None i = Unit {0}
InRotation s (Some last) i = (k : ℕ) (l : LinkNow) → IsBetween last i k → slice_get s.links k ≡ Some l → (is_over l ≡ true) ⊎ ((is_ready l ≡ true) × (waiting_of l.asking ≡ []))

abbrev pub IsReceivedInTurn : Standing → ℕ → Type 0
IsReceivedInTurn s n = (i : ℕ) → place_from 0 n s.links ≡ Some i → InRotation s s.last i

-- a receive comes in turn; of any other event nothing is asked
abbrev pub ComesInTurn : Standing → LinkEvent → Type 0
ComesInTurn s (event.Opened n address) = Unit {0}
ComesInTurn s (event.Sent n bytes) = Unit {0}
ComesInTurn s (event.Heard n bytes) = IsReceivedInTurn s n
ComesInTurn s (event.Quiet n) = IsReceivedInTurn s n
ComesInTurn s (event.Ended n) = Unit {0}

abbrev pub AreInTurn : Setting → Standing → List LinkEvent → Type 0
AreInTurn setting s [] = Unit {0}
AreInTurn setting s (event ∷ events) = ComesInTurn s event × AreInTurn setting (moved setting s event) events

-- ---- the same, computed

abbrev pub is_between : ℕ → ℕ → ℕ → Bool
is_between last i k = (nat_lt last k && nat_lt k i) || (nat_le i last && (nat_lt last k || nat_lt k i))

abbrev pub in_rotation : ℕ → ℕ → ℕ → List LinkNow → Bool
in_rotation k last i [] = true
in_rotation k last i (l ∷ links) = (not (is_between last i k) || (is_over l || not (awaits l))) && in_rotation (k + 1) last i links

abbrev pub rotation_from : Option ℕ → ℕ → List LinkNow → Bool
rotation_from None i links = true
rotation_from (Some last) i links = in_rotation 0 last i links

abbrev pub rotation_at : Standing → Option ℕ → Bool
rotation_at s (Some i) = rotation_from s.last i s.links
rotation_at s None = true

abbrev pub comes_in_turn : Standing → LinkEvent → Bool
comes_in_turn s (event.Opened n address) = true
comes_in_turn s (event.Sent n bytes) = true
comes_in_turn s (event.Heard n bytes) = rotation_at s (place_from 0 n s.links)
comes_in_turn s (event.Quiet n) = rotation_at s (place_from 0 n s.links)
comes_in_turn s (event.Ended n) = true

abbrev pub are_in_turn : Setting → Standing → List LinkEvent → Bool
are_in_turn setting s [] = true
are_in_turn setting s (event ∷ events) = comes_in_turn s event && are_in_turn setting (moved setting s event) events

-- events are computed to be in turn exactly where they are
abbrev pub TurnsAreComputed : Type 0
TurnsAreComputed = (setting : Setting) (s : Standing) (events : List LinkEvent) → (are_in_turn setting s events ≡ true) ↔ AreInTurn setting s events
