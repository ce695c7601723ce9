-- Laws of lawful traces, and of each trace.
use Rattle.std.specs.Prelude.{◌≡◌, ◌<◌, ◌≤◌, ℕ, true, List, [], ◌∷◌, ◌++◌, Some, slice_get}
use Rattle.io_traits.specs.declared.links.LinkEvent.{LinkEvent}
use Rattle.io_traits.specs.declared.links.LinkEvent.TheVariants as event
use Rattle.io_traits.specs.Trace.{on_link}
use Rattle.limits.specs.declared.TheConstants.{MOST_SERVERS}
use Rattle.link_dialog.specs.Events.{quiets_at_end}
use Rattle.pipeline_core.specs.Links.{times}
use Rattle.fetch_trace.specs.Setting.{Opening, Setting}
use Rattle.fetch_trace.specs.LinkNow.{LinkNow, is_over}
use Rattle.fetch_trace.specs.Standing.{Standing, before_all, place_from}
use Rattle.fetch_trace.specs.Moving.{moved, standing_at}
use Rattle.fetch_trace.specs.Lawful.{AreFull, IsLawful}

-- ---- each link asks a segment at most once

abbrev pub HasFewServers : Setting → Type 0
HasFewServers setting = (i : ℕ) (opening : Opening) → slice_get setting.openings i ≡ Some opening → opening.server < MOST_SERVERS

abbrev pub EachIsAskedOnce : Type 0
EachIsAskedOnce = (setting : Setting) (events : List LinkEvent) (i segment : ℕ) (l : LinkNow) → HasFewServers setting → slice_get (standing_at setting events).links i ≡ Some l → times segment l.asking.commands ≤ 1

-- ---- before each receive no link has a segment to ask for: pipelining, as RFC 3977, 3.5 allows it

abbrev pub IsFullBefore : Setting → Standing → LinkEvent → Type 0
IsFullBefore setting s (event.Opened n address) = Unit {0}
IsFullBefore setting s (event.Sent n bytes) = Unit {0}
IsFullBefore setting s (event.Heard n bytes) = AreFull setting s
IsFullBefore setting s (event.Quiet n) = AreFull setting s
IsFullBefore setting s (event.Ended n) = Unit {0}

abbrev pub IsBusy : Setting → Standing → List LinkEvent → Type 0
IsBusy setting s [] = Unit {0}
IsBusy setting s (event ∷ events) = IsFullBefore setting s event × IsBusy setting (moved setting s event) events

abbrev pub LawfulIsBusy : Type 0
LawfulIsBusy = (setting : Setting) (s : Standing) (events : List LinkEvent) → IsLawful setting s events → IsBusy setting s events

-- ---- on one link

-- no more quiet receives than the patience follow each other
abbrev pub QuietsAreFew : Type 0
QuietsAreFew = (setting : Setting) (events : List LinkEvent) (n : ℕ) → 0 < setting.patience → IsLawful setting (before_all setting) events → quiets_at_end (on_link n events) ≤ setting.patience

-- once a link is over nothing is told on it
abbrev pub NothingFollowsOver : Type 0
NothingFollowsOver = (setting : Setting) (s : Standing) (events : List LinkEvent) (n i : ℕ) (l : LinkNow) →
    place_from 0 n s.links ≡ Some i → slice_get s.links i ≡ Some l → is_over l ≡ true → IsLawful setting s events → on_link n events ≡ []

-- so a link ends once at most, and nothing is told on it afterwards
abbrev pub EndsOnce : Type 0
EndsOnce = (setting : Setting) (events after : List LinkEvent) (n : ℕ) → IsLawful setting (before_all setting) (events ++ event.Ended n ∷ after) → on_link n after ≡ []
