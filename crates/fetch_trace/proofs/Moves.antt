-- Events, one by one.
use Rattle.std.proofs.Common.{◌≡◌, List, [], ◌∷◌, ◌++◌, refl}
use Rattle.io_traits.specs.declared.links.LinkEvent.{LinkEvent}
use Rattle.fetch_trace.specs.Setting.{Setting}
use Rattle.fetch_trace.specs.Standing.{Standing, before_all}
use Rattle.fetch_trace.specs.Moving.{moved, moved_by, standing_at}

pub moved_more : (setting : Setting) (s : Standing) (events : List LinkEvent) (event : LinkEvent) → moved_by setting s (events ++ event ∷ []) ≡ moved setting (moved_by setting s events) event
moved_more setting s [] event = refl
moved_more setting s (first ∷ events) event = moved_more setting (moved setting s first) events event

pub one_event_moves : (setting : Setting) (events : List LinkEvent) (event : LinkEvent) → standing_at setting (events ++ event ∷ []) ≡ moved setting (standing_at setting events) event
one_event_moves setting events event = moved_more setting (before_all setting) events event
