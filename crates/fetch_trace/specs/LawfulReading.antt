-- Whether a trace is lawful, computed: the plain program beside the definition.
use Rattle.std.specs.Prelude.{◌≡◌, ◌↔◌, ℕ, ◌+◌, ◌==◌, ◌&&◌, ◌||◌, Bool, true, false, not, List, [], ◌∷◌, Option, Some, None, length, nat_le, slice_get, is_some}
use Rattle.io_traits.specs.declared.links.LinkEvent.{LinkEvent}
use Rattle.io_traits.specs.declared.links.LinkEvent.TheVariants as event
use Rattle.io_traits.specs.Trace.{link_of}
use Rattle.pipeline_core.specs.PipelineAt.{Pipeline}
use Rattle.pipeline_core.specs.Pipeline.{next_segment, is_finished}
use Rattle.pipeline_core.specs.Searches.{all_from}
use Rattle.fetch_trace.specs.Setting.{Setting}
use Rattle.fetch_trace.specs.LinkNow.{LinkNow, is_over, is_ready, waiting_of}
use Rattle.fetch_trace.specs.Standing.{Standing, pipeline_of, place_from}
use Rattle.fetch_trace.specs.Due.{Due, due_on, login_due}
use Rattle.fetch_trace.specs.Moving.{moved}
use Rattle.fetch_trace.specs.Lawful.{most_received, IsLawful, IsAtEnd}

abbrev pub is_empty : {A : Type 0} → List A → Bool
is_empty [] = true
is_empty (x ∷ xs) = false

abbrev pub others_rest : ℕ → ℕ → List LinkNow → Bool
others_rest k i [] = true
others_rest k i (l ∷ links) = ((k == i) || (is_over l || is_empty l.saying.unsent)) && others_rest (k + 1) i links

abbrev pub begins_with : List ℕ → List ℕ → Bool
begins_with [] bytes = true
begins_with (x ∷ piece) [] = false
begins_with (x ∷ piece) (y ∷ bytes) = (x == y) && begins_with piece bytes

abbrev pub is_front : List ℕ → List ℕ → Bool
is_front piece bytes = not (is_empty piece) && begins_with piece bytes

abbrev pub is_front_of : List ℕ → Option Due → Bool
is_front_of piece (Some due) = is_front piece due.text
is_front_of piece None = false

abbrev pub is_piece_due : Setting → Standing → List ℕ → ℕ → LinkNow → List ℕ → Bool
is_piece_due setting s bytes i l [] = is_front_of bytes (due_on setting (pipeline_of setting s.links) i l)
is_piece_due setting s bytes i l (byte ∷ unsent) = is_front bytes (byte ∷ unsent)

abbrev pub awaits : LinkNow → Bool
awaits l = not (is_ready l) || not (is_empty (waiting_of l.asking))

abbrev pub no_login_due : List LinkNow → Bool
no_login_due [] = true
no_login_due (l ∷ links) = (is_over l || not (is_some (login_due l.opening.login l.hearing.replies l.hearing.waiting))) && no_login_due links

abbrev pub are_full : Pipeline → ℕ → Bool
are_full p count = all_from (λ k. not (is_some (next_segment p k))) 0 count

abbrev pub may_receive : Setting → Standing → ℕ → LinkNow → Bool
may_receive setting s i l =
    ((is_empty l.saying.unsent && not l.saying.quits) && awaits l)
    && ((are_full (pipeline_of setting s.links) (length s.links) && no_login_due s.links) && not (is_finished (pipeline_of setting s.links)))

abbrev pub may_come_on : Setting → Standing → LinkEvent → ℕ → LinkNow → Bool
may_come_on setting s (event.Opened n address) i l = false
may_come_on setting s (event.Sent n bytes) i l = is_piece_due setting s bytes i l l.saying.unsent
may_come_on setting s (event.Heard n bytes) i l = may_receive setting s i l && (not (is_empty bytes) && nat_le (length bytes) most_received)
may_come_on setting s (event.Quiet n) i l = may_receive setting s i l
may_come_on setting s (event.Ended n) i l = true

abbrev pub may_come_at : Setting → Standing → LinkEvent → ℕ → Option LinkNow → Bool
may_come_at setting s event i (Some l) = (not (is_over l) && others_rest 0 i s.links) && may_come_on setting s event i l
may_come_at setting s event i None = false

abbrev pub may_come_by : Setting → Standing → LinkEvent → Option ℕ → Bool
may_come_by setting s event (Some i) = may_come_at setting s event i (slice_get s.links i)
may_come_by setting s event None = false

abbrev pub may_come : Setting → Standing → LinkEvent → Bool
may_come setting s event = may_come_by setting s event (place_from 0 (link_of event) s.links)

abbrev pub is_lawful : Setting → Standing → List LinkEvent → Bool
is_lawful setting s [] = true
is_lawful setting s (event ∷ events) = may_come setting s event && is_lawful setting (moved setting s event) events

abbrev pub have_quit : List LinkNow → Bool
have_quit [] = true
have_quit (l ∷ links) = (is_over l || (not (is_ready l) || (l.saying.quits && is_empty l.saying.unsent))) && have_quit links

abbrev pub is_at_end : Setting → Standing → Bool
is_at_end setting s = is_finished (pipeline_of setting s.links) && have_quit s.links

-- it is computed to be lawful exactly where it is
abbrev pub LawfulIsComputed : Type 0
LawfulIsComputed = (setting : Setting) (s : Standing) (events : List LinkEvent) → (is_lawful setting s events ≡ true) ↔ IsLawful setting s events

abbrev pub EndIsComputed : Type 0
EndIsComputed = (setting : Setting) (s : Standing) → (is_at_end setting s ≡ true) ↔ IsAtEnd setting s
