-- What one more event, or more events, do to what a trace says of a link.
use Rattle.std.proofs.Common.{◌≡◌, ℕ, ◌+◌, false, List, [], ◌∷◌, ◌++◌, refl, ap, sym, ◌∙◌, append_assoc}
use Rattle.io_traits.specs.declared.links.LinkEvent.{LinkEvent}
use Rattle.io_traits.specs.declared.links.LinkEvent.TheVariants.{Opened, Sent, Heard, Quiet, Ended}
use Rattle.io_traits.specs.Trace.{sent, heard}
use Rattle.link_dialog.specs.Events.{quiet_after, has_ended, fine, single_bytes}

pub sent-append : (before after : List LinkEvent) → sent (before ++ after) ≡ sent before ++ sent after
sent-append [] after = refl
sent-append (Sent link bytes ∷ before) after = ap (λ t. bytes ++ t) (sent-append before after) ∙ sym (append_assoc bytes (sent before) (sent after))
sent-append (Opened link address ∷ before) after = sent-append before after
sent-append (Heard link bytes ∷ before) after = sent-append before after
sent-append (Quiet link ∷ before) after = sent-append before after
sent-append (Ended link ∷ before) after = sent-append before after

pub heard-append : (before after : List LinkEvent) → heard (before ++ after) ≡ heard before ++ heard after
heard-append [] after = refl
heard-append (Heard link bytes ∷ before) after = ap (λ t. bytes ++ t) (heard-append before after) ∙ sym (append_assoc bytes (heard before) (heard after))
heard-append (Opened link address ∷ before) after = heard-append before after
heard-append (Sent link bytes ∷ before) after = heard-append before after
heard-append (Quiet link ∷ before) after = heard-append before after
heard-append (Ended link ∷ before) after = heard-append before after

pub fine-append : (before after : List LinkEvent) → fine (before ++ after) ≡ fine before ++ fine after
fine-append [] after = refl
fine-append (Heard link bytes ∷ before) after = ap (λ t. single_bytes link bytes ++ t) (fine-append before after) ∙ sym (append_assoc (single_bytes link bytes) (fine before) (fine after))
fine-append (Opened link address ∷ before) after = ap (λ t. Opened link address ∷ t) (fine-append before after)
fine-append (Sent link bytes ∷ before) after = ap (λ t. Sent link bytes ∷ t) (fine-append before after)
fine-append (Quiet link ∷ before) after = ap (λ t. Quiet link ∷ t) (fine-append before after)
fine-append (Ended link ∷ before) after = ap (λ t. Ended link ∷ t) (fine-append before after)

pub sent-single_bytes : (link : ℕ) (bytes : List ℕ) → sent (single_bytes link bytes) ≡ []
sent-single_bytes link [] = refl
sent-single_bytes link (byte ∷ bytes) = sent-single_bytes link bytes

pub heard-single_bytes : (link : ℕ) (bytes : List ℕ) → heard (single_bytes link bytes) ≡ bytes
heard-single_bytes link [] = refl
heard-single_bytes link (byte ∷ bytes) = ap (λ t. byte ∷ t) (heard-single_bytes link bytes)

-- the fine trace has the same bytes sent
pub sent-fine : (events : List LinkEvent) → sent (fine events) ≡ sent events
sent-fine [] = refl
sent-fine (Sent link bytes ∷ events) = ap (λ t. bytes ++ t) (sent-fine events)
sent-fine (Opened link address ∷ events) = sent-fine events
sent-fine (Heard link bytes ∷ events) = sent-append (single_bytes link bytes) (fine events) ∙ ap (λ t. t ++ sent (fine events)) (sent-single_bytes link bytes) ∙ sent-fine events
sent-fine (Quiet link ∷ events) = sent-fine events
sent-fine (Ended link ∷ events) = sent-fine events

-- and the same bytes heard
pub heard-fine : (events : List LinkEvent) → heard (fine events) ≡ heard events
heard-fine [] = refl
heard-fine (Heard link bytes ∷ events) = heard-append (single_bytes link bytes) (fine events) ∙ ap (λ t. t ++ heard (fine events)) (heard-single_bytes link bytes) ∙ ap (λ t. bytes ++ t) (heard-fine events)
heard-fine (Opened link address ∷ events) = heard-fine events
heard-fine (Sent link bytes ∷ events) = heard-fine events
heard-fine (Quiet link ∷ events) = heard-fine events
heard-fine (Ended link ∷ events) = heard-fine events

-- what comes last counts
pub quiet_after-append : (n : ℕ) (before after : List LinkEvent) → quiet_after n (before ++ after) ≡ quiet_after (quiet_after n before) after
quiet_after-append n [] after = refl
quiet_after-append n (Quiet link ∷ before) after = quiet_after-append (n + 1) before after
quiet_after-append n (Opened link address ∷ before) after = quiet_after-append 0 before after
quiet_after-append n (Sent link bytes ∷ before) after = quiet_after-append 0 before after
quiet_after-append n (Heard link bytes ∷ before) after = quiet_after-append 0 before after
quiet_after-append n (Ended link ∷ before) after = quiet_after-append 0 before after

pub has_ended-append : (before after : List LinkEvent) → has_ended before ≡ false → has_ended (before ++ after) ≡ has_ended after
has_ended-append [] after alive = refl
has_ended-append (Ended link ∷ before) after alive = cc
has_ended-append (Opened link address ∷ before) after alive = has_ended-append before after alive
has_ended-append (Sent link bytes ∷ before) after alive = has_ended-append before after alive
has_ended-append (Heard link bytes ∷ before) after alive = has_ended-append before after alive
has_ended-append (Quiet link ∷ before) after alive = has_ended-append before after alive
