-- At each moment a segment is outstanding once at most, and none that has arrived is.
use Rattle.std.proofs.Common.{◌≡◌, ◌≢◌, ◌+◌, ◌≤◌, inl, inr, zero, suc, ℕ, true, false, List, [], ◌∷◌, ◌++◌, Some, length, drop, refl, ap, sym, ◌∙◌, arith}
use Rattle.std.specs.Prelude.{slice_get}
use Rattle.pipeline_core.specs.LinkAt.{LinkAt}
use Rattle.pipeline_core.specs.Links.{times, times_asked, with_greeting, with_asked, without_oldest, with_end}
use Rattle.lists.specs.Edit.{edit_at}
use Rattle.pipeline_core.specs.PipelineAt.{Pipeline}
use Rattle.pipeline_core.specs.Searches.{is_arrived_at}
use Rattle.pipeline_core.specs.Pipeline.{next_segment, with_outcome, server_on}
use Rattle.pipeline_core.specs.declared.state.Outcome.{Outcome}
use Rattle.pipeline_core.specs.Sound.{IsExclusive}
use Rattle.pipeline_core.proofs.Exclusive.{set-edit, times-append, times-set, none_held}
use Rattle.fetch_trace.proofs.Lists.{same_or_not}
use Rattle.pipeline_core.proofs.Full.{get-edit_other}
use Rattle.pipeline_core.proofs.Free.{is_next}
use Rattle.pipeline_core.proofs.Calls.{one_time, no_time, first_place}
use Rattle.fetch_trace.specs.Calls.{Call, after_call}
use Rattle.fetch_trace.specs.Calls.Call.{Nothing, Greets, Asks, Answers, Loses}

-- one link's segments change
times_edit : (links : List LinkAt) (i s : ℕ) (g : LinkAt → LinkAt) (old : LinkAt) → slice_get links i ≡ Some old → times_asked (edit_at i g links) s + times s old.asked ≡ times_asked links s + times s (g old).asked
times_edit links i s g old is = ap (λ (ls : List LinkAt). times_asked ls s + times s old.asked) (sym (set-edit links i g old is)) ∙ times-set links i s old (g old) is

-- what a call needs
abbrev pub Fits : Call → ℕ → Pipeline → LinkAt → Type 0
Fits Nothing i p link = Unit {0}
Fits Greets i p link = Unit {0}
Fits (Asks segment) i p link = next_segment p i ≡ Some segment
Fits (Answers segment outcome) i p link = slice_get link.asked 0 ≡ Some segment
Fits Loses i p link = Unit {0}

exclusive_greeting : (p : Pipeline) (i : ℕ) (link : LinkAt) → slice_get p.links i ≡ Some link → IsExclusive p.links p.segments → IsExclusive (edit_at i with_greeting p.links) p.segments
exclusive_greeting p i link is old =
    let same : (s : ℕ) → times_asked (edit_at i with_greeting p.links) s ≡ times_asked p.links s = λ s. omega (arith, times_edit p.links i s with_greeting link is) in
    record {
      once = λ s. rw (same s) (old.once s);
      none_arrived = λ s here. same s ∙ old.none_arrived s here;
      within = λ s past. same s ∙ old.within s past;
    }

exclusive_over : (p : Pipeline) (i : ℕ) (link : LinkAt) → slice_get p.links i ≡ Some link → IsExclusive p.links p.segments → IsExclusive (edit_at i with_end p.links) p.segments
exclusive_over p i link is old =
    let less : (s : ℕ) → times_asked (edit_at i with_end p.links) s + times s link.asked ≡ times_asked p.links s = λ s. omega (arith, times_edit p.links i s with_end link is) in
    record {
      once = λ s. omega (arith, less s, old.once s);
      none_arrived = λ s here. omega (arith, less s, old.none_arrived s here);
      within = λ s past. omega (arith, less s, old.within s past);
    }

exclusive_next : (p : Pipeline) (i k : ℕ) (link : LinkAt) → slice_get p.links i ≡ Some link → next_segment p i ≡ Some k → IsExclusive p.links p.segments → IsExclusive (edit_at i (with_asked k) p.links) p.segments
exclusive_next p i k link is asks old =
    let next = is_next p i k link is asks in
    let free : times_asked p.links k ≡ 0 = none_held 0 p.links k next.unheld in
    let more : (s : ℕ) → times s (link.asked ++ k ∷ []) ≡ times s link.asked + times s (k ∷ []) = λ s. times-append s link.asked (k ∷ []) in
    let here : times_asked (edit_at i (with_asked k) p.links) k ≡ 1 = omega (arith, times_edit p.links i k (with_asked k) link is, more k, one_time k) in
    let there : (s : ℕ) → s ≢ k → times_asked (edit_at i (with_asked k) p.links) s ≡ times_asked p.links s = λ s other. omega (arith, times_edit p.links i s (with_asked k) link is, more s, no_time k s other) in
    record {
      once = λ s. elim (same_or_not s k) [
        | inl e ↦ (let at : times_asked (edit_at i (with_asked k) p.links) s ≡ 1 = ap (times_asked (edit_at i (with_asked k) p.links)) e ∙ here in omega arith)
        | inr other ↦ rw (there s other) (old.once s)
      ];
      none_arrived = λ s arrived. elim (same_or_not s k) [
        | inl e ↦ (let no : true ≡ false = sym arrived ∙ ap (λ n. is_arrived_at (slice_get p.segments n)) e ∙ next.not_arrived in cc)
        | inr other ↦ there s other ∙ old.none_arrived s arrived
      ];
      within = λ s past. there s (λ e. absurd (omega (arith, e, next.below))) ∙ old.within s past;
    }

edit_length : {A : Type 0} (i : ℕ) (f : A → A) (xs : List A) → length (edit_at i f xs) ≡ length xs
edit_length i f [] = refl
edit_length zero f (x ∷ xs) = refl
edit_length (suc i) f (x ∷ xs) = ap (λ n. suc n) (edit_length i f xs)

exclusive_reply : (p : Pipeline) (i k : ℕ) (outcome : Outcome) (link : LinkAt) → slice_get p.links i ≡ Some link → slice_get link.asked 0 ≡ Some k → IsExclusive p.links p.segments → IsExclusive (edit_at i without_oldest p.links) (edit_at k (with_outcome (server_on p i) outcome) p.segments)
exclusive_reply p i k outcome link is first old =
    let f = with_outcome (server_on p i) outcome in
    let parts : link.asked ≡ k ∷ drop 1 link.asked = first_place link.asked k first in
    let less : (s : ℕ) → times s link.asked ≡ times s (k ∷ []) + times s (drop 1 link.asked) = λ s. ap (times s) parts ∙ times-append s (k ∷ []) (drop 1 link.asked) in
    let here : times_asked (edit_at i without_oldest p.links) k ≡ 0 = omega (arith, times_edit p.links i k without_oldest link is, less k, one_time k, old.once k) in
    let elsewhere : (s : ℕ) → s ≢ k → times_asked (edit_at i without_oldest p.links) s ≡ times_asked p.links s = λ s other. omega (arith, times_edit p.links i s without_oldest link is, less s, no_time k s other) in
    record {
      once = λ s. elim (same_or_not s k) [
        | inl e ↦ (let at : times_asked (edit_at i without_oldest p.links) s ≡ 0 = ap (times_asked (edit_at i without_oldest p.links)) e ∙ here in omega arith)
        | inr other ↦ rw (elsewhere s other) (old.once s)
      ];
      none_arrived = λ s arrived. elim (same_or_not s k) [
        | inl e ↦ ap (times_asked (edit_at i without_oldest p.links)) e ∙ here
        | inr other ↦ elsewhere s other ∙ old.none_arrived s (ap is_arrived_at (sym (get-edit_other p.segments k s f other)) ∙ arrived)
      ];
      within = λ s past. elim (same_or_not s k) [
        | inl e ↦ ap (times_asked (edit_at i without_oldest p.links)) e ∙ here
        | inr other ↦ (let far : length p.segments ≤ s = rw (sym (edit_length k f p.segments)) past in elsewhere s other ∙ old.within s far)
      ];
    }

pub exclusive_call : (call : Call) (i : ℕ) (p : Pipeline) (link : LinkAt) → slice_get p.links i ≡ Some link → Fits call i p link → IsExclusive p.links p.segments → IsExclusive (after_call call i p).links (after_call call i p).segments
exclusive_call Nothing i p link is fits old = old
exclusive_call Greets i p link is fits old = exclusive_greeting p i link is old
exclusive_call (Asks k) i p link is fits old = exclusive_next p i k link is fits old
exclusive_call (Answers k outcome) i p link is fits old = exclusive_reply p i k outcome link is fits old
exclusive_call Loses i p link is fits old = exclusive_over p i link is old
