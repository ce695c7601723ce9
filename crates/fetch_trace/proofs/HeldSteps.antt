-- What a change of one link and of the entries does to the ranges that are held.
use Rattle.std.proofs.Common.{◌≡◌, ◌≢◌, ◌+◌, ◌≤◌, ◌⊎◌, inl, inr, zero, suc, ℕ, true, false, List, [], ◌∷◌, Some, length, map, refl, ap, sym, subst, ◌∙◌, arith}
use Rattle.std.specs.Prelude.{slice_get}
use Rattle.range_assembler.specs.declared.assembler.Entry.{Entry}
use Rattle.range_assembler.specs.declared.assembler.Hold.TheVariants.{Held, Accepted}
use Rattle.pipeline_core.specs.LinkAt.{LinkAt}
use Rattle.pipeline_core.specs.Links.{times, times_asked}
use Rattle.lists.specs.Edit.{edit_at}
use Rattle.pipeline_core.specs.Sound.{IsExclusive}
use Rattle.pipeline_core.proofs.Exclusive.{one_of_all}
use Rattle.fetch_trace.proofs.Lists.{same_or_not}
use Rattle.pipeline_core.proofs.Full.{get-edit_other}
use Rattle.pipeline_core.proofs.Calls.{one_time}
use Rattle.fetch_trace.specs.Setting.{Setting}
use Rattle.fetch_trace.specs.Verdicts.{Range}
use Rattle.fetch_trace.specs.LinkNow.{LinkNow, link_at, is_over, waiting_of, outstanding_by}
use Rattle.fetch_trace.specs.Standing.{Standing, pipeline_of, segment_at}
use Rattle.fetch_trace.specs.HeldRanges.{IsOldest, Holds, IsHeldAt, Holder, AreHeld}
use Rattle.fetch_trace.proofs.Lists.{get-seen}

-- ---- two links

-- a segment that is outstanding on two links is so twice
twice : (links : List LinkAt) (i j s : ℕ) (a b : LinkAt) → i ≢ j → slice_get links i ≡ Some a → slice_get links j ≡ Some b → times s a.asked + times s b.asked ≤ times_asked links s
twice [] i j s a b apart one two = cc
twice (link ∷ links) zero zero s a b apart one two = absurd (apart refl)
twice (link ∷ links) zero (suc j) s a b apart one two = let same : link ≡ a = cc in let rest : times s b.asked ≤ times_asked links s = one_of_all links j s b two in rw same (omega (arith, rest))
twice (link ∷ links) (suc i) zero s a b apart one two = let same : link ≡ b = cc in let rest : times s a.asked ≤ times_asked links s = one_of_all links i s a one in rw same (omega (arith, rest))
twice (link ∷ links) (suc i) (suc j) s a b apart one two = let rest = twice links i j s a b (λ e. apart (ap (λ n. suc n) e)) one two in omega (arith, rest)

pub asked_once : (l : LinkNow) (segment : ℕ) → is_over l ≡ false → IsOldest l segment → 1 ≤ times segment (link_at l).asked
asked_once l segment live oldest =
    let asked : (link_at l).asked ≡ segment ∷ oldest.0 = ap (λ b. outstanding_by b (waiting_of l.asking)) live ∙ oldest.1 in
    let some : 1 ≤ times segment (segment ∷ oldest.0) = (let one : times segment (segment ∷ []) ≡ 1 = one_time segment in omega (arith, one)) in
    rw asked some

pub one_oldest : (setting : Setting) (links : List LinkNow) (i j segment : ℕ) (a b : LinkNow) → IsExclusive (pipeline_of setting links).links (pipeline_of setting links).segments → i ≢ j → slice_get links i ≡ Some a → slice_get links j ≡ Some b → is_over a ≡ false → is_over b ≡ false → IsOldest a segment → IsOldest b segment → ⊥
one_oldest setting links i j segment a b exclusive apart one two live_a live_b old_a old_b =
    let both = twice (map link_at links) i j segment (link_at a) (link_at b) apart (get-seen link_at links i a one) (get-seen link_at links j b two) in
    let first = asked_once a segment live_a old_a in
    let second = asked_once b segment live_b old_b in
    let once = exclusive.once segment in
    omega (arith, both, first, second, once)

oldest_or_not : (waiting : List ℕ) (segment : ℕ) → ((behind : List ℕ) × (waiting ≡ segment ∷ behind)) ⊎ (((behind : List ℕ) × (waiting ≡ segment ∷ behind)) → ⊥)
oldest_or_not [] segment = inr (λ is. (let no : [] ≡ segment ∷ is.0 = is.1 in cc))
oldest_or_not (first ∷ waiting) segment = elim (same_or_not first segment) [
  | inl e ↦ inl (waiting, ap (λ k. k ∷ waiting) e)
  | inr other ↦ inr (λ is. other (let same : first ∷ waiting ≡ segment ∷ is.0 = is.1 in cc))
]

-- ---- a step

-- A link that isn't over changes, and of the entries only that of its oldest segment.
pub record Step (setting : Setting) (s : Standing) (i : ℕ) (l now : LinkNow) (after : Standing) : Type 0 where
  pub here : slice_get s.links i ≡ Some l
  pub live : is_over l ≡ false
  pub links : after.links ≡ edit_at i (λ old. now) s.links
  pub apart : (segment : ℕ) → (IsOldest l segment → ⊥) → slice_get after.entries segment ≡ slice_get s.entries segment
  pub held_here : (segment : ℕ) (entry : Entry) → IsOldest l segment → slice_get after.entries segment ≡ Some entry → entry.hold ≡ Held → (range : Range) × (Holds now segment range × ((entry.first ≡ range.first) × (entry.last ≡ range.last)))
  pub holds_here : (segment : ℕ) (range : Range) → Holds now segment range → IsHeldAt after.entries segment range
  pub accepted_here : (segment size : ℕ) (entry : Entry) → IsOldest l segment → slice_get after.entries segment ≡ Some entry → entry.hold ≡ Accepted size → (segment_at setting after.links segment).arrived ≡ true
  pub arrived_stays : (segment : ℕ) → (segment_at setting s.links segment).arrived ≡ true → (segment_at setting after.links segment).arrived ≡ true
  pub long : length after.entries ≡ length s.entries

pub get_now : (links : List LinkNow) (i : ℕ) (l now : LinkNow) → slice_get links i ≡ Some l → slice_get (edit_at i (λ old. now) links) i ≡ Some now
get_now [] i l now is = cc
get_now (a ∷ links) zero l now is = refl
get_now (a ∷ links) (suc i) l now is = get_now links i l now is

get_other : (setting : Setting) (s : Standing) (i : ℕ) (l now : LinkNow) (after : Standing) (j : ℕ) → Step setting s i l now after → j ≢ i → slice_get after.links j ≡ slice_get s.links j
get_other setting s i l now after j step other = ap (λ (ls : List LinkNow). slice_get ls j) step.links ∙ get-edit_other s.links i j (λ old. now) other

get_here : (setting : Setting) (s : Standing) (i : ℕ) (l now : LinkNow) (after : Standing) → Step setting s i l now after → slice_get after.links i ≡ Some now
get_here setting s i l now after step = ap (λ (ls : List LinkNow). slice_get ls i) step.links ∙ get_now s.links i l now step.here

-- the holder of an entry that isn't that of the changed link's oldest segment
holder_stays : (setting : Setting) (s : Standing) (i : ℕ) (l now : LinkNow) (after : Standing) (segment first last : ℕ) → Step setting s i l now after → (IsOldest l segment → ⊥) → Holder s.links segment first last → Holder after.links segment first last
holder_stays setting s i l now after segment first last step not_here holder = elim (same_or_not holder.i i) [
  | inl e ↦ (let both : Some holder.l ≡ Some l = sym holder.here ∙ ap (λ n. slice_get s.links n) e ∙ step.here in
      let same : holder.l ≡ l = cc in
      absurd (not_here (subst (λ (a : LinkNow). IsOldest a segment) same holder.holds.oldest)))
  | inr other ↦ record { i = holder.i; l = holder.l; here = get_other setting s i l now after holder.i step other ∙ holder.here; range = holder.range; holds = holder.holds; first_is = holder.first_is; last_is = holder.last_is }
]

pub held_step : (setting : Setting) (s : Standing) (i : ℕ) (l now : LinkNow) (after : Standing) → IsExclusive (pipeline_of setting s.links).links (pipeline_of setting s.links).segments → Step setting s i l now after → AreHeld setting s → AreHeld setting after
held_step setting s i l now after exclusive step old = record {
  held = λ segment entry there is_held. elim (oldest_or_not (waiting_of l.asking) segment) [
    | inl oldest ↦ (let found = step.held_here segment entry oldest there is_held in
        record { i = i; l = now; here = get_here setting s i l now after step; range = found.0; holds = found.1.0; first_is = found.1.1.0; last_is = found.1.1.1 })
    | inr not_here ↦ holder_stays setting s i l now after segment entry.first entry.last step not_here (old.held segment entry (sym (step.apart segment not_here) ∙ there) is_held)
  ];
  holds = λ j segment other range there holds. elim (same_or_not j i) [
    | inl e ↦ (let both : Some other ≡ Some now = sym there ∙ ap (λ n. slice_get after.links n) e ∙ get_here setting s i l now after step in
        let same : other ≡ now = cc in
        step.holds_here segment range (subst (λ (a : LinkNow). Holds a segment range) same holds))
    | inr apart ↦ (let was : slice_get s.links j ≡ Some other = sym (get_other setting s i l now after j step apart) ∙ there in
        let entry = old.holds j segment other range was holds in
        let not_here : IsOldest l segment → ⊥ = λ oldest. one_oldest setting s.links i j segment l other exclusive (λ e. apart (sym e)) step.here was step.live holds.live oldest holds.oldest in
        record { entry = entry.entry; there = step.apart segment not_here ∙ entry.there; held = entry.held; first = entry.first; last = entry.last })
  ];
  accepted = λ segment size entry there is_accepted. elim (oldest_or_not (waiting_of l.asking) segment) [
    | inl oldest ↦ step.accepted_here segment size entry oldest there is_accepted
    | inr not_here ↦ step.arrived_stays segment (old.accepted segment size entry (sym (step.apart segment not_here) ∙ there) is_accepted)
  ];
  long = step.long ∙ old.long;
}
