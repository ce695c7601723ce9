-- What follows from each event's being lawful.
use Rattle.std.proofs.Common.{◌≡◌, ◌≢◌, ◌<◌, ◌≤◌, ◌+◌, inl, inr, ℕ, Bool, true, false, List, [], ◌∷◌, ◌++◌, Option, Some, refl, ap, sym, subst, ◌∙◌, append_assoc, append-nil, arith}
use Rattle.std.specs.Prelude.{slice_get, cond, ◌==◌}
use Rattle.std.proofs.lemmas.Bool.Decides.{nat_tests}
use Rattle.io_traits.specs.declared.links.LinkEvent.{LinkEvent}
use Rattle.io_traits.specs.declared.links.LinkEvent.TheVariants as event
use Rattle.io_traits.specs.Trace.{link_of, on_link}
use Rattle.nntp_lines.specs.declared.why.Why.{Why}
use Rattle.link_dialog.specs.Dialog.{asked_by}
use Rattle.link_dialog.specs.Events.{fine, quiet_after, quiets_at_end, single_bytes}
use Rattle.link_dialog.proofs.EventSteps.{quiet_after-append}
use Rattle.fetch_trace.specs.Setting.{Setting}
use Rattle.fetch_trace.specs.Hearing.{after_end}
use Rattle.fetch_trace.specs.LinkNow.{LinkNow, is_over, with_hearing}
use Rattle.fetch_trace.specs.Standing.{Standing, before_all, place_from, by_link, by_place, on_number}
use Rattle.fetch_trace.specs.Moving.{loses, is_lost, moved, moved_by}
use Rattle.fetch_trace.specs.Lawful.{IsOn, MayCome, IsLawful}
use Rattle.fetch_trace.specs.LawfulLaws.{IsFullBefore, LawfulIsBusy, QuietsAreFew, NothingFollowsOver, EndsOnce}
use Rattle.fetch_trace.specs.HeardOn.{HeardBy, AreHeardOn}
use Rattle.fetch_trace.proofs.Lists.{same_or_not}
use Rattle.fetch_trace.proofs.HeldSteps.{get_now}
use Rattle.fetch_trace.proofs.Settled.{live_none}
use Rattle.fetch_trace.proofs.Apart.{moved_apart}
use Rattle.fetch_trace.proofs.HeardTrace.{on_more, on_other, number_at, one_some, event_heard, fresh_heard}

-- ---- full pipelines

full_before : (setting : Setting) (s : Standing) (e : LinkEvent) → MayCome setting s e → IsFullBefore setting s e
full_before setting s (event.Opened n address) may = tt
full_before setting s (event.Sent n bytes) may = tt
full_before setting s (event.Heard n bytes) may = may.0.full
full_before setting s (event.Quiet n) may = may.full
full_before setting s (event.Ended n) may = tt

pub lawful_is_busy : LawfulIsBusy
lawful_is_busy setting s [] lawful = tt
lawful_is_busy setting s (e ∷ events) lawful = (full_before setting s e lawful.0, lawful_is_busy setting (moved setting s e) events lawful.1)

-- ---- the link of a lawful event

record CameOn (s : Standing) (n : ℕ) : Type 0 where
  i : ℕ
  l : LinkNow
  on : IsOn s n i l

came_on : (setting : Setting) (s : Standing) (e : LinkEvent) → MayCome setting s e → CameOn s (link_of e)
came_on setting s (event.Opened n address) may = absurd may
came_on setting s (event.Sent n bytes) may = record { i = may.i; l = may.l; on = may.on }
came_on setting s (event.Heard n bytes) may = record { i = may.0.i; l = may.0.l; on = may.0.on }
came_on setting s (event.Quiet n) may = record { i = may.i; l = may.l; on = may.on }
came_on setting s (event.Ended n) may = record { i = may.i; l = may.l; on = may.on }

-- ---- a link that is over

not_on : (n : ℕ) (e : LinkEvent) (events : List LinkEvent) → link_of e ≢ n → on_link n (e ∷ events) ≡ on_link n events
not_on n e events other = let test : (link_of e == n) ≡ false = grind (arith, nat_tests) in rw test refl

over_not_on : (setting : Setting) (s : Standing) (e : LinkEvent) (n i : ℕ) (l : LinkNow) → place_from 0 n s.links ≡ Some i → slice_get s.links i ≡ Some l → is_over l ≡ true → MayCome setting s e → link_of e ≢ n
over_not_on setting s e n i l place here over may own =
    let came = came_on setting s e may in
    let at : came.i ≡ i = one_some came.i i (sym came.on.place ∙ ap (λ k. place_from 0 k s.links) own ∙ place) in
    let both : Some came.l ≡ Some l = sym came.on.here ∙ ap (λ k. slice_get s.links k) at ∙ here in
    let same : came.l ≡ l = cc in
    let no : true ≡ false = sym over ∙ ap (λ (a : LinkNow). is_over a) (sym same) ∙ came.on.live in cc

pub nothing_follows_over : NothingFollowsOver
nothing_follows_over setting s [] n i l place here over lawful = refl
nothing_follows_over setting s (e ∷ events) n i l place here over lawful =
    let other = over_not_on setting s e n i l place here over lawful.0 in
    let apart = moved_apart setting s e in
    let elsewhere : place_from 0 (link_of e) s.links ≢ Some i = λ at. came_elsewhere at in
    not_on n e events other
    ∙ nothing_follows_over setting (moved setting s e) events n i l (apart.places n ∙ place) (apart.others i l elsewhere here) over lawful.1
  where
    came_elsewhere : place_from 0 (link_of e) s.links ≡ Some i → ⊥
    came_elsewhere at =
        let came = came_on setting s e lawful.0 in
        let same_place : came.i ≡ i = one_some came.i i (sym came.on.place ∙ at) in
        let both : Some came.l ≡ Some l = sym came.on.here ∙ ap (λ k. slice_get s.links k) same_place ∙ here in
        let same : came.l ≡ l = cc in
        let no : true ≡ false = sym over ∙ ap (λ (a : LinkNow). is_over a) (sym same) ∙ came.on.live in cc

lawful_behind : (setting : Setting) (s : Standing) (first second : List LinkEvent) → IsLawful setting s (first ++ second) → IsLawful setting (moved_by setting s first) second
lawful_behind setting s [] second lawful = lawful
lawful_behind setting s (e ∷ first) second lawful = lawful_behind setting (moved setting s e) first second lawful.1

pub ends_once : EndsOnce
ends_once setting events after n lawful =
    let s = moved_by setting (before_all setting) events in
    let e : LinkEvent = event.Ended n in
    let rest = lawful_behind setting (before_all setting) events (e ∷ after) lawful in
    let on = rest.0.on in
    let i = rest.0.i in
    let l = rest.0.l in
    let now = with_hearing (after_end l.hearing) l in
    let lost : on_number is_lost n s ≡ loses (after_end l.hearing) i l s =
    ap (λ (o : Option ℕ). by_place is_lost o s) on.place ∙ ap (λ (o : Option LinkNow). by_link is_lost i o s) on.here ∙ ap (λ (b : Bool). cond b s (loses (after_end l.hearing) i l s)) on.live in
    let here : slice_get (moved setting s e).links i ≡ Some now = ap (λ (t : Standing). slice_get t.links i) lost ∙ get_now s.links i l now on.here in
    nothing_follows_over setting (moved setting s e) after n i now ((moved_apart setting s e).places n ∙ on.place) here refl rest.1

-- ---- quiet receives

single_none : (n : ℕ) (bytes : List ℕ) (events : List LinkEvent) → quiet_after 0 (single_bytes n bytes ++ events) ≡ quiet_after 0 events
single_none n [] events = refl
single_none n (byte ∷ bytes) events = single_none n bytes events

-- in the fine trace there are no fewer
fine_no_fewer : (a b : ℕ) (events : List LinkEvent) → a ≤ b → quiet_after a events ≤ quiet_after b (fine events)
fine_no_fewer a b [] less = less
fine_no_fewer a b (event.Quiet n ∷ events) less = fine_no_fewer (a + 1) (b + 1) events (omega (arith, less))
fine_no_fewer a b (event.Opened n address ∷ events) less = fine_no_fewer 0 0 events (omega arith)
fine_no_fewer a b (event.Sent n bytes ∷ events) less = fine_no_fewer 0 0 events (omega arith)
fine_no_fewer a b (event.Ended n ∷ events) less = fine_no_fewer 0 0 events (omega arith)
fine_no_fewer a b (event.Heard n [] ∷ events) less = fine_no_fewer 0 b events (omega arith)
fine_no_fewer a b (event.Heard n (byte ∷ bytes) ∷ events) less =
    let same : quiet_after 0 (single_bytes n bytes ++ fine events) ≡ quiet_after 0 (fine events) = single_none n bytes (fine events) in
    let most : quiet_after 0 events ≤ quiet_after 0 (fine events) = fine_no_fewer 0 0 events (omega arith) in
    omega (arith, same, most)

one_more : (n : ℕ) (e : LinkEvent) → quiet_after n (e ∷ []) ≤ n + 1
one_more n (event.Quiet k) = omega arith
one_more n (event.Opened k address) = omega arith
one_more n (event.Sent k bytes) = omega arith
one_more n (event.Heard k bytes) = omega arith
one_more n (event.Ended k) = omega arith

live_few : (setting : Setting) (s : Standing) (m : List LinkEvent) (n i : ℕ) (l : LinkNow) → AreHeardOn setting s m → place_from 0 n s.links ≡ Some i → slice_get s.links i ≡ Some l → is_over l ≡ false → quiets_at_end (on_link n m) < setting.patience
live_few setting s m n i l heard place here live =
    let on = heard i n l here (number_at n i s.links l place here) place in
    let asked = asked_by (on.said ++ []) in
    let listens = subst (λ (o : Option Why). HeardBy setting.patience asked (fine (on_link n m)) l.hearing o) (live_none l live) (on.hears [] tt) in
    let all : quiets_at_end (fine (on_link n m)) ≡ l.hearing.quiets = listens.quiets in
    let few : l.hearing.quiets < setting.patience = listens.few in
    let most : quiet_after 0 (on_link n m) ≤ quiet_after 0 (fine (on_link n m)) = fine_no_fewer 0 0 (on_link n m) (omega arith) in
    omega (arith, all, few, most)

event_few : (setting : Setting) (s : Standing) (m : List LinkEvent) (e : LinkEvent) (n : ℕ) → MayCome setting s e → AreHeardOn setting s m → quiets_at_end (on_link n m) ≤ setting.patience → quiets_at_end (on_link n (m ++ e ∷ [])) ≤ setting.patience
event_few setting s m e n may heard few = elim (same_or_not (link_of e) n) [
  | inl own ↦ (let came = came_on setting s e may in
      let below : quiets_at_end (on_link n m) < setting.patience =
      live_few setting s m n came.i came.l heard (ap (λ k. place_from 0 k s.links) (sym own) ∙ came.on.place) came.on.here came.on.live in
      let more : quiets_at_end (on_link n (m ++ e ∷ [])) ≡ quiet_after (quiets_at_end (on_link n m)) (e ∷ []) =
      ap (λ (es : List LinkEvent). quiets_at_end es) (on_more n m e own) ∙ quiet_after-append 0 (on_link n m) (e ∷ []) in
      let most : quiet_after (quiets_at_end (on_link n m)) (e ∷ []) ≤ quiets_at_end (on_link n m) + 1 = one_more (quiets_at_end (on_link n m)) e in
      omega (arith, below, more, most))
  | inr other ↦ (let same : quiets_at_end (on_link n (m ++ e ∷ [])) ≡ quiets_at_end (on_link n m) = ap (λ (es : List LinkEvent). quiets_at_end es) (on_other n m e other) in
      omega (arith, same, few))
]

all_few : (setting : Setting) (s : Standing) (m events : List LinkEvent) (n : ℕ) → 0 < setting.patience → IsLawful setting s events → AreHeardOn setting s m → quiets_at_end (on_link n m) ≤ setting.patience → quiets_at_end (on_link n (m ++ events)) ≤ setting.patience
all_few setting s m [] n some lawful heard few = subst (λ (es : List LinkEvent). quiets_at_end (on_link n es) ≤ setting.patience) (sym (append-nil m)) few
all_few setting s m (e ∷ events) n some lawful heard few =
    subst (λ (es : List LinkEvent). quiets_at_end (on_link n es) ≤ setting.patience) (append_assoc m (e ∷ []) events)
    (all_few setting (moved setting s e) (m ++ e ∷ []) events n some lawful.1 (event_heard setting s m e some lawful.0 heard) (event_few setting s m e n lawful.0 heard few))

pub quiets_are_few : QuietsAreFew
quiets_are_few setting events n some lawful =
    all_few setting (before_all setting) [] events n some lawful (λ i k l there number at. fresh_heard setting setting.openings i l some there) (omega arith)
