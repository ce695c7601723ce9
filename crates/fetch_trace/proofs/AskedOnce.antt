-- Each link asks a segment at most once.
use Rattle.std.proofs.Common.{◌≡◌, ◌<◌, ◌≤◌, ◌+◌, inl, inr, zero, suc, ℕ, Bool, true, false, not, ◌&&◌, ◌||◌, List, [], ◌∷◌, ◌++◌, Option, Some, None, length, drop, map, refl, ap, sym, subst, ◌∙◌, arith}
use Rattle.std.specs.Prelude.{slice_get, cond, ◌==◌}
use Rattle.std.proofs.lemmas.Bool.Decides.{nat_tests}
use Rattle.limits.specs.declared.TheConstants.{MOST_SERVERS}
use Rattle.io_traits.specs.declared.links.LinkEvent.{LinkEvent}
use Rattle.io_traits.specs.declared.links.LinkEvent.TheVariants as event
use Rattle.pipeline_core.specs.Links.{times, times_asked}
use Rattle.pipeline_core.specs.Pipeline.{next_segment}
use Rattle.pipeline_core.specs.Searches.{is_arrived_at, is_answered_at}
use Rattle.pipeline_core.proofs.Calls.{one_time, no_time}
use Rattle.pipeline_core.proofs.Exclusive.{none_held, one_of_all, times-append}
use Rattle.pipeline_core.proofs.Free.{is_next}
use Rattle.fetch_trace.specs.Setting.{Opening, Setting}
use Rattle.fetch_trace.specs.Verdicts.{Verdict, is_accepted}
use Rattle.fetch_trace.specs.LinkNow.{LinkNow, fresh_link, link_at, is_over, is_ready, waiting_of, outstanding_by, has_answer, is_refused, some_arrival, some_absence}
use Rattle.fetch_trace.specs.Standing.{Standing, before_all, from_numbers, is_kept, segment_at, pipeline_of, with_link}
use Rattle.fetch_trace.specs.Due.{Due, due_on}
use Rattle.fetch_trace.specs.Moving.{begun_with, begins, says, sends, hears_byte, is_quiet, is_lost, moved, moved_by}
use Rattle.fetch_trace.specs.LawfulLaws.{EachIsAskedOnce}
use Rattle.fetch_trace.proofs.Lists.{get-numbered, index-found, get-seen, same_or_not}
use Rattle.fetch_trace.proofs.Standings.{due_asks, on_each, on_bytes}
use Rattle.fetch_trace.proofs.Aligned.{edit_all}
use Rattle.fetch_trace.proofs.Apart.{HeardEdited, byte_edited, quiet_edited, lost_edited}

-- ---- a segment that is next on a link wasn't asked there

neither : (a b : Bool) → (a || b) ≡ false → (a ≡ false) × (b ≡ false)
neither true b is = cc
neither false b is = (refl, is)

no_arrival : (segment i : ℕ) (links : List LinkNow) (l : LinkNow) → slice_get links i ≡ Some l → some_arrival segment links ≡ false → has_answer is_accepted segment l.asking.commands l.asking.verdicts ≡ false
no_arrival segment i [] l here none = cc
no_arrival segment zero (a ∷ links) l here none =
    let same : a ≡ l = cc in
    ap (λ (b : LinkNow). has_answer is_accepted segment b.asking.commands b.asking.verdicts) (sym same) ∙ (neither (has_answer is_accepted segment a.asking.commands a.asking.verdicts) (some_arrival segment links) none).0
no_arrival segment (suc i) (a ∷ links) l here none = no_arrival segment i links l here (neither (has_answer is_accepted segment a.asking.commands a.asking.verdicts) (some_arrival segment links) none).1

no_absence : (server segment i : ℕ) (links : List LinkNow) (l : LinkNow) → slice_get links i ≡ Some l → l.opening.server ≡ server → some_absence server segment links ≡ false → has_answer is_refused segment l.asking.commands l.asking.verdicts ≡ false
no_absence server segment i [] l here own none = cc
no_absence server segment zero (a ∷ links) l here own none =
    let same : a ≡ l = cc in
    let test : (a.opening.server == server) ≡ true = (let e : a.opening.server ≡ server = ap (λ (b : LinkNow). b.opening.server) same ∙ own in grind (arith, nat_tests)) in
    let first = (neither ((a.opening.server == server) && has_answer is_refused segment a.asking.commands a.asking.verdicts) (some_absence server segment links) none).0 in
    ap (λ (b : LinkNow). has_answer is_refused segment b.asking.commands b.asking.verdicts) (sym same)
    ∙ sym (ap (λ b. b && has_answer is_refused segment a.asking.commands a.asking.verdicts) test) ∙ first
no_absence server segment (suc i) (a ∷ links) l here own none =
    no_absence server segment i links l here own (neither ((a.opening.server == server) && has_answer is_refused segment a.asking.commands a.asking.verdicts) (some_absence server segment links) none).1

-- an answer is accepted or it isn't
judged_or : (b here : Bool) → here ≡ true → (here && b) ≡ false → (here && not b) ≡ false → ⊥
judged_or true true is one two = cc
judged_or false true is one two = cc
judged_or b false is one two = cc

never_asked : (segment : ℕ) (commands : List ℕ) (verdicts : List Verdict) → has_answer is_accepted segment commands verdicts ≡ false → has_answer is_refused segment commands verdicts ≡ false → times segment (drop (length verdicts) commands) ≡ 0 → times segment commands ≡ 0
never_asked segment [] verdicts arrived absent waiting = refl
never_asked segment (command ∷ commands) [] arrived absent waiting = waiting
never_asked segment (command ∷ commands) (verdict ∷ verdicts) arrived absent waiting =
    let one = neither ((command == segment) && is_accepted verdict) (has_answer is_accepted segment commands verdicts) arrived in
    let two = neither ((command == segment) && is_refused verdict) (has_answer is_refused segment commands verdicts) absent in
    by (command == segment) refl one.0 two.0 (never_asked segment commands verdicts one.1 two.1 waiting)
  where
    by : (b : Bool) → (command == segment) ≡ b → ((command == segment) && is_accepted verdict) ≡ false → ((command == segment) && is_refused verdict) ≡ false → times segment commands ≡ 0 → times segment (command ∷ commands) ≡ 0
    by true is one two rest = absurd (judged_or (is_accepted verdict) (command == segment) is one two)
    by false is one two rest = rw is (omega (arith, rest))

long_numbered : {A : Type 0} (f : ℕ → A) (start count : ℕ) → length (from_numbers f start count) ≡ count
long_numbered f start zero = refl
long_numbered f start (suc count) = ap (λ n. suc n) (long_numbered f (start + 1) count)

unasked : (setting : Setting) (s : Standing) (i k : ℕ) (l : LinkNow) → slice_get s.links i ≡ Some l → l.opening.server < MOST_SERVERS → next_segment (pipeline_of setting s.links) i ≡ Some k → times k l.asking.commands ≡ 0
unasked setting s i k l here few asks =
    let p = pipeline_of setting s.links in
    let next = is_next p i k (link_at l) (get-seen link_at s.links i l here) asks in
    let known = segment_at setting s.links k in
    let long : length p.segments ≡ length setting.entries = long_numbered (segment_at setting s.links) 0 (length setting.entries) in
    let below : k < length setting.entries = (let less = next.below in omega (arith, less, long)) in
    let at : slice_get p.segments k ≡ Some known = get-numbered (segment_at setting s.links) 0 (length setting.entries) k below ∙ (let z : 0 + k ≡ k = omega arith in ap (λ n. Some (segment_at setting s.links n)) z) in
    let arrived : known.arrived ≡ false = sym (ap is_arrived_at at) ∙ next.not_arrived in
    let server = l.opening.server in
    let mark : slice_get known.answered server ≡ Some (some_absence server k s.links) =
    get-numbered (λ v. some_absence v k s.links) 0 MOST_SERVERS server few ∙ (let z : 0 + server ≡ server = omega arith in ap (λ v. Some (some_absence v k s.links)) z) in
    let absent : some_absence server k s.links ≡ false = sym (index-found known.answered server (some_absence server k s.links) false mark) ∙ sym (ap (is_answered_at server) at) ∙ next.not_answered in
    let free : times_asked p.links k ≡ 0 = none_held 0 p.links k next.unheld in
    let own = one_of_all p.links i k (link_at l) (get-seen link_at s.links i l here) in
    let outstanding : (link_at l).asked ≡ waiting_of l.asking = ap (λ b. outstanding_by b (waiting_of l.asking)) next.live in
    let same : times k (link_at l).asked ≡ times k (waiting_of l.asking) = ap (times k) outstanding in
    never_asked k l.asking.commands l.asking.verdicts (no_arrival k i s.links l here (neither (is_kept (slice_get setting.entries k)) (some_arrival k s.links) arrived).1)
    (no_absence server k i s.links l here refl absent) (omega (arith, free, own, same))

-- ---- one link

record Once (l : LinkNow) : Type 0 where
  server : l.opening.server < MOST_SERVERS
  once : (segment : ℕ) → times segment l.asking.commands ≤ 1

abbrev AreOnce : Standing → Type 0
AreOnce s = (i : ℕ) (l : LinkNow) → slice_get s.links i ≡ Some l → Once l

once_same : (l now : LinkNow) → now.opening ≡ l.opening → now.asking.commands ≡ l.asking.commands → Once l → Once now
once_same l now opening commands old = record {
  server = subst (λ (o : Opening). o.server < MOST_SERVERS) (sym opening) old.server;
  once = λ segment. subst (λ cs. times segment cs ≤ 1) (sym commands) (old.once segment);
}

begun_once : (segment k : ℕ) (commands : List ℕ) → times k commands ≡ 0 → times segment commands ≤ 1 → times segment (commands ++ k ∷ []) ≤ 1
begun_once segment k commands none few =
    let both = times-append segment commands (k ∷ []) in
    elim (same_or_not segment k) [
      | inl e ↦ (let own : times segment commands ≡ 0 = ap (λ n. times n commands) e ∙ none in
          let one : times segment (k ∷ []) ≡ 1 = ap (λ n. times n (k ∷ [])) e ∙ one_time k in
          omega (arith, both, own, one))
      | inr other ↦ (let zero_times : times segment (k ∷ []) ≡ 0 = no_time k segment other in omega (arith, both, few, zero_times))
    ]

due_once : (setting : Setting) (s : Standing) (i : ℕ) (l : LinkNow) (bytes : List ℕ) (due : Due) (o : Option ℕ) → slice_get s.links i ≡ Some l → due_on setting (pipeline_of setting s.links) i l ≡ Some due → due.segment ≡ o → Once l → Once (begins bytes (Some due) l)
due_once setting s i l bytes due None here is asks old = once_same l (begins bytes (Some due) l) refl (ap (λ (p : Option ℕ). (begun_with p l.asking).commands) asks) old
due_once setting s i l bytes due (Some k) here is asks old = record {
  server = old.server;
  once = λ segment. subst (λ cs. times segment cs ≤ 1) (sym (ap (λ (p : Option ℕ). (begun_with p l.asking).commands) asks))
      (begun_once segment k l.asking.commands (unasked setting s i k l here old.server (due_asks setting (pipeline_of setting s.links) i l (is_over l) (is_ready l) due k is asks)) (old.once segment));
}

begins_once : (setting : Setting) (s : Standing) (i : ℕ) (l : LinkNow) (bytes : List ℕ) (o : Option Due) → slice_get s.links i ≡ Some l → due_on setting (pipeline_of setting s.links) i l ≡ o → Once l → Once (begins bytes o l)
begins_once setting s i l bytes None here is old = old
begins_once setting s i l bytes (Some due) here is old = due_once setting s i l bytes due due.segment here is refl old

says_once : (setting : Setting) (s : Standing) (i : ℕ) (l : LinkNow) (bytes unsent : List ℕ) → slice_get s.links i ≡ Some l → Once l → Once (says setting bytes unsent i l s)
says_once setting s i l bytes [] here old = begins_once setting s i l bytes (due_on setting (pipeline_of setting s.links) i l) here refl old
says_once setting s i l bytes (byte ∷ unsent) here old = record { server = old.server; once = old.once }

-- ---- all links

heard_once : (s t : Standing) (i : ℕ) (l : LinkNow) → slice_get s.links i ≡ Some l → HeardEdited s t i l → AreOnce s → AreOnce t
heard_once s t i l here e old k m at =
    edit_all Once s.links i e.edited.now old (once_same l e.edited.now e.edited.opening e.commands (old i l here)) k m (ap (λ (ls : List LinkNow). slice_get ls k) (sym e.edited.links) ∙ at)

sent_once : (setting : Setting) (s : Standing) (i : ℕ) (l : LinkNow) (bytes : List ℕ) → slice_get s.links i ≡ Some l → AreOnce s → AreOnce (sends setting bytes i l s)
sent_once setting s i l bytes here old = by (is_over l)
  where
    by : (b : Bool) → AreOnce (cond b s (with_link i (says setting bytes l.saying.unsent i l s) s))
    by true = old
    by false = edit_all Once s.links i (says setting bytes l.saying.unsent i l s) old (says_once setting s i l bytes l.saying.unsent here (old i l here))

moved_once : (setting : Setting) (s : Standing) (e : LinkEvent) → AreOnce s → AreOnce (moved setting s e)
moved_once setting s (event.Opened n address) old = old
moved_once setting s (event.Sent n bytes) old = on_each AreOnce (sends setting bytes) n s old (λ i l here. sent_once setting s i l bytes here old)
moved_once setting s (event.Heard n bytes) old = on_bytes AreOnce bytes n s old (λ byte i l t here was. heard_once t (hears_byte byte i l t) i l here (byte_edited t i byte l here) was)
moved_once setting s (event.Quiet n) old = on_each AreOnce (is_quiet setting.patience) n s old (λ i l here. heard_once s (is_quiet setting.patience i l s) i l here (quiet_edited s i setting.patience l here) old)
moved_once setting s (event.Ended n) old = on_each AreOnce is_lost n s old (λ i l here. heard_once s (is_lost i l s) i l here (lost_edited s i l here) old)

moved_by_once : (setting : Setting) (s : Standing) (events : List LinkEvent) → AreOnce s → AreOnce (moved_by setting s events)
moved_by_once setting s [] old = old
moved_by_once setting s (e ∷ events) old = moved_by_once setting (moved setting s e) events (moved_once setting s e old)

fresh_once : (openings : List Opening) → ((i : ℕ) (opening : Opening) → slice_get openings i ≡ Some opening → opening.server < MOST_SERVERS) → (i : ℕ) (l : LinkNow) → slice_get (map fresh_link openings) i ≡ Some l → Once l
fresh_once [] few i l here = cc
fresh_once (opening ∷ openings) few zero l here = let same : fresh_link opening ≡ l = cc in subst Once same (record { server = few 0 opening refl; once = λ segment. omega arith })
fresh_once (opening ∷ openings) few (suc i) l here = fresh_once openings (λ k other at. few (suc k) other at) i l here

pub each_is_asked_once : EachIsAskedOnce
each_is_asked_once setting events i segment l few here = (moved_by_once setting (before_all setting) events (fresh_once setting.openings few) i l here).once segment
