-- At each moment of each trace the ranges that are held are those of unfinished articles.
use Rattle.std.proofs.Common.{◌≡◌, ◌≤◌, ◌⊎◌, inl, inr, zero, suc, ℕ, Bool, true, false, not, ◌||◌, List, [], ◌∷◌, ◌++◌, Option, Some, None, length, drop, map, refl, ap, sym, subst, ◌∙◌, append-nil}
use Rattle.std.specs.Prelude.{slice_get, cond, is_some}
use Rattle.io_traits.specs.declared.links.LinkEvent.{LinkEvent}
use Rattle.io_traits.specs.declared.links.LinkEvent.TheVariants as event
use Rattle.nntp_lines.specs.declared.why.Why.{Why}
use Rattle.nntp_lines.specs.declared.why.Why.TheVariants as why
use Rattle.link_dialog.specs.declared.awaited.Awaited.{Awaited}
use Rattle.pipeline_core.specs.PipelineAt.{Pipeline}
use Rattle.pipeline_core.specs.Pipeline.{next_segment, is_finished}
use Rattle.range_assembler.specs.declared.assembler.Entry.{Entry}
use Rattle.range_assembler.specs.declared.assembler.Hold.TheVariants.{Held}
use Rattle.fetch_trace.specs.Setting.{Opening, Setting}
use Rattle.fetch_trace.specs.Hearing.{after_byte, after_quiet, after_end, whole_by}
use Rattle.fetch_trace.specs.Verdicts.{Range, is_accepted, range_of}
use Rattle.fetch_trace.specs.LinkNow.{LinkNow, is_over, is_ready, waiting_of, with_hearing, fresh_link}
use Rattle.range_assembler.specs.Entries.{is_accepted as is_accepted_hold}
use Rattle.fetch_trace.specs.Standing.{Standing, before_all, pipeline_of, is_kept, place_from, with_link, on_number}
use Rattle.fetch_trace.specs.Due.{Due, login_due, ask_or_quit, due_on}
use Rattle.fetch_trace.specs.Moving.{begun_with, with_saying, begins, says, sends, loses, replies_by, hears_byte, is_quiet, is_lost, hears, with_last, moved, moved_by, standing_at}
use Rattle.fetch_trace.specs.Valid.{bodies, pending_by, pending_of, IsAwaiting, IsValidLink}
use Rattle.fetch_trace.specs.HeldRanges.{IsOldest, AreHeld, IsSettled, NoneHeld}
use Rattle.fetch_trace.proofs.Answered.{answered, answers-begun}
use Rattle.fetch_trace.proofs.Valid.{no_tail}
use Rattle.fetch_trace.proofs.Settled.{AreSettled, live_none, oldest_on, byte_settled, sends_settled, quiet_settled, lost_settled, start_settled}
use Rattle.fetch_trace.proofs.Standings.{IsKept, login_due_asks_none, byte_kept, sent_kept, quiet_kept, lost_kept, start_kept, on_each, on_bytes}
use Rattle.fetch_trace.proofs.HeldSteps.{held_step}
use Rattle.fetch_trace.proofs.HeldMoves.{Now, SameHolds, same_step, no_rest, fixed_same, unfixed_same, reads_held, loses_held, same_holder}

-- ---- a piece that is sent

pub record Ready (l : LinkNow) : Type 0 where
  pub ready : is_ready l ≡ true
  pub unquit : l.saying.quits ≡ false

ask_when : (setting : Setting) (next : Option ℕ) (finished quits : Bool) (due : Due) → ask_or_quit setting next finished quits ≡ Some due → quits ≡ false
ask_when setting next finished true due is = cc
ask_when setting next finished false due is = refl

pub due_when : (setting : Setting) (p : Pipeline) (i : ℕ) (l : LinkNow) (over ready : Bool) (due : Due) (k : ℕ) → is_ready l ≡ ready → cond over None (cond ready (ask_or_quit setting (next_segment p i) (is_finished p) l.saying.quits) (login_due l.opening.login l.hearing.replies l.hearing.waiting)) ≡ Some due → due.segment ≡ Some k → Ready l
due_when setting p i l true ready due k r is asks = cc
due_when setting p i l false true due k r is asks = record { ready = r; unquit = ask_when setting (next_segment p i) (is_finished p) l.saying.quits due is }
due_when setting p i l false false due k r is asks =
    let none = login_due_asks_none l.opening.login l.hearing.replies l.hearing.waiting due is in let no : None ≡ Some k = sym none ∙ asks in cc

-- where a BODY is due and none is awaited, nothing is left over
nothing_left : (l : LinkNow) → Ready l → is_over l ≡ false → pending_of l.saying ≡ [] → IsValidLink l → IsSettled l → waiting_of l.asking ≡ [] → l.hearing.rest ≡ []
nothing_left l r live pending valid settled none =
    let P : Bool → Type 0 = λ b. IsAwaiting b l in
    let was = subst P r.ready valid.kinds in
    let waiting : l.hearing.waiting ≡ [] = sym (append-nil l.hearing.waiting) ∙ ap (λ t. l.hearing.waiting ++ t) (sym pending) ∙ was.2 ∙ ap (λ d. bodies d ++ was.0) none ∙ no_tail l.saying.quits was.0 r.unquit was.1 in
    settled.empty (live_none l live) waiting

pub first_back : (l : LinkNow) (o : Option ℕ) (segment : ℕ) (waiting : List ℕ) → length l.asking.verdicts ≤ length l.asking.commands → waiting_of l.asking ≡ waiting → (waiting ≡ [] → ⊥) → (behind : List ℕ) × (waiting_of (begun_with o l.asking) ≡ segment ∷ behind) → IsOldest l segment
first_back l o segment [] few is some oldest = absurd (some refl)
first_back l o segment (first ∷ waiting) few is some oldest =
    let found = oldest_on l o first waiting few is in
    let both : first ∷ found.0 ≡ segment ∷ oldest.0 = sym found.1 ∙ oldest.1 in
    let same : first ≡ segment = cc in
    (waiting, is ∙ ap (λ k. k ∷ waiting) same)

said_same : (l : LinkNow) (kind : Awaited) (unsent : List ℕ) (o : Option ℕ) → length l.asking.verdicts ≤ length l.asking.commands → is_over l ≡ false → (waiting_of l.asking ≡ [] → (o ≡ None) ⊎ (l.hearing.rest ≡ [])) → SameHolds l (with_saying kind unsent (begun_with o l.asking) l)
said_same l kind unsent o few live left =
    let now = with_saying kind unsent (begun_with o l.asking) l in
    record {
      on = λ segment range holds. (let oldest = holds.oldest in
          record { live = right_false (is_some l.hearing.over) (not (is_some l.opening.number)) live; ready = holds.ready; oldest = oldest_on l o segment oldest.0 few oldest.1; fixed = holds.fixed; clear = against o ∙ holds.clear });
      back = λ segment range holds. (let none : waiting_of l.asking ≡ [] → ⊥ = λ empty. elim (left empty) [
        | inl nothing ↦ (let oldest = holds.oldest in
            let was : waiting_of (begun_with o l.asking) ≡ [] = ap (λ (p : Option ℕ). waiting_of (begun_with p l.asking)) nothing ∙ empty in
            let no : [] ≡ segment ∷ oldest.0 = sym was ∙ oldest.1 in cc)
        | inr rest ↦ no_rest now segment range rest holds
      ] in
          record { live = live; ready = holds.ready; oldest = first_back l o segment (waiting_of l.asking) few refl none holds.oldest; fixed = holds.fixed; clear = sym (against o) ∙ holds.clear });
    }
  where
    right_false : (a b : Bool) → (a || b) ≡ false → b ≡ false
    right_false true b is = cc
    right_false false b is = is

    against : (p : Option ℕ) → (begun_with p l.asking).against ≡ l.asking.against
    against None = refl
    against (Some k) = refl

said_answers : (l : LinkNow) (kind : Awaited) (unsent : List ℕ) (o : Option ℕ) (segment : ℕ) → length l.asking.verdicts ≤ length l.asking.commands → answered is_accepted segment (with_saying kind unsent (begun_with o l.asking) l) ≡ answered is_accepted segment l
said_answers l kind unsent None segment few = refl
said_answers l kind unsent (Some k) segment few = answers-begun is_accepted segment k l.asking.commands l.asking.verdicts few

record Saying1 (l now : LinkNow) : Type 0 where
  same : SameHolds l now
  answers : (segment : ℕ) → answered is_accepted segment now ≡ answered is_accepted segment l

begins_by : (setting : Setting) (s : Standing) (i : ℕ) (l : LinkNow) (bytes : List ℕ) (o : Option Due) → due_on setting (pipeline_of setting s.links) i l ≡ o → is_over l ≡ false → pending_of l.saying ≡ [] → IsValidLink l → IsSettled l → Saying1 l (begins bytes o l)
begins_by setting s i l bytes None is live pending valid settled = record { same = record { on = λ segment range holds. holds; back = λ segment range holds. holds }; answers = λ segment. refl }
begins_by setting s i l bytes (Some due) is live pending valid settled = record {
  same = said_same l due.kind (drop (length bytes) due.text) due.segment valid.few live (λ none. by due.segment refl none);
  answers = λ segment. said_answers l due.kind (drop (length bytes) due.text) due.segment segment valid.few;
}
  where
    by : (o : Option ℕ) → due.segment ≡ o → waiting_of l.asking ≡ [] → (due.segment ≡ None) ⊎ (l.hearing.rest ≡ [])
    by None e none = inl e
    by (Some k) e none = inr (nothing_left l (due_when setting (pipeline_of setting s.links) i l (is_over l) (is_ready l) due k refl is e) live pending valid settled none)

says_by : (setting : Setting) (s : Standing) (i : ℕ) (l : LinkNow) (bytes unsent : List ℕ) → l.saying.unsent ≡ unsent → is_over l ≡ false → IsValidLink l → IsSettled l → Saying1 l (says setting bytes unsent i l s)
says_by setting s i l bytes [] is live valid settled = begins_by setting s i l bytes (due_on setting (pipeline_of setting s.links) i l) refl live (ap (λ u. pending_by l.saying.kind u) is) valid settled
says_by setting s i l bytes (byte ∷ unsent) is live valid settled = record {
  same = said_same l l.saying.kind (drop (length bytes) (byte ∷ unsent)) None valid.few live (λ none. inl refl);
  answers = λ segment. refl;
}

-- ---- all that is kept

pub record IsSound (setting : Setting) (s : Standing) : Type 0 where
  pub kept : IsKept setting s
  pub settled : AreSettled s
  pub held : AreHeld setting s

at_link : (setting : Setting) (s : Standing) (i : ℕ) (l : LinkNow) → slice_get s.links i ≡ Some l → is_over l ≡ false → IsSound setting s → Now setting s i l
at_link setting s i l is live old = record { here = is; live = live; exclusive = old.kept.exclusive; held = old.held; settled = old.settled i l is }

chosen : (setting : Setting) (b : Bool) (one two : Standing) → (b ≡ true → AreHeld setting one) → (b ≡ false → AreHeld setting two) → AreHeld setting (cond b one two)
chosen setting true one two first second = first refl
chosen setting false one two first second = second refl

pub byte_sound : (setting : Setting) (byte i : ℕ) (l : LinkNow) (s : Standing) → slice_get s.links i ≡ Some l → IsSound setting s → IsSound setting (hears_byte byte i l s)
byte_sound setting byte i l s is old = record {
  kept = byte_kept setting byte i l s is old.kept;
  settled = byte_settled byte i l s old.settled (old.settled i l is);
  held = chosen setting (is_over l) s (replies_by (after_byte byte l.hearing) (whole_by l.hearing.waiting (l.hearing.rest ++ byte ∷ [])) (is_ready l) i l s) (λ over. old.held)
      (λ live. reads_held setting s i l byte (whole_by l.hearing.waiting (l.hearing.rest ++ byte ∷ [])) (is_ready l) (at_link setting s i l is live old) refl);
}

pub sent_sound : (setting : Setting) (bytes : List ℕ) (i : ℕ) (l : LinkNow) (s : Standing) → slice_get s.links i ≡ Some l → IsSound setting s → IsSound setting (sends setting bytes i l s)
sent_sound setting bytes i l s is old = record {
  kept = sent_kept setting bytes i l s is old.kept;
  settled = sends_settled setting bytes i l s (old.kept.valid i l is).few old.settled (old.settled i l is);
  held = chosen setting (is_over l) s (with_link i (says setting bytes l.saying.unsent i l s) s) (λ over. old.held)
      (λ live. (let said = says_by setting s i l bytes l.saying.unsent refl live (old.kept.valid i l is) (old.settled i l is) in
      let now = says setting bytes l.saying.unsent i l s in
      held_step setting s i l now (with_link i now s) old.kept.exclusive
      (same_step setting s i l now (with_link i now s) old.kept.exclusive old.held is live refl refl said.same said.answers) old.held));
}

quiet_same : (patience : ℕ) (l : LinkNow) (o : Option Range) → is_over l ≡ false → (after_quiet patience l.hearing).over ≡ None → range_of l.hearing.rest ≡ o → SameHolds l (with_hearing (after_quiet patience l.hearing) l)
quiet_same patience l None live over is = unfixed_same l (after_quiet patience l.hearing) is is
quiet_same patience l (Some range) live over is = fixed_same l (after_quiet patience l.hearing) [] range live over refl (sym (append-nil l.hearing.rest)) is

quiet_by : (setting : Setting) (s : Standing) (i : ℕ) (l : LinkNow) (o : Option Why) → (after_quiet setting.patience l.hearing).over ≡ o → Now setting s i l → AreHeld setting (cond (is_some (after_quiet setting.patience l.hearing).over) (loses (after_quiet setting.patience l.hearing) i l s) (with_link i (with_hearing (after_quiet setting.patience l.hearing) l) s))
quiet_by setting s i l None over n =
    let hearing = after_quiet setting.patience l.hearing in
    let test : is_some hearing.over ≡ false = ap (λ (o : Option Why). is_some o) over in
    let P : Bool → Type 0 = λ c. AreHeld setting (cond c (loses hearing i l s) (with_link i (with_hearing hearing l) s)) in
    subst P (sym test) (held_step setting s i l (with_hearing hearing l) (with_link i (with_hearing hearing l) s) n.exclusive
    (same_step setting s i l (with_hearing hearing l) (with_link i (with_hearing hearing l) s) n.exclusive n.held n.here n.live refl refl (quiet_same setting.patience l (range_of l.hearing.rest) n.live over refl) (λ segment. refl)) n.held)
quiet_by setting s i l (Some reason) over n =
    let hearing = after_quiet setting.patience l.hearing in
    let test : is_some hearing.over ≡ true = ap (λ (o : Option Why). is_some o) over in
    let P : Bool → Type 0 = λ c. AreHeld setting (cond c (loses hearing i l s) (with_link i (with_hearing hearing l) s)) in
    subst P (sym test) (loses_held setting s i l hearing reason n over)

pub quiet_sound : (setting : Setting) (i : ℕ) (l : LinkNow) (s : Standing) → slice_get s.links i ≡ Some l → IsSound setting s → IsSound setting (is_quiet setting.patience i l s)
quiet_sound setting i l s is old = record {
  kept = quiet_kept setting i l s is old.kept;
  settled = quiet_settled setting.patience i l s old.settled (old.settled i l is);
  held = chosen setting (is_over l) s (cond (is_some (after_quiet setting.patience l.hearing).over) (loses (after_quiet setting.patience l.hearing) i l s) (with_link i (with_hearing (after_quiet setting.patience l.hearing) l) s)) (λ over. old.held)
      (λ live. quiet_by setting s i l (after_quiet setting.patience l.hearing).over refl (at_link setting s i l is live old));
}

pub lost_sound : (setting : Setting) (i : ℕ) (l : LinkNow) (s : Standing) → slice_get s.links i ≡ Some l → IsSound setting s → IsSound setting (is_lost i l s)
lost_sound setting i l s is old = record {
  kept = lost_kept setting i l s is old.kept;
  settled = lost_settled i l s old.settled (old.settled i l is);
  held = chosen setting (is_over l) s (loses (after_end l.hearing) i l s) (λ over. old.held)
      (λ live. loses_held setting s i l (after_end l.hearing) why.Ended (at_link setting s i l is live old) refl);
}

-- the link of the last receive says nothing of these
pub resting : (setting : Setting) (s : Standing) (last : Option ℕ) → IsSound setting s → IsSound setting (with_last last s)
resting setting s last old = record {
  kept = record { valid = old.kept.valid; exclusive = old.kept.exclusive };
  settled = old.settled;
  held = record { held = old.held.held; holds = old.held.holds; accepted = old.held.accepted; long = old.held.long };
}

moved_sound : (setting : Setting) (s : Standing) (event : LinkEvent) → IsSound setting s → IsSound setting (moved setting s event)
moved_sound setting s (event.Opened n address) old = old
moved_sound setting s (event.Sent n bytes) old = on_each (λ t. IsSound setting t) (sends setting bytes) n s old (λ i l is. sent_sound setting bytes i l s is old)
moved_sound setting s (event.Heard n bytes) old = resting setting (hears bytes n s) (place_from 0 n s.links) (on_bytes (λ t. IsSound setting t) bytes n s old (λ byte i l t is was. byte_sound setting byte i l t is was))
moved_sound setting s (event.Quiet n) old = resting setting (on_number (is_quiet setting.patience) n s) (place_from 0 n s.links) (on_each (λ t. IsSound setting t) (is_quiet setting.patience) n s old (λ i l is. quiet_sound setting i l s is old))
moved_sound setting s (event.Ended n) old = resting setting (on_number is_lost n s) None (on_each (λ t. IsSound setting t) is_lost n s old (λ i l is. lost_sound setting i l s is old))

pub moved_by_sound : (setting : Setting) (s : Standing) (events : List LinkEvent) → IsSound setting s → IsSound setting (moved_by setting s events)
moved_by_sound setting s [] old = old
moved_by_sound setting s (event ∷ events) old = moved_by_sound setting (moved setting s event) events (moved_sound setting s event old)

-- ---- before all events

fresh_rest : (openings : List Opening) (i : ℕ) (l : LinkNow) → slice_get (map fresh_link openings) i ≡ Some l → l.hearing.rest ≡ []
fresh_rest [] i l is = cc
fresh_rest (opening ∷ openings) zero l is = let e : fresh_link opening ≡ l = cc in ap (λ (a : LinkNow). a.hearing.rest) (sym e)
fresh_rest (opening ∷ openings) (suc i) l is = fresh_rest openings i l is

pub start_sound : (setting : Setting) → NoneHeld setting.entries → IsSound setting (before_all setting)
start_sound setting none = record {
  kept = start_kept setting;
  settled = start_settled setting.openings;
  held = record {
    held = λ segment entry there is_held. absurd (none segment entry there is_held);
    holds = λ i segment l range here holds. absurd (no_rest l segment range (fresh_rest setting.openings i l here) holds);
    accepted = λ segment size entry there taken. (let kept : is_kept (slice_get setting.entries segment) ≡ true = ap is_kept there ∙ ap is_accepted_hold taken in rw kept refl);
    long = refl;
  };
}

-- at each moment of each trace
pub always_sound : (setting : Setting) (events : List LinkEvent) → NoneHeld setting.entries → IsSound setting (standing_at setting events)
always_sound setting events none = moved_by_sound setting (before_all setting) events (start_sound setting none)

-- ---- what the assembler's calls ask for

-- at its range moment a segment's entry is free, or taken by none but itself: it is not held, and it hasn't been accepted
pub free_at_claim : (setting : Setting) (s : Standing) (i : ℕ) (l : LinkNow) (segment : ℕ) (entry : Entry) → IsSound setting s → slice_get s.links i ≡ Some l → is_over l ≡ false → IsOldest l segment → range_of l.hearing.rest ≡ None → slice_get s.entries segment ≡ Some entry → entry.hold ≡ Held → ⊥
free_at_claim setting s i l segment entry sound here live oldest none there held =
    let found = same_holder setting s i l segment entry.first entry.last sound.kept.exclusive here live oldest (sound.held.held segment entry there held) in
    let fixed = found.1.0.fixed in
    let no : None ≡ Some found.0 = sym none ∙ fixed in cc
