-- Each event keeps what is true of the ranges that are held.
use Rattle.std.proofs.Common.{◌≡◌, ◌≢◌, ◌+◌, ◌<◌, ◌⊎◌, inl, inr, zero, suc, ℕ, Bool, true, false, not, ◌&&◌, ◌||◌, List, [], ◌∷◌, ◌++◌, Option, Some, None, length, map, refl, ap, sym, subst, ◌∙◌, arith}
use Rattle.std.specs.Prelude.{slice_get, cond, is_some, ◌==◌}
use Rattle.std.proofs.lemmas.Bool.{cases_lt}
use Rattle.std.proofs.lemmas.Bool.Decides.{nat_tests}
use Rattle.nntp_lines.specs.declared.why.Why.{Why}
use Rattle.link_dialog.specs.Replies.{Reply, why_of_rest}
use Rattle.range_assembler.specs.declared.assembler.Entry.{Entry}
use Rattle.range_assembler.specs.declared.assembler.Hold.TheVariants.{Free, Held, Accepted}
use Rattle.range_assembler.specs.declared.assembler.Clash.{Clash}
use Rattle.range_assembler.specs.Entries.{least_clash, kept_size, with_release}
use Rattle.range_assembler.specs.Claims.{file_at, is_held, is_held_entry, is_held_at}
use Rattle.lists.specs.Edit.{edit_at}
use Rattle.pipeline_core.specs.Sound.{IsExclusive}
use Rattle.pipeline_core.proofs.Exclusive.{one_of_all}
use Rattle.fetch_trace.proofs.Lists.{same_or_not}
use Rattle.fetch_trace.specs.Setting.{Setting}
use Rattle.fetch_trace.specs.Hearing.{Hearing, read_as, is_greeted}
use Rattle.fetch_trace.specs.Verdicts.{Range, Verdict, range_of, verdict_of, is_accepted}
use Rattle.fetch_trace.specs.Verdicts.Verdict.{Accepted as HasAccepted, Absent, Refused, Clashes, OtherSize}
use Rattle.fetch_trace.specs.LinkNow.{LinkNow, Asking, link_at, is_over, is_ready, waiting_of, with_hearing, with_asking, some_arrival}
use Rattle.fetch_trace.specs.Standing.{Standing, from_numbers, is_kept, segment_at, pipeline_of, with_link}
use Rattle.fetch_trace.specs.Moving.{given_up, given_up_on, loses, entries_by, judges, answers, claims_by, claims, goes_on, replies_by}
use Rattle.fetch_trace.specs.HeldRanges.{IsOldest, Holds, IsHeldAt, Holder, AreHeld, IsSettled}
use Rattle.fetch_trace.proofs.Lists.{get-seen, first-behind}
use Rattle.fetch_trace.proofs.Answered.{answered, answers-more, arrival-same, arrival-more}
use Rattle.fetch_trace.proofs.HeldSteps.{one_oldest, asked_once, Step, held_step}
use Rattle.fetch_trace.proofs.RangeStays.{range_stays}
use Rattle.fetch_trace.proofs.Settled.{clear_unfixed}

-- ---- entries

pub get_edited : (entries : List Entry) (k : ℕ) (f : Entry → Entry) (entry : Entry) → slice_get (edit_at k f entries) k ≡ Some entry → (was : Entry) × ((slice_get entries k ≡ Some was) × (f was ≡ entry))
get_edited [] k f entry is = cc
get_edited (e ∷ entries) zero f entry is = (e, (refl, (let same : f e ≡ entry = cc in same)))
get_edited (e ∷ entries) (suc k) f entry is = get_edited entries k f entry is

pub edited_there : (entries : List Entry) (k : ℕ) (f : Entry → Entry) (entry : Entry) → slice_get entries k ≡ Some entry → slice_get (edit_at k f entries) k ≡ Some (f entry)
edited_there [] k f entry is = cc
edited_there (e ∷ entries) zero f entry is = let same : e ≡ entry = cc in ap (λ x. Some (f x)) same
edited_there (e ∷ entries) (suc k) f entry is = edited_there entries k f entry is

pub edited_other : (entries : List Entry) (k j : ℕ) (f : Entry → Entry) → j ≢ k → slice_get (edit_at k f entries) j ≡ slice_get entries j
edited_other [] k j f other = refl
edited_other (e ∷ entries) zero zero f other = absurd (other refl)
edited_other (e ∷ entries) zero (suc j) f other = refl
edited_other (e ∷ entries) (suc k) zero f other = refl
edited_other (e ∷ entries) (suc k) (suc j) f other = edited_other entries k j f (λ same. other (ap (λ n. suc n) same))

pub edited_long : (entries : List Entry) (k : ℕ) (f : Entry → Entry) → length (edit_at k f entries) ≡ length entries
edited_long [] k f = refl
edited_long (e ∷ entries) zero f = refl
edited_long (e ∷ entries) (suc k) f = ap (λ n. suc n) (edited_long entries k f)

pub there_below : (entries : List Entry) (k : ℕ) → k < length entries → (entry : Entry) × (slice_get entries k ≡ Some entry)
there_below [] k below = absurd (omega (arith, below))
there_below (e ∷ entries) zero below = (e, refl)
there_below (e ∷ entries) (suc k) below = there_below entries k (omega (arith, below))

-- what giving up a range leaves
pub record GivenUp (entries after : List Entry) (k : ℕ) : Type 0 where
  pub others : (j : ℕ) → j ≢ k → slice_get after j ≡ slice_get entries j
  pub not_held : (entry : Entry) → slice_get after k ≡ Some entry → entry.hold ≡ Held → ⊥
  pub accepted : (entry : Entry) (size : ℕ) → slice_get after k ≡ Some entry → entry.hold ≡ Accepted size → slice_get entries k ≡ Some entry
  pub long : length after ≡ length entries

freed : Entry → Entry
freed entry = record { file = entry.file; hold = Free; first = entry.first; last = entry.last }

given_up_by : (entries : List Entry) (k : ℕ) (b : Bool) → is_held_at entries k ≡ b → GivenUp entries (cond b (with_release k entries) entries) k
given_up_by entries k true is = record {
  others = λ j other. edited_other entries k j (λ entry. record { file = entry.file; hold = Free; first = entry.first; last = entry.last }) other;
  not_held = λ entry there held. (let was = get_edited entries k (λ e. record { file = e.file; hold = Free; first = e.first; last = e.last }) entry there in
      let free : Free ≡ entry.hold = ap (λ (e : Entry). e.hold) was.1.1 in let no : Free ≡ Held = free ∙ held in cc);
  accepted = λ entry size there taken. (let was = get_edited entries k (λ e. record { file = e.file; hold = Free; first = e.first; last = e.last }) entry there in
      let free : Free ≡ entry.hold = ap (λ (e : Entry). e.hold) was.1.1 in let no : Free ≡ Accepted size = free ∙ taken in cc);
  long = edited_long entries k (λ entry. record { file = entry.file; hold = Free; first = entry.first; last = entry.last });
}
given_up_by entries k false is = record {
  others = λ j other. refl;
  not_held = λ entry there held. (let test : is_held_at entries k ≡ true = ap is_held_entry there ∙ ap is_held held in let no : true ≡ false = sym test ∙ is in cc);
  accepted = λ entry size there taken. there;
  long = refl;
}

pub gives_up : (entries : List Entry) (k : ℕ) → GivenUp entries (given_up k entries) k
gives_up entries k = given_up_by entries k (is_held_at entries k) refl

-- ---- arrivals

kept_or : (kept : Bool) (a b : Bool) → (a ≡ true → b ≡ true) → (kept || a) ≡ true → (kept || b) ≡ true
kept_or true a b on is = refl
kept_or false a b on is = on is

or_more : (a b : Bool) → a ≡ true → (a || b) ≡ true
or_more true b is = refl
or_more false b is = cc

or_right : (kept a b : Bool) → b ≡ true → (kept || (a || b)) ≡ true
or_right true a b is = refl
or_right false true b is = refl
or_right false false b is = is

-- where no answer comes, what has arrived stays so
arrived_same : (setting : Setting) (links : List LinkNow) (i : ℕ) (l now : LinkNow) (segment : ℕ) → slice_get links i ≡ Some l → answered is_accepted segment now ≡ answered is_accepted segment l → (segment_at setting links segment).arrived ≡ true → (segment_at setting (edit_at i (λ old. now) links) segment).arrived ≡ true
arrived_same setting links i l now segment is same old =
    kept_or (is_kept (slice_get setting.entries segment)) (some_arrival segment links) (some_arrival segment (edit_at i (λ old. now) links)) (λ e. arrival-same segment links i l now is same ∙ e) old

-- ---- a step that leaves the entries

pub record SameHolds (l now : LinkNow) : Type 0 where
  pub on : (segment : ℕ) (range : Range) → Holds l segment range → Holds now segment range
  pub back : (segment : ℕ) (range : Range) → Holds now segment range → Holds l segment range

-- the one that holds an entry is the link of which the segment is the oldest
pub same_holder : (setting : Setting) (s : Standing) (i : ℕ) (l : LinkNow) (segment first last : ℕ) → IsExclusive (pipeline_of setting s.links).links (pipeline_of setting s.links).segments → slice_get s.links i ≡ Some l → is_over l ≡ false → IsOldest l segment → Holder s.links segment first last → (range : Range) × (Holds l segment range × ((first ≡ range.first) × (last ≡ range.last)))
same_holder setting s i l segment first last exclusive here live oldest holder = elim (same_or_not i holder.i) [
  | inl e ↦ (let both : Some holder.l ≡ Some l = sym holder.here ∙ ap (λ n. slice_get s.links n) (sym e) ∙ here in
      let same : holder.l ≡ l = cc in
      (holder.range, (subst (λ (a : LinkNow). Holds a segment holder.range) same holder.holds, (holder.first_is, holder.last_is))))
  | inr apart ↦ absurd (one_oldest setting s.links i holder.i segment l holder.l exclusive apart here holder.here live holder.holds.live oldest holder.holds.oldest)
]

pub same_step : (setting : Setting) (s : Standing) (i : ℕ) (l now : LinkNow) (after : Standing) → IsExclusive (pipeline_of setting s.links).links (pipeline_of setting s.links).segments → AreHeld setting s → slice_get s.links i ≡ Some l → is_over l ≡ false → after.links ≡ edit_at i (λ old. now) s.links → after.entries ≡ s.entries → SameHolds l now → ((segment : ℕ) → answered is_accepted segment now ≡ answered is_accepted segment l) → Step setting s i l now after
same_step setting s i l now after exclusive old here live links entries same answers_same =
    let stays : (segment : ℕ) → (segment_at setting s.links segment).arrived ≡ true → (segment_at setting after.links segment).arrived ≡ true = λ segment arrived.
    (let P : List LinkNow → Type 0 = λ ls. (segment_at setting ls segment).arrived ≡ true in subst P (sym links) (arrived_same setting s.links i l now segment here (answers_same segment) arrived)) in
    record {
      here = here;
      live = live;
      links = links;
      apart = λ segment not_here. ap (λ (es : List Entry). slice_get es segment) entries;
      held_here = λ segment entry oldest there is_held. (let was : slice_get s.entries segment ≡ Some entry = ap (λ (es : List Entry). slice_get es segment) (sym entries) ∙ there in
          let found = same_holder setting s i l segment entry.first entry.last exclusive here live oldest (old.held segment entry was is_held) in
          (found.0, (same.on segment found.0 found.1.0, found.1.1)));
      holds_here = λ segment range holds. (let P : List Entry → Type 0 = λ es. IsHeldAt es segment range in subst P (sym entries) (old.holds i segment l range here (same.back segment range holds)));
      accepted_here = λ segment size entry oldest there taken. stays segment (old.accepted segment size entry (ap (λ (es : List Entry). slice_get es segment) (sym entries) ∙ there) taken);
      arrived_stays = stays;
      long = ap (λ (es : List Entry). length es) entries;
    }

-- ---- the link is over

nowhere : (segment : ℕ) (range : Range) (now : LinkNow) → is_over now ≡ true → Holds now segment range → ⊥
nowhere segment range now over holds = (let live = holds.live in let no : true ≡ false = sym over ∙ live in cc)

over_by : (setting : Setting) (s : Standing) (i : ℕ) (l now : LinkNow) (waiting : List ℕ) → AreHeld setting s → slice_get s.links i ≡ Some l → is_over l ≡ false → waiting_of l.asking ≡ waiting → is_over now ≡ true → ((segment : ℕ) → answered is_accepted segment now ≡ answered is_accepted segment l) → Step setting s i l now (record { links = edit_at i (λ old. now) s.links; entries = given_up_on waiting s.entries; ends = s.ends; last = s.last })
over_by setting s i l now [] old here live none over same = record {
  here = here;
  live = live;
  links = refl;
  apart = λ segment not_here. refl;
  held_here = λ segment entry oldest there is_held. (let no : [] ≡ segment ∷ oldest.0 = sym none ∙ oldest.1 in cc);
  holds_here = λ segment range holds. absurd (nowhere segment range now over holds);
  accepted_here = λ segment size entry oldest there taken. (let no : [] ≡ segment ∷ oldest.0 = sym none ∙ oldest.1 in cc);
  arrived_stays = λ segment arrived. arrived_same setting s.links i l now segment here (same segment) arrived;
  long = refl;
}
over_by setting s i l now (k ∷ waiting) old here live is over same =
    let up = gives_up s.entries k in
    let oldest_is : (segment : ℕ) → IsOldest l segment → segment ≡ k = λ segment oldest. (let e : k ∷ waiting ≡ segment ∷ oldest.0 = sym is ∙ oldest.1 in cc) in
    record {
      here = here;
      live = live;
      links = refl;
      apart = λ segment not_here. up.others segment (λ e. not_here (waiting, is ∙ ap (λ n. n ∷ waiting) (sym e)));
      held_here = λ segment entry oldest there is_held. absurd (up.not_held entry (ap (λ n. slice_get (given_up k s.entries) n) (sym (oldest_is segment oldest)) ∙ there) is_held);
      holds_here = λ segment range holds. absurd (nowhere segment range now over holds);
      accepted_here = λ segment size entry oldest there taken. (let at : slice_get (given_up k s.entries) k ≡ Some entry = ap (λ n. slice_get (given_up k s.entries) n) (sym (oldest_is segment oldest)) ∙ there in
          let was : slice_get s.entries segment ≡ Some entry = ap (λ n. slice_get s.entries n) (oldest_is segment oldest) ∙ up.accepted entry size at taken in
          arrived_same setting s.links i l now segment here (same segment) (old.accepted segment size entry was taken));
      arrived_stays = λ segment arrived. arrived_same setting s.links i l now segment here (same segment) arrived;
      long = up.long;
    }

pub loses_step : (setting : Setting) (s : Standing) (i : ℕ) (l : LinkNow) (hearing : Hearing) (reason : Why) → AreHeld setting s → slice_get s.links i ≡ Some l → is_over l ≡ false → hearing.over ≡ Some reason → Step setting s i l (with_hearing hearing l) (loses hearing i l s)
loses_step setting s i l hearing reason old here live over =
    over_by setting s i l (with_hearing hearing l) (waiting_of l.asking) old here live refl (rw over refl) (λ segment. refl)

-- ---- a range is claimed

from_long : {A : Type 0} (f : ℕ → A) (start count : ℕ) → length (from_numbers f start count) ≡ count
from_long f start zero = refl
from_long f start (suc count) = ap (λ n. suc n) (from_long f (start + 1) count)

-- a segment that is outstanding exists
pub exists : (setting : Setting) (s : Standing) (i : ℕ) (l : LinkNow) (segment : ℕ) → IsExclusive (pipeline_of setting s.links).links (pipeline_of setting s.links).segments → AreHeld setting s → slice_get s.links i ≡ Some l → is_over l ≡ false → IsOldest l segment → segment < length s.entries
exists setting s i l segment exclusive old here live oldest = elim (cases_lt segment (length s.entries)) [
  | inl below ↦ below
  | inr past ↦ (let long = old.long in
      let many : length (pipeline_of setting s.links).segments ≡ length setting.entries = from_long (segment_at setting s.links) 0 (length setting.entries) in
      let none = exclusive.within segment (omega (arith, past, long, many)) in
      let once = asked_once l segment live oldest in
      let all = one_of_all (map link_at s.links) i segment (link_at l) (get-seen link_at s.links i l here) in
      absurd (omega (arith, none, once, all)))
]

pub claim_step : (setting : Setting) (s : Standing) (i : ℕ) (l : LinkNow) (hearing : Hearing) (k : ℕ) (waiting : List ℕ) (range : Range) → IsExclusive (pipeline_of setting s.links).links (pipeline_of setting s.links).segments → AreHeld setting s → slice_get s.links i ≡ Some l → is_over l ≡ false → waiting_of l.asking ≡ k ∷ waiting → is_over (with_hearing hearing l) ≡ false → is_ready (with_hearing hearing l) ≡ true → range_of hearing.rest ≡ Some range → l.asking.against ≡ None → Step setting s i l (with_hearing hearing l) (claims_by hearing k range None i l s)
claim_step setting s i l hearing k waiting range exclusive old here live is still ready fixed clear =
    let oldest_is : (segment : ℕ) → IsOldest l segment → segment ≡ k = λ segment oldest. (let e : k ∷ waiting ≡ segment ∷ oldest.0 = sym is ∙ oldest.1 in cc) in
    let claimed : Entry → Entry = λ entry. record { file = entry.file; hold = Held; first = range.first; last = range.last } in
    let there = there_below s.entries k (exists setting s i l k exclusive old here live (waiting, is)) in
    let now : Holds (with_hearing hearing l) k range = record { live = still; ready = ready; oldest = (waiting, is); fixed = fixed; clear = clear } in
    record {
      here = here;
      live = live;
      links = refl;
      apart = λ segment not_here. edited_other s.entries k segment claimed (λ e. not_here (waiting, is ∙ ap (λ n. n ∷ waiting) (sym e)));
      held_here = λ segment entry oldest at is_held. (let was = get_edited s.entries k claimed entry (ap (λ n. slice_get (edit_at k claimed s.entries) n) (sym (oldest_is segment oldest)) ∙ at) in
          let first : range.first ≡ entry.first = ap (λ (e : Entry). e.first) was.1.1 in
          let last : range.last ≡ entry.last = ap (λ (e : Entry). e.last) was.1.1 in
          (range, (subst (λ n. Holds (with_hearing hearing l) n range) (sym (oldest_is segment oldest)) now, (sym first, sym last))));
      holds_here = λ segment other holds. (let here_is : segment ≡ k = oldest_is segment holds.oldest in
          let both : Some other ≡ Some range = sym holds.fixed ∙ fixed in
          let same : other ≡ range = cc in
          let at : slice_get (edit_at k claimed s.entries) segment ≡ Some (claimed there.0) = ap (λ n. slice_get (edit_at k claimed s.entries) n) here_is ∙ edited_there s.entries k claimed there.0 there.1 in
          record { entry = claimed there.0; there = at; held = refl; first = ap (λ (r : Range). r.first) (sym same); last = ap (λ (r : Range). r.last) (sym same) });
      accepted_here = λ segment size entry oldest at taken. (let was = get_edited s.entries k claimed entry (ap (λ n. slice_get (edit_at k claimed s.entries) n) (sym (oldest_is segment oldest)) ∙ at) in
          let held : Held ≡ entry.hold = ap (λ (e : Entry). e.hold) was.1.1 in let no : Held ≡ Accepted size = held ∙ taken in cc);
      arrived_stays = λ segment arrived. arrived_same setting s.links i l (with_hearing hearing l) segment here refl arrived;
      long = edited_long s.entries k claimed;
    }

-- ---- an answer

-- what the verdict of an answer leaves of the entries
pub record Judged (entries after : List Entry) (k : ℕ) (verdict : Verdict) : Type 0 where
  pub others : (j : ℕ) → j ≢ k → slice_get after j ≡ slice_get entries j
  pub not_held : (entry : Entry) → slice_get after k ≡ Some entry → entry.hold ≡ Held → ⊥
  pub accepted : (entry : Entry) (size : ℕ) → slice_get after k ≡ Some entry → entry.hold ≡ Accepted size → (is_accepted verdict ≡ true) ⊎ (slice_get entries k ≡ Some entry)
  pub long : length after ≡ length entries

judged_up : (entries : List Entry) (k : ℕ) (verdict : Verdict) → Judged entries (given_up k entries) k verdict
judged_up entries k verdict = let up = gives_up entries k in
    record { others = up.others; not_held = up.not_held; accepted = λ entry size there taken. inr (up.accepted entry size there taken); long = up.long }

pub judged_by : (entries : List Entry) (k : ℕ) (verdict : Verdict) → Judged entries (entries_by k verdict entries) k verdict
judged_by entries k (HasAccepted part whole) =
    let f : Entry → Entry = λ e. record { file = e.file; hold = Accepted part.begin.size; first = e.first; last = e.last } in
    record {
      others = λ j other. edited_other entries k j f other;
      not_held = λ entry there held. (let was = get_edited entries k f entry there in
          let taken : Accepted part.begin.size ≡ entry.hold = ap (λ (e : Entry). e.hold) was.1.1 in let no : Accepted part.begin.size ≡ Held = taken ∙ held in cc);
      accepted = λ entry size there taken. inl refl;
      long = edited_long entries k f;
    }
judged_by entries k (Absent code) = judged_up entries k (Absent code)
judged_by entries k (Refused fault) = judged_up entries k (Refused fault)
judged_by entries k (Clashes clash) = judged_up entries k (Clashes clash)
judged_by entries k (OtherSize kept) = judged_up entries k (OtherSize kept)

-- nothing is held where nothing was heard
pub no_rest : (now : LinkNow) (segment : ℕ) (range : Range) → now.hearing.rest ≡ [] → Holds now segment range → ⊥
no_rest now segment range none holds = (let fixed = holds.fixed in let no : None ≡ Some range = ap range_of (sym none) ∙ fixed in cc)

judge_step : (setting : Setting) (s : Standing) (i : ℕ) (l : LinkNow) (hearing : Hearing) (k : ℕ) (waiting : List ℕ) (verdict : Verdict) → AreHeld setting s → slice_get s.links i ≡ Some l → is_over l ≡ false → waiting_of l.asking ≡ k ∷ waiting → hearing.rest ≡ [] → Step setting s i l (with_asking hearing (record { commands = l.asking.commands; verdicts = l.asking.verdicts ++ verdict ∷ []; against = None }) l) (judges hearing k verdict i l s)
judge_step setting s i l hearing k waiting verdict old here live is none =
    let now = with_asking hearing (record { commands = l.asking.commands; verdicts = l.asking.verdicts ++ verdict ∷ []; against = None }) l in
    let judged = judged_by s.entries k verdict in
    let oldest_is : (segment : ℕ) → IsOldest l segment → segment ≡ k = λ segment oldest. (let e : k ∷ waiting ≡ segment ∷ oldest.0 = sym is ∙ oldest.1 in cc) in
    let at_k : slice_get l.asking.commands (length l.asking.verdicts) ≡ Some k = first-behind (length l.asking.verdicts) l.asking.commands k waiting is in
    let grows : (segment : ℕ) → some_arrival segment (edit_at i (λ old. now) s.links) ≡ (some_arrival segment s.links || ((k == segment) && is_accepted verdict)) = λ segment.
    arrival-more segment s.links i l now ((k == segment) && is_accepted verdict) here (answers-more is_accepted segment k verdict l.asking.commands l.asking.verdicts at_k) in
    let stays : (segment : ℕ) → (segment_at setting s.links segment).arrived ≡ true → (segment_at setting (edit_at i (λ old. now) s.links) segment).arrived ≡ true = λ segment arrived.
    kept_or (is_kept (slice_get setting.entries segment)) (some_arrival segment s.links) (some_arrival segment (edit_at i (λ old. now) s.links)) (λ e. grows segment ∙ or_more (some_arrival segment s.links) ((k == segment) && is_accepted verdict) e) arrived in
    record {
      here = here;
      live = live;
      links = refl;
      apart = λ segment not_here. judged.others segment (λ e. not_here (waiting, is ∙ ap (λ n. n ∷ waiting) (sym e)));
      held_here = λ segment entry oldest there is_held. absurd (judged.not_held entry (ap (λ n. slice_get (entries_by k verdict s.entries) n) (sym (oldest_is segment oldest)) ∙ there) is_held);
      holds_here = λ segment range holds. absurd (no_rest now segment range none holds);
      accepted_here = λ segment size entry oldest there taken. (let at : slice_get (entries_by k verdict s.entries) k ≡ Some entry = ap (λ n. slice_get (entries_by k verdict s.entries) n) (sym (oldest_is segment oldest)) ∙ there in
          elim (judged.accepted entry size at taken) [
            | inl accepted ↦ (let own : (k == segment) ≡ true = (let e : segment ≡ k = oldest_is segment oldest in grind (arith, nat_tests)) in
                let more : ((k == segment) && is_accepted verdict) ≡ true = rw (own, accepted) refl in
                ap (λ b. is_kept (slice_get setting.entries segment) || b) (grows segment) ∙ or_right (is_kept (slice_get setting.entries segment)) (some_arrival segment s.links) ((k == segment) && is_accepted verdict) more)
            | inr was ↦ stays segment (old.accepted segment size entry (ap (λ n. slice_get s.entries n) (oldest_is segment oldest) ∙ was) taken)
          ]);
      arrived_stays = stays;
      long = judged.long;
    }

-- ---- steps after which the same is held

right_false : (a b : Bool) → (a || b) ≡ false → b ≡ false
right_false true b is = cc
right_false false b is = is

pub still_live : (l : LinkNow) (hearing : Hearing) (asking : Asking) → is_over l ≡ false → hearing.over ≡ None → is_over (with_asking hearing asking l) ≡ false
still_live l hearing asking live over = rw over (right_false (is_some l.hearing.over) (not (is_some l.opening.number)) live)

not_ready_same : (l : LinkNow) (hearing : Hearing) → is_ready l ≡ false → (is_ready (with_hearing hearing l) ≡ true → hearing.rest ≡ []) → SameHolds l (with_hearing hearing l)
not_ready_same l hearing unready rest = record {
  on = λ segment range holds. (let ready = holds.ready in let no : true ≡ false = sym ready ∙ unready in cc);
  back = λ segment range holds. absurd (no_rest (with_hearing hearing l) segment range (rest holds.ready) holds);
}

unasked_same : (l : LinkNow) (hearing : Hearing) → waiting_of l.asking ≡ [] → SameHolds l (with_hearing hearing l)
unasked_same l hearing none = record {
  on = λ segment range holds. (let oldest = holds.oldest in let no : [] ≡ segment ∷ oldest.0 = sym none ∙ oldest.1 in cc);
  back = λ segment range holds. (let oldest = holds.oldest in let no : [] ≡ segment ∷ oldest.0 = sym none ∙ oldest.1 in cc);
}

pub unfixed_same : (l : LinkNow) (hearing : Hearing) → range_of l.hearing.rest ≡ None → range_of hearing.rest ≡ None → SameHolds l (with_hearing hearing l)
unfixed_same l hearing before after = record {
  on = λ segment range holds. (let fixed = holds.fixed in let no : None ≡ Some range = sym before ∙ fixed in cc);
  back = λ segment range holds. (let fixed = holds.fixed in let no : None ≡ Some range = sym after ∙ fixed in cc);
}

pub fixed_same : (l : LinkNow) (hearing : Hearing) (more : List ℕ) (known : Range) → is_over l ≡ false → hearing.over ≡ None → hearing.replies ≡ l.hearing.replies → hearing.rest ≡ l.hearing.rest ++ more → range_of l.hearing.rest ≡ Some known → SameHolds l (with_hearing hearing l)
fixed_same l hearing more known live over replies rest before =
    let after : range_of hearing.rest ≡ Some known = ap range_of rest ∙ range_stays l.hearing.rest more known before in
    let ready : is_ready (with_hearing hearing l) ≡ is_ready l = ap (λ rs. is_greeted l.opening.login rs) replies in
    record {
      on = λ segment range holds. (let both : Some range ≡ Some known = sym holds.fixed ∙ before in let same : range ≡ known = cc in
          record { live = still_live l hearing l.asking live over; ready = ready ∙ holds.ready; oldest = holds.oldest; fixed = after ∙ ap (λ (r : Range). Some r) (sym same); clear = holds.clear });
      back = λ segment range holds. (let both : Some range ≡ Some known = sym holds.fixed ∙ after in let same : range ≡ known = cc in
          record { live = live; ready = sym ready ∙ holds.ready; oldest = holds.oldest; fixed = before ∙ ap (λ (r : Range). Some r) (sym same); clear = holds.clear });
    }

clash_same : (l : LinkNow) (hearing : Hearing) (clash : Clash) → range_of l.hearing.rest ≡ None → SameHolds l (with_asking hearing (record { commands = l.asking.commands; verdicts = l.asking.verdicts; against = Some clash }) l)
clash_same l hearing clash before = record {
  on = λ segment range holds. (let fixed = holds.fixed in let no : None ≡ Some range = sym before ∙ fixed in cc);
  back = λ segment range holds. (let clear = holds.clear in let no : Some clash ≡ None = clear in cc);
}

-- ---- a byte

pub record Now (setting : Setting) (s : Standing) (i : ℕ) (l : LinkNow) : Type 0 where
  pub here : slice_get s.links i ≡ Some l
  pub live : is_over l ≡ false
  pub exclusive : IsExclusive (pipeline_of setting s.links).links (pipeline_of setting s.links).segments
  pub held : AreHeld setting s
  pub settled : IsSettled l

by_same : (setting : Setting) (s : Standing) (i : ℕ) (l : LinkNow) (hearing : Hearing) (asking : Asking) (after : Standing) → Now setting s i l → after.links ≡ edit_at i (λ old. with_asking hearing asking l) s.links → after.entries ≡ s.entries → asking.commands ≡ l.asking.commands → asking.verdicts ≡ l.asking.verdicts → SameHolds l (with_asking hearing asking l) → AreHeld setting after
by_same setting s i l hearing asking after n links entries commands verdicts same =
    held_step setting s i l (with_asking hearing asking l) after n.exclusive
    (same_step setting s i l (with_asking hearing asking l) after n.exclusive n.held n.here n.live links entries same (λ segment. rw (commands, verdicts) refl)) n.held

claims_by_held : (setting : Setting) (s : Standing) (i : ℕ) (l : LinkNow) (hearing : Hearing) (k : ℕ) (waiting : List ℕ) (range : Range) (clash : Option Clash) → Now setting s i l → hearing.over ≡ None → is_ready (with_hearing hearing l) ≡ true → range_of l.hearing.rest ≡ None → range_of hearing.rest ≡ Some range → waiting_of l.asking ≡ k ∷ waiting → AreHeld setting (claims_by hearing k range clash i l s)
claims_by_held setting s i l hearing k waiting range None n over ready before fixed oldest =
    held_step setting s i l (with_hearing hearing l) (claims_by hearing k range None i l s) n.exclusive
    (claim_step setting s i l hearing k waiting range n.exclusive n.held n.here n.live oldest (still_live l hearing l.asking n.live over) ready fixed (clear_unfixed l before n.settled)) n.held
claims_by_held setting s i l hearing k waiting range (Some clash) n over ready before fixed oldest =
    by_same setting s i l hearing (record { commands = l.asking.commands; verdicts = l.asking.verdicts; against = Some clash }) (claims_by hearing k range (Some clash) i l s) n refl refl refl refl (clash_same l hearing clash before)

claims_held : (setting : Setting) (s : Standing) (i : ℕ) (l : LinkNow) (hearing : Hearing) (more : List ℕ) (before now : Option Range) (waiting : List ℕ) → Now setting s i l → hearing.over ≡ None → hearing.replies ≡ l.hearing.replies → hearing.rest ≡ l.hearing.rest ++ more → is_ready l ≡ true → range_of l.hearing.rest ≡ before → range_of hearing.rest ≡ now → waiting_of l.asking ≡ waiting → AreHeld setting (claims hearing before now waiting i l s)
claims_held setting s i l hearing more None (Some range) (k ∷ waiting) n over replies rest ready was is oldest =
    claims_by_held setting s i l hearing k waiting range (least_clash 0 (file_at s.entries k) range.first range.last s.entries) n over (ap (λ rs. is_greeted l.opening.login rs) replies ∙ ready) was is oldest
claims_held setting s i l hearing more None (Some range) [] n over replies rest ready was is oldest = by_same setting s i l hearing l.asking (with_link i (with_hearing hearing l) s) n refl refl refl refl (unasked_same l hearing oldest)
claims_held setting s i l hearing more None None waiting n over replies rest ready was is oldest = by_same setting s i l hearing l.asking (with_link i (with_hearing hearing l) s) n refl refl refl refl (unfixed_same l hearing was is)
claims_held setting s i l hearing more (Some range) now waiting n over replies rest ready was is oldest =
    by_same setting s i l hearing l.asking (with_link i (with_hearing hearing l) s) n refl refl refl refl (fixed_same l hearing more range n.live over replies rest was)

goes_on_held : (setting : Setting) (s : Standing) (i : ℕ) (l : LinkNow) (hearing : Hearing) (more : List ℕ) (b : Bool) → Now setting s i l → hearing.over ≡ None → hearing.replies ≡ l.hearing.replies → hearing.rest ≡ l.hearing.rest ++ more → is_ready l ≡ b → AreHeld setting (goes_on hearing b i l s)
goes_on_held setting s i l hearing more true n over replies rest ready = claims_held setting s i l hearing more (range_of l.hearing.rest) (range_of hearing.rest) (waiting_of l.asking) n over replies rest ready refl refl refl
goes_on_held setting s i l hearing more false n over replies rest unready =
    by_same setting s i l hearing l.asking (with_link i (with_hearing hearing l) s) n refl refl refl refl
    (not_ready_same l hearing unready (λ ready. (let no : true ≡ false = sym ready ∙ ap (λ rs. is_greeted l.opening.login rs) replies ∙ unready in cc)))

pub loses_held : (setting : Setting) (s : Standing) (i : ℕ) (l : LinkNow) (hearing : Hearing) (reason : Why) → Now setting s i l → hearing.over ≡ Some reason → AreHeld setting (loses hearing i l s)
loses_held setting s i l hearing reason n over =
    held_step setting s i l (with_hearing hearing l) (loses hearing i l s) n.exclusive (loses_step setting s i l hearing reason n.held n.here n.live over) n.held

none_held_by : (setting : Setting) (s : Standing) (i : ℕ) (l : LinkNow) (hearing : Hearing) (more : List ℕ) (b : Bool) (o : Option Why) → Now setting s i l → hearing.over ≡ o → hearing.replies ≡ l.hearing.replies → hearing.rest ≡ l.hearing.rest ++ more → is_ready l ≡ b → AreHeld setting (cond (is_some hearing.over) (loses hearing i l s) (goes_on hearing b i l s))
none_held_by setting s i l hearing more b None n over replies rest ready =
    let test : is_some hearing.over ≡ false = ap (λ (o : Option Why). is_some o) over in
    let P : Bool → Type 0 = λ c. AreHeld setting (cond c (loses hearing i l s) (goes_on hearing b i l s)) in
    subst P (sym test) (goes_on_held setting s i l hearing more b n over replies rest ready)
none_held_by setting s i l hearing more b (Some reason) n over replies rest ready =
    let test : is_some hearing.over ≡ true = ap (λ (o : Option Why). is_some o) over in
    let P : Bool → Type 0 = λ c. AreHeld setting (cond c (loses hearing i l s) (goes_on hearing b i l s)) in
    subst P (sym test) (loses_held setting s i l hearing reason n over)

answers_held : (setting : Setting) (s : Standing) (i : ℕ) (l : LinkNow) (hearing : Hearing) (reply : Reply) (waiting : List ℕ) → Now setting s i l → hearing.rest ≡ [] → waiting_of l.asking ≡ waiting → AreHeld setting (answers hearing reply waiting i l s)
answers_held setting s i l hearing reply [] n rest none = by_same setting s i l hearing l.asking (with_link i (with_hearing hearing l) s) n refl refl refl refl (unasked_same l hearing none)
answers_held setting s i l hearing reply (k ∷ waiting) n rest oldest =
    let verdict = verdict_of l.asking.against (kept_size (file_at s.entries k) s.entries) reply in
    held_step setting s i l (with_asking hearing (record { commands = l.asking.commands; verdicts = l.asking.verdicts ++ verdict ∷ []; against = None }) l) (judges hearing k verdict i l s) n.exclusive
    (judge_step setting s i l hearing k waiting verdict n.held n.here n.live oldest rest) n.held

pub reads_held : (setting : Setting) (s : Standing) (i : ℕ) (l : LinkNow) (byte : ℕ) (whole : Option Reply) (b : Bool) → Now setting s i l → is_ready l ≡ b → AreHeld setting (replies_by (read_as whole (l.hearing.rest ++ byte ∷ []) l.hearing) whole b i l s)
reads_held setting s i l byte (Some reply) true n ready = answers_held setting s i l (read_as (Some reply) (l.hearing.rest ++ byte ∷ []) l.hearing) reply (waiting_of l.asking) n refl refl
reads_held setting s i l byte (Some reply) false n unready =
    let hearing = read_as (Some reply) (l.hearing.rest ++ byte ∷ []) l.hearing in
    by_same setting s i l hearing l.asking (with_link i (with_hearing hearing l) s) n refl refl refl refl (not_ready_same l hearing unready (λ ready. refl))
reads_held setting s i l byte None b n ready =
    let hearing = read_as None (l.hearing.rest ++ byte ∷ []) l.hearing in
    none_held_by setting s i l hearing (byte ∷ []) b (why_of_rest l.hearing.waiting (l.hearing.rest ++ byte ∷ [])) n refl refl refl ready
