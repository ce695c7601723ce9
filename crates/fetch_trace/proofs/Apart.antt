-- What happens on one link leaves the others, the segments and the ranges as they are.
use Rattle.std.proofs.Common.{◌≡◌, ◌≢◌, ◌≤◌, ◌+◌, ℕ, Bool, true, false, List, [], ◌∷◌, ◌++◌, Option, Some, None, drop, length, zero, suc, refl, ap, sym, subst, ◌∙◌, arith}
use Rattle.std.specs.Prelude.{slice_get, cond, is_some}
use Rattle.lists.specs.Edit.{edit_at}
use Rattle.io_traits.specs.declared.links.LinkEvent.{LinkEvent}
use Rattle.io_traits.specs.declared.links.LinkEvent.TheVariants as event
use Rattle.io_traits.specs.Trace.{link_of}
use Rattle.pipeline_core.specs.Links.{times}
use Rattle.pipeline_core.specs.PipelineAt.{Pipeline}
use Rattle.pipeline_core.proofs.Calls.{one_time}
use Rattle.pipeline_core.proofs.Exclusive.{times-append}
use Rattle.pipeline_core.proofs.Full.{get-edit_other}
use Rattle.range_assembler.specs.declared.assembler.Clash.{Clash}
use Rattle.range_assembler.specs.declared.assembler.Hold.TheVariants.{Held}
use Rattle.range_assembler.specs.Claims.{file_at}
use Rattle.range_assembler.specs.Entries.{kept_size, least_clash}
use Rattle.fetch_trace.specs.Setting.{Setting}
use Rattle.fetch_trace.specs.Hearing.{Hearing, after_byte, after_quiet, after_end, whole_by}
use Rattle.fetch_trace.specs.Verdicts.{Range, verdict_of}
use Rattle.fetch_trace.specs.LinkNow.{LinkNow, is_over, is_ready, waiting_of, with_hearing}
use Rattle.fetch_trace.specs.Standing.{Standing, pipeline_of, with_link, place_from, by_link, by_place, on_number}
use Rattle.fetch_trace.specs.Moving.{given_up_on, claims_by, loses, replies_by, says, sends, hears_byte, is_quiet, is_lost, hears, with_last, moved, standing_at}
use Rattle.fetch_trace.specs.OneLink.{Keeps, LeavesOthers, OneLinkMoves, OneEventLeavesOthers}
use Rattle.fetch_trace.proofs.Lists.{edit-nothing}
use Rattle.fetch_trace.proofs.HeldMoves.{edited_other, gives_up, judged_by}
use Rattle.fetch_trace.proofs.HeldSteps.{get_now}
use Rattle.fetch_trace.proofs.Sending.{place-kept}
use Rattle.fetch_trace.proofs.Standings.{IsKept, always_kept, byte_kept, byte_keeps, sent_keeps, quiet_keeps, lost_keeps}
use Rattle.fetch_trace.proofs.Cases.{Cases, byte_cases, quiet_cases, lost_cases, sent_cases}
use Rattle.fetch_trace.proofs.HeardSteps.{replies_becomes, as_heard, loses_becomes, either}
use Rattle.fetch_trace.proofs.HeardTrace.{one_some, says_opening}

-- ---- the link of an event

pub at_number : (P : Standing → Type 0) (f : ℕ → LinkNow → Standing → Standing) (n : ℕ) (s : Standing) → P s → ((i : ℕ) (l : LinkNow) → place_from 0 n s.links ≡ Some i → slice_get s.links i ≡ Some l → P (f i l s)) → P (on_number f n s)
at_number P f n s same each = by_number (place_from 0 n s.links) refl
  where
    by_here : (i : ℕ) (o : Option LinkNow) → place_from 0 n s.links ≡ Some i → slice_get s.links i ≡ o → P (by_link f i o s)
    by_here i None place here = same
    by_here i (Some l) place here = each i l place here

    by_number : (o : Option ℕ) → place_from 0 n s.links ≡ o → P (by_place f o s)
    by_number None place = same
    by_number (Some i) place = by_here i (slice_get s.links i) place refl

-- ---- one link changed

-- the link stands so, and no other has changed
pub record Edited (s t : Standing) (i : ℕ) (l : LinkNow) : Type 0 where
  pub now : LinkNow
  pub links : t.links ≡ edit_at i (λ old. now) s.links
  pub opening : now.opening ≡ l.opening

unedited : (s : Standing) (i : ℕ) (l : LinkNow) → slice_get s.links i ≡ Some l → Edited s s i l
unedited s i l here = record { now = l; links = sym (edit-nothing s.links i (λ old. l) l here refl); opening = refl }

live_edited : (s t : Standing) (i : ℕ) (l : LinkNow) (b : Bool) → slice_get s.links i ≡ Some l → Edited s t i l → Edited s (cond b s t) i l
live_edited s t i l true here edited = unedited s i l here
live_edited s t i l false here edited = edited

-- what is heard on the link leaves the commands too
pub record HeardEdited (s t : Standing) (i : ℕ) (l : LinkNow) : Type 0 where
  pub edited : Edited s t i l
  pub commands : edited.now.asking.commands ≡ l.asking.commands
  pub answered : length l.asking.verdicts ≤ length edited.now.asking.verdicts

live_heard : (s t : Standing) (i : ℕ) (l : LinkNow) (b : Bool) → slice_get s.links i ≡ Some l → HeardEdited s t i l → HeardEdited s (cond b s t) i l
unfolding unedited
live_heard s t i l true here edited = record { edited = unedited s i l here; commands = refl; answered = omega arith }
live_heard s t i l false here edited = edited

pub byte_edited : (s : Standing) (i byte : ℕ) (l : LinkNow) → slice_get s.links i ≡ Some l → HeardEdited s (hears_byte byte i l s) i l
byte_edited s i byte l here =
    let hearing = after_byte byte l.hearing in
    let whole = whole_by l.hearing.waiting (l.hearing.rest ++ byte ∷ []) in
    let to = replies_becomes s i l hearing whole (is_ready l) in
    live_heard s (replies_by hearing whole (is_ready l) i l s) i l (is_over l) here (record { edited = record { now = to.now; links = to.links; opening = to.opening_is }; commands = to.commands_are; answered = to.answered })

pub quiet_edited : (s : Standing) (i patience : ℕ) (l : LinkNow) → slice_get s.links i ≡ Some l → HeardEdited s (is_quiet patience i l s) i l
quiet_edited s i patience l here =
    let hearing = after_quiet patience l.hearing in
    let lost = loses hearing i l s in
    let goes_on = with_link i (with_hearing hearing l) s in
    let to = either s lost goes_on i l hearing (is_some hearing.over) (loses_becomes s i l hearing) (as_heard s i l hearing) in
    live_heard s (cond (is_some hearing.over) lost goes_on) i l (is_over l) here (record { edited = record { now = to.now; links = to.links; opening = to.opening_is }; commands = to.commands_are; answered = to.answered })

pub lost_edited : (s : Standing) (i : ℕ) (l : LinkNow) → slice_get s.links i ≡ Some l → HeardEdited s (is_lost i l s) i l
lost_edited s i l here =
    let to = loses_becomes s i l (after_end l.hearing) in
    live_heard s (loses (after_end l.hearing) i l s) i l (is_over l) here (record { edited = record { now = to.now; links = to.links; opening = to.opening_is }; commands = to.commands_are; answered = to.answered })

sent_edited : (setting : Setting) (s : Standing) (i : ℕ) (l : LinkNow) (bytes : List ℕ) → slice_get s.links i ≡ Some l → Edited s (sends setting bytes i l s) i l
sent_edited setting s i l bytes here =
    let now = says setting bytes l.saying.unsent i l s in
    live_edited s (with_link i now s) i l (is_over l) here (record { now = now; links = refl; opening = says_opening setting s i l bytes l.saying.unsent })

-- ---- the other links

pub record Apart (s t : Standing) (n : ℕ) : Type 0 where
  pub others : (k : ℕ) (l : LinkNow) → place_from 0 n s.links ≢ Some k → slice_get s.links k ≡ Some l → slice_get t.links k ≡ Some l
  pub places : (other : ℕ) → place_from 0 other t.links ≡ place_from 0 other s.links

pub same_apart : (s : Standing) (n : ℕ) → Apart s s n
same_apart s n = record { others = λ k l apart here. here; places = λ other. refl }

edit_apart : (s t : Standing) (n i : ℕ) (l : LinkNow) → place_from 0 n s.links ≡ Some i → slice_get s.links i ≡ Some l → Edited s t i l → Apart s t n
edit_apart s t n i l place here e = record {
  others = λ k m apart there. ap (λ (ls : List LinkNow). slice_get ls k) e.links ∙ get-edit_other s.links i k (λ old. e.now) (λ same. apart (place ∙ ap (λ p. Some p) (sym same))) ∙ there;
  places = λ other. ap (λ (ls : List LinkNow). place_from 0 other ls) e.links ∙ place-kept 0 other s.links i l e.now here e.opening;
}

pub then_apart : (s t u : Standing) (n : ℕ) → Apart s t n → Apart t u n → Apart s u n
then_apart s t u n first second = record {
  others = λ k l apart here. second.others k l (λ at. apart (sym (first.places n) ∙ at)) (first.others k l apart here);
  places = λ other. second.places other ∙ first.places other;
}

bytes_apart : (s : Standing) (n : ℕ) (bytes : List ℕ) → Apart s (hears bytes n s) n
bytes_apart s n [] = same_apart s n
bytes_apart s n (byte ∷ bytes) =
    let t = on_number (hears_byte byte) n s in
    let first = at_number (λ u. Apart s u n) (hears_byte byte) n s (same_apart s n) (λ i l place here. edit_apart s (hears_byte byte i l s) n i l place here (byte_edited s i byte l here).edited) in
    then_apart s t (hears bytes n t) n first (bytes_apart t n bytes)

rests_apart : (s t : Standing) (n : ℕ) (last : Option ℕ) → Apart s t n → Apart s (with_last last t) n
rests_apart s t n last apart = record { others = apart.others; places = apart.places }

pub moved_apart : (setting : Setting) (s : Standing) (e : LinkEvent) → Apart s (moved setting s e) (link_of e)
moved_apart setting s (event.Opened n address) = same_apart s n
moved_apart setting s (event.Sent n bytes) =
    at_number (λ u. Apart s u n) (sends setting bytes) n s (same_apart s n) (λ i l place here. edit_apart s (sends setting bytes i l s) n i l place here (sent_edited setting s i l bytes here))
moved_apart setting s (event.Heard n bytes) = rests_apart s (hears bytes n s) n (place_from 0 n s.links) (bytes_apart s n bytes)
moved_apart setting s (event.Quiet n) =
    rests_apart s (on_number (is_quiet setting.patience) n s) n (place_from 0 n s.links)
    (at_number (λ u. Apart s u n) (is_quiet setting.patience) n s (same_apart s n) (λ i l place here. edit_apart s (is_quiet setting.patience i l s) n i l place here (quiet_edited s i setting.patience l here).edited))
moved_apart setting s (event.Ended n) =
    rests_apart s (on_number is_lost n s) n None
    (at_number (λ u. Apart s u n) is_lost n s (same_apart s n) (λ i l place here. edit_apart s (is_lost i l s) n i l place here (lost_edited s i l here).edited))

-- ---- the ranges

-- the ranges of segments that aren't asked on the link without an answer
abbrev SameRanges : Standing → LinkNow → Standing → Type 0
SameRanges s l t = (segment : ℕ) → times segment (waiting_of l.asking) ≡ 0 → slice_get t.entries segment ≡ slice_get s.entries segment

none_behind : (n m segment : ℕ) (commands : List ℕ) → n ≤ m → times segment (drop n commands) ≡ 0 → times segment (drop m commands) ≡ 0
none_behind zero zero segment commands less none = none
none_behind zero (suc m) segment [] less none = none
none_behind zero (suc m) segment (command ∷ commands) less none = none_behind zero m segment commands (omega arith) (omega (arith, none))
none_behind (suc n) zero segment commands less none = absurd (omega (arith, less))
none_behind (suc n) (suc m) segment [] less none = none
none_behind (suc n) (suc m) segment (command ∷ commands) less none = none_behind n m segment commands (omega (arith, less)) none

other_than : (l : LinkNow) (oldest segment : ℕ) (waiting : List ℕ) → waiting_of l.asking ≡ oldest ∷ waiting → times segment (waiting_of l.asking) ≡ 0 → segment ≢ oldest
other_than l oldest segment waiting is few same =
    let all : times segment (waiting_of l.asking) ≡ times segment (oldest ∷ waiting) = ap (times segment) is in
    let one : times segment (oldest ∷ []) ≡ 1 = ap (λ k. times segment (k ∷ [])) (sym same) ∙ one_time segment in
    let both : times segment (oldest ∷ waiting) ≡ times segment (oldest ∷ []) + times segment waiting = times-append segment (oldest ∷ []) waiting in
    omega (arith, few, all, one, both)

claims_same : (s : Standing) (i : ℕ) (l : LinkNow) (hearing : Hearing) (oldest : ℕ) (waiting : List ℕ) (range : Range) (clash : Option Clash) → waiting_of l.asking ≡ oldest ∷ waiting → SameRanges s l (claims_by hearing oldest range clash i l s)
claims_same s i l hearing oldest waiting range None is segment none = edited_other s.entries oldest segment (λ entry. record { file = entry.file; hold = Held; first = range.first; last = range.last }) (other_than l oldest segment waiting is none)
claims_same s i l hearing oldest waiting range (Some clash) is segment none = refl

given_same : (s : Standing) (l : LinkNow) (waiting : List ℕ) (segment : ℕ) → waiting_of l.asking ≡ waiting → times segment (waiting_of l.asking) ≡ 0 → slice_get (given_up_on waiting s.entries) segment ≡ slice_get s.entries segment
given_same s l [] segment is none = refl
given_same s l (oldest ∷ waiting) segment is none = (gives_up s.entries oldest).others segment (other_than l oldest segment waiting is none)

ranges_cases : (s : Standing) (i : ℕ) (l : LinkNow) → Cases s i l (SameRanges s l)
ranges_cases s i l = record {
  hears = λ hearing more replies rest segment none. refl;
  claims = λ hearing more oldest waiting range replies rest is was now. claims_same s i l hearing oldest waiting range (least_clash 0 (file_at s.entries oldest) range.first range.last s.entries) is;
  loses = λ hearing more replies rest segment none. given_same s l (waiting_of l.asking) segment refl none;
  opens = λ hearing reply unready replies rest segment none. refl;
  quits = λ hearing reply bytes ready none_left whole replies rest segment none. refl;
  answers = λ hearing byte reply oldest waiting ready is whole replies rest segment none.
      (judged_by s.entries oldest (verdict_of l.asking.against (kept_size (file_at s.entries oldest) s.entries) reply)).others segment (other_than l oldest segment waiting is none);
  says = λ kind unsent o unquit segment none. refl;
}

-- ---- all of it

keeps_same : (p : Pipeline) (i segment : ℕ) → Keeps p p i segment
keeps_same p i segment = record { arrived = λ is. is; exhausted = λ is. is; elsewhere = λ other apart is. is }

keeps_then : (p q r : Pipeline) (i segment : ℕ) → Keeps p q i segment → Keeps q r i segment → Keeps p r i segment
keeps_then p q r i segment first second = record {
  arrived = λ is. second.arrived (first.arrived is);
  exhausted = λ is. second.exhausted (first.exhausted is);
  elsewhere = λ other apart is. second.elsewhere other apart (first.elsewhere other apart is);
}

same_leaves : (setting : Setting) (s : Standing) (n : ℕ) → LeavesOthers setting s s n
same_leaves setting s n = record {
  others = λ k l apart here. here;
  places = λ other. refl;
  segments = λ i segment at. keeps_same (pipeline_of setting s.links) i segment;
  entries = λ i segment l at here none. refl;
}

-- by what happens on the link at its number's place
here_leaves : (setting : Setting) (s t : Standing) (n i : ℕ) (l : LinkNow) → place_from 0 n s.links ≡ Some i → slice_get s.links i ≡ Some l → Apart s t n → ((segment : ℕ) → Keeps (pipeline_of setting s.links) (pipeline_of setting t.links) i segment) → SameRanges s l t → LeavesOthers setting s t n
here_leaves setting s t n i l place here apart keeps ranges = record {
  others = apart.others;
  places = apart.places;
  segments = λ j segment at.
      (let same : i ≡ j = one_some i j (sym place ∙ at) in
      subst (λ p. Keeps (pipeline_of setting s.links) (pipeline_of setting t.links) p segment) same (keeps segment));
  entries = λ j segment m at there none.
      (let same : i ≡ j = one_some i j (sym place ∙ at) in
      let both : Some m ≡ Some l = sym there ∙ ap (λ p. slice_get s.links p) (sym same) ∙ here in
      let own : m ≡ l = cc in
      ranges segment (ap (λ (a : LinkNow). times segment (waiting_of a.asking)) (sym own) ∙ none));
}

-- what a byte leaves, and that a segment that isn't awaited on the link is awaited no more
record ByteLeaves (setting : Setting) (s t : Standing) (n : ℕ) : Type 0 where
  leaves : LeavesOthers setting s t n
  kept : IsKept setting t
  commands : (i : ℕ) (l : LinkNow) → place_from 0 n s.links ≡ Some i → slice_get s.links i ≡ Some l → (now : LinkNow) × ((slice_get t.links i ≡ Some now) × ((segment : ℕ) → times segment (waiting_of l.asking) ≡ 0 → times segment (waiting_of now.asking) ≡ 0))

-- more answers to the same commands leave no more of them without one
fewer_awaited : (l now : LinkNow) (segment : ℕ) → now.asking.commands ≡ l.asking.commands → length l.asking.verdicts ≤ length now.asking.verdicts → times segment (waiting_of l.asking) ≡ 0 → times segment (waiting_of now.asking) ≡ 0
fewer_awaited l now segment same more none =
    ap (λ (cs : List ℕ). times segment (drop (length now.asking.verdicts) cs)) same ∙ none_behind (length l.asking.verdicts) (length now.asking.verdicts) segment l.asking.commands more none

byte_leaves : (setting : Setting) (s : Standing) (n i byte : ℕ) (l : LinkNow) → IsKept setting s → place_from 0 n s.links ≡ Some i → slice_get s.links i ≡ Some l → ByteLeaves setting s (hears_byte byte i l s) n
byte_leaves setting s n i byte l kept place here =
    let e = byte_edited s i byte l here in
    record {
      leaves = here_leaves setting s (hears_byte byte i l s) n i l place here (edit_apart s (hears_byte byte i l s) n i l place here e.edited) (λ segment. byte_keeps setting s i byte segment l kept here)
          (byte_cases s i l byte (SameRanges s l) (λ segment none. refl) (λ live. ranges_cases s i l));
      kept = byte_kept setting byte i l s here kept;
      commands = λ j m at there.
          (let same : i ≡ j = one_some i j (sym place ∙ at) in
          let both : Some m ≡ Some l = sym there ∙ ap (λ p. slice_get s.links p) (sym same) ∙ here in
          let own : m ≡ l = cc in (
            e.edited.now,
            (
              ap (λ p. slice_get (hears_byte byte i l s).links p) (sym same) ∙ ap (λ (ls : List LinkNow). slice_get ls i) e.edited.links ∙ get_now s.links i l e.edited.now here,
              λ segment none. fewer_awaited l e.edited.now segment e.commands e.answered (ap (λ (a : LinkNow). times segment (waiting_of a.asking)) (sym own) ∙ none),
            ),
          ));
    }

bytes_leave : (setting : Setting) (s : Standing) (n : ℕ) (bytes : List ℕ) → IsKept setting s → ByteLeaves setting s (hears bytes n s) n
bytes_leave setting s n [] kept = record { leaves = same_leaves setting s n; kept = kept; commands = λ i l at here. (l, (here, λ segment none. none)) }
bytes_leave setting s n (byte ∷ bytes) kept =
    let t = on_number (hears_byte byte) n s in
    let u = hears bytes n t in
    let none : ByteLeaves setting s s n = record { leaves = same_leaves setting s n; kept = kept; commands = λ i l at here. (l, (here, λ segment none. none)) } in
    let first : ByteLeaves setting s t n = at_number (λ v. ByteLeaves setting s v n) (hears_byte byte) n s none (λ i l place here. byte_leaves setting s n i byte l kept place here) in
    let second : ByteLeaves setting t u n = bytes_leave setting t n bytes first.kept in
    let one = first.leaves in
    let two = second.leaves in
    record {
      leaves = record {
        others = λ k l apart here. two.others k l (λ at. apart (sym (one.places n) ∙ at)) (one.others k l apart here);
        places = λ other. two.places other ∙ one.places other;
        segments = λ i segment at. keeps_then (pipeline_of setting s.links) (pipeline_of setting t.links) (pipeline_of setting u.links) i segment (one.segments i segment at) (two.segments i segment (one.places n ∙ at));
        entries = λ i segment l at here none.
            (let now = first.commands i l at here in
            two.entries i segment now.0 (one.places n ∙ at) now.1.0 (now.1.1 segment none) ∙ one.entries i segment l at here none);
      };
      kept = second.kept;
      commands = λ i l at here.
          (let now = first.commands i l at here in
          let later = second.commands i now.0 (one.places n ∙ at) now.1.0 in
          (later.0, (later.1.0, λ segment none. later.1.1 segment (now.1.1 segment none))));
    }

rests_leaves : (setting : Setting) (s t : Standing) (n : ℕ) (last : Option ℕ) → LeavesOthers setting s t n → LeavesOthers setting s (with_last last t) n
rests_leaves setting s t n last leaves = record { others = leaves.others; places = leaves.places; segments = leaves.segments; entries = leaves.entries }

moved_leaves : (setting : Setting) (s : Standing) (e : LinkEvent) → IsKept setting s → LeavesOthers setting s (moved setting s e) (link_of e)
moved_leaves setting s (event.Opened n address) kept = same_leaves setting s n
moved_leaves setting s (event.Sent n bytes) kept =
    at_number (λ u. LeavesOthers setting s u n) (sends setting bytes) n s (same_leaves setting s n) (λ i l place here.
    here_leaves setting s (sends setting bytes i l s) n i l place here (edit_apart s (sends setting bytes i l s) n i l place here (sent_edited setting s i l bytes here)) (λ segment. sent_keeps setting s i segment l bytes kept here)
    (sent_cases setting s i l bytes (SameRanges s l) (λ segment none. refl) (λ live. ranges_cases s i l)))
moved_leaves setting s (event.Heard n bytes) kept = rests_leaves setting s (hears bytes n s) n (place_from 0 n s.links) (bytes_leave setting s n bytes kept).leaves
moved_leaves setting s (event.Quiet n) kept =
    rests_leaves setting s (on_number (is_quiet setting.patience) n s) n (place_from 0 n s.links)
    (at_number (λ u. LeavesOthers setting s u n) (is_quiet setting.patience) n s (same_leaves setting s n) (λ i l place here.
    here_leaves setting s (is_quiet setting.patience i l s) n i l place here (edit_apart s (is_quiet setting.patience i l s) n i l place here (quiet_edited s i setting.patience l here).edited) (λ segment. quiet_keeps setting s i segment l kept here)
    (quiet_cases s i l setting.patience (SameRanges s l) (λ segment none. refl) (λ live. ranges_cases s i l))))
moved_leaves setting s (event.Ended n) kept =
    rests_leaves setting s (on_number is_lost n s) n None
    (at_number (λ u. LeavesOthers setting s u n) is_lost n s (same_leaves setting s n) (λ i l place here.
    here_leaves setting s (is_lost i l s) n i l place here (edit_apart s (is_lost i l s) n i l place here (lost_edited s i l here).edited) (λ segment. lost_keeps setting s i segment l kept here)
    (lost_cases s i l (SameRanges s l) (λ segment none. refl) (λ live. ranges_cases s i l))))

pub one_link_moves : OneLinkMoves
one_link_moves setting events n byte = (bytes_leave setting (standing_at setting events) n (byte ∷ []) (always_kept setting events)).leaves

pub one_event_leaves_others : OneEventLeavesOthers
one_event_leaves_others setting events e = moved_leaves setting (standing_at setting events) e (always_kept setting events)
