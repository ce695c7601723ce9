-- What is true of a posted file at each moment, and that each event keeps it.
use Rattle.std.proofs.Common.{◌≡◌, ◌⊎◌, inl, inr, ℕ, Bool, true, false, List, [], ◌∷◌, Some, None, length, refl, ap, sym, subst, ◌∙◌}
use Rattle.std.specs.Prelude.{slice_get, cond}
use Rattle.yenc_body.specs.declared.part.Part.{Part}
use Rattle.lists.specs.Edit.{edit_at}
use Rattle.fetch_trace.proofs.Lists.{same_or_not}
use Rattle.pipeline_core.proofs.Full.{get-edit_other}
use Rattle.range_assembler.specs.declared.assembler.Entry.{Entry}
use Rattle.range_assembler.specs.declared.assembler.Hold.TheVariants.{Free, Held, Accepted}
use Rattle.range_assembler.specs.Entries.{is_taken, with_claim, with_release}
use Rattle.range_assembler.specs.Claims.{is_held, is_held_entry, is_held_at}
use Rattle.fetch_trace.specs.Setting.{Setting}
use Rattle.fetch_trace.specs.LinkNow.{LinkNow, is_over}
use Rattle.fetch_trace.specs.Standing.{Standing}
use Rattle.fetch_trace.specs.Moving.{given_up, given_up_on}
use Rattle.fetch_trace.specs.Result.{part_of}
use Rattle.fetch_trace.specs.HeldRanges.{IsOldest}
use Rattle.fetch_trace.specs.Headline.{IsOf, IsHeardOn, IsHeardWhole, WasKept, IsThere}
use Rattle.fetch_trace.proofs.HeldSteps.{get_now}
use Rattle.fetch_trace.proofs.HeldMoves.{get_edited, edited_other}
use Rattle.fetch_trace.proofs.Always.{IsSound}
use Rattle.fetch_trace.proofs.Posted.{PostedEntries, unarrived}
use Rattle.fetch_trace.proofs.Backward.{get_below, Steps}

-- the segment's range is accepted
abbrev pub IsTakenAt : List Entry → ℕ → Type 0
IsTakenAt entries segment = (entry : Entry) × ((kept : ℕ) × ((slice_get entries segment ≡ Some entry) × (entry.hold ≡ Accepted kept)))

-- the segments keep their files
abbrev pub HaveFiles : Setting → List Entry → Type 0
HaveFiles setting entries = (segment : ℕ) (entry : Entry) → slice_get entries segment ≡ Some entry → (old : Entry) × ((slice_get setting.entries segment ≡ Some old) × (entry.file ≡ old.file))

pub record IsOnCourse (setting : Setting) (file size : ℕ) (part : ℕ → Part) (s : Standing) : Type 0 where
  pub files : HaveFiles setting s.entries
  pub known : PostedEntries setting file size part s.entries
  -- no range stands against an article of the file
  pub clear : (i segment : ℕ) (l : LinkNow) → slice_get s.links i ≡ Some l → IsOldest l segment → IsOf setting file segment → l.asking.against ≡ None
  -- what is accepted was kept or heard whole, and is given where it wasn't kept
  pub heard : (segment kept : ℕ) (entry : Entry) → slice_get s.entries segment ≡ Some entry → entry.file ≡ file → entry.hold ≡ Accepted kept → IsThere setting s segment
  pub ends : (segment kept : ℕ) (entry : Entry) → slice_get s.entries segment ≡ Some entry → entry.file ≡ file → entry.hold ≡ Accepted kept → (WasKept setting segment → ⊥) → part_of s segment ≡ Some (part segment)
  -- what was kept or heard whole is accepted, and so is what is given
  pub taken : (segment : ℕ) → IsOf setting file segment → IsThere setting s segment → IsTakenAt s.entries segment
  pub given : (segment : ℕ) (p : Part) → IsOf setting file segment → part_of s segment ≡ Some p → IsTakenAt s.entries segment
  pub long : length s.ends ≡ length setting.entries

-- ---- files

pub is_of : (setting : Setting) (file segment : ℕ) (entries : List Entry) (entry : Entry) → HaveFiles setting entries → slice_get entries segment ≡ Some entry → entry.file ≡ file → IsOf setting file segment
is_of setting file segment entries entry files there own = let old = files segment entry there in (old.0, (old.1.0, sym old.1.1 ∙ own))

pub own_file : (setting : Setting) (file segment : ℕ) (entries : List Entry) (entry : Entry) → HaveFiles setting entries → slice_get entries segment ≡ Some entry → IsOf setting file segment → entry.file ≡ file
own_file setting file segment entries entry files there own =
    let old = files segment entry there in
    let both : Some old.0 ≡ Some own.0 = sym old.1.0 ∙ own.1.0 in
    let same : old.0 ≡ own.0 = cc in
    old.1.1 ∙ ap (λ (e : Entry). e.file) same ∙ own.1.1

-- ---- a change of the entries that accepts none

pub record Goes (file : ℕ) (part : ℕ → Part) (entries after : List Entry) : Type 0 where
  pub files : (k : ℕ) (entry : Entry) → slice_get after k ≡ Some entry → (was : Entry) × ((slice_get entries k ≡ Some was) × (entry.file ≡ was.file))
  pub taken_back : (k kept : ℕ) (entry : Entry) → slice_get after k ≡ Some entry → entry.hold ≡ Accepted kept → slice_get entries k ≡ Some entry
  pub taken_on : (k kept : ℕ) (entry : Entry) → slice_get entries k ≡ Some entry → entry.hold ≡ Accepted kept → slice_get after k ≡ Some entry
  pub ranges : (k : ℕ) (entry : Entry) → slice_get after k ≡ Some entry → entry.file ≡ file → is_taken entry.hold ≡ true → (slice_get entries k ≡ Some entry) ⊎ ((entry.first ≡ (part k).first) × (entry.last ≡ (part k).last))

pub goes_same : (file : ℕ) (part : ℕ → Part) (entries : List Entry) → Goes file part entries entries
goes_same file part entries = record {
  files = λ k entry there. (entry, (there, refl));
  taken_back = λ k kept entry there taken. there;
  taken_on = λ k kept entry there taken. there;
  ranges = λ k entry there own taken. inl there;
}

pub files_on : (setting : Setting) (file : ℕ) (part : ℕ → Part) (entries after : List Entry) → Goes file part entries after → HaveFiles setting entries → HaveFiles setting after
files_on setting file part entries after goes files segment entry there =
    let was = goes.files segment entry there in
    let old = files segment was.0 was.1.0 in
    (old.0, (old.1.0, was.1.1 ∙ old.1.1))

pub posted_on : (setting : Setting) (file size : ℕ) (part : ℕ → Part) (entries after : List Entry) → Goes file part entries after → HaveFiles setting entries → PostedEntries setting file size part entries → PostedEntries setting file size part after
posted_on setting file size part entries after goes files known = record {
  files = λ segment entry there own. is_of setting file segment after entry (files_on setting file part entries after goes files) there own;
  first = λ segment entry there own taken. elim (goes.ranges segment entry there own taken) [ inl was ↦ known.first segment entry was own taken | inr now ↦ now.0 ];
  last = λ segment entry there own taken. elim (goes.ranges segment entry there own taken) [ inl was ↦ known.last segment entry was own taken | inr now ↦ now.1 ];
  sizes = λ segment entry kept there own taken. known.sizes segment entry kept (goes.taken_back segment kept entry there taken) own taken;
}

-- ---- what was heard whole

pub heard_on : (s after : Standing) (i segment : ℕ) (l now : LinkNow) → slice_get s.links i ≡ Some l → after.links ≡ edit_at i (λ old. now) s.links → (IsHeardOn l segment → IsHeardOn now segment) → IsHeardWhole s segment → IsHeardWhole after segment
heard_on s after i segment l now here links on heard = elim (same_or_not heard.0 i) [
  | inl e ↦ (let there = heard.1.1.0 in
      let both : Some heard.1.0 ≡ Some l = sym there ∙ ap (λ n. slice_get s.links n) e ∙ here in
      let same : heard.1.0 ≡ l = cc in
      (i, (now, (ap (λ (ls : List LinkNow). slice_get ls i) links ∙ get_now s.links i l now here, on (subst (λ (a : LinkNow). IsHeardOn a segment) same heard.1.1.1)))))
  | inr apart ↦ (heard.0, (heard.1.0, (ap (λ (ls : List LinkNow). slice_get ls heard.0) links ∙ get-edit_other s.links i heard.0 (λ old. now) apart ∙ heard.1.1.0, heard.1.1.1)))
]

pub heard_back : (s after : Standing) (i segment : ℕ) (l now : LinkNow) → slice_get s.links i ≡ Some l → after.links ≡ edit_at i (λ old. now) s.links → IsHeardWhole after segment → IsHeardWhole s segment ⊎ IsHeardOn now segment
heard_back s after i segment l now here links heard = elim (same_or_not heard.0 i) [
  | inl e ↦ (let there = heard.1.1.0 in
      let both : Some heard.1.0 ≡ Some now = sym there ∙ ap (λ n. slice_get after.links n) e ∙ ap (λ (ls : List LinkNow). slice_get ls i) links ∙ get_now s.links i l now here in
      let same : heard.1.0 ≡ now = cc in
      inr (subst (λ (a : LinkNow). IsHeardOn a segment) same heard.1.1.1))
  | inr apart ↦ inl (heard.0, (heard.1.0, (sym (get-edit_other s.links i heard.0 (λ old. now) apart) ∙ ap (λ (ls : List LinkNow). slice_get ls heard.0) (sym links) ∙ heard.1.1.0, heard.1.1.1)))
]

pub there_on : (setting : Setting) (s after : Standing) (i segment : ℕ) (l now : LinkNow) → slice_get s.links i ≡ Some l → after.links ≡ edit_at i (λ old. now) s.links → (IsHeardOn l segment → IsHeardOn now segment) → IsThere setting s segment → IsThere setting after segment
there_on setting s after i segment l now here links on (inl kept) = inl kept
there_on setting s after i segment l now here links on (inr heard) = inr (heard_on s after i segment l now here links on heard)

steps_on : (l now : LinkNow) (segment : ℕ) → Steps l now → IsHeardOn l segment → IsHeardOn now segment
steps_on l now segment steps heard = let both = steps.on heard.0 segment heard.1.0 heard.1.1.0 heard.1.1.1.0 in (heard.0, (heard.1.0, (both.0, (both.1, heard.1.1.1.1))))

steps_off : (l now : LinkNow) (segment : ℕ) → Steps l now → IsHeardOn now segment → IsHeardOn l segment
steps_off l now segment steps heard = let both = steps.back heard.0 segment heard.1.0 heard.1.1.0 heard.1.1.1.0 in (heard.0, (heard.1.0, (both.0, (both.1, heard.1.1.1.1))))

taken_by : (file : ℕ) (part : ℕ → Part) (entries after : List Entry) (segment : ℕ) → Goes file part entries after → IsTakenAt entries segment → IsTakenAt after segment
taken_by file part entries after segment goes taken = (taken.0, (taken.1.0, (goes.taken_on segment taken.1.0 taken.0 taken.1.1.0 taken.1.1.1, taken.1.1.1)))

-- ---- a step without an answer

abbrev pub StaysClear : Setting → ℕ → LinkNow → Type 0
StaysClear setting file l = (segment : ℕ) → IsOldest l segment → IsOf setting file segment → l.asking.against ≡ None

pub clear_links : (setting : Setting) (file : ℕ) (links : List LinkNow) (i : ℕ) (l now : LinkNow) → slice_get links i ≡ Some l → ((k segment : ℕ) (m : LinkNow) → slice_get links k ≡ Some m → IsOldest m segment → IsOf setting file segment → m.asking.against ≡ None) → StaysClear setting file now → (k segment : ℕ) (m : LinkNow) → slice_get (edit_at i (λ old. now) links) k ≡ Some m → IsOldest m segment → IsOf setting file segment → m.asking.against ≡ None
clear_links setting file links i l now here all clear k segment m there oldest own = elim (same_or_not k i) [
  | inl e ↦ (let both : Some m ≡ Some now = sym there ∙ ap (λ n. slice_get (edit_at i (λ old. now) links) n) e ∙ get_now links i l now here in
      let same : now ≡ m = cc in
      subst (λ (a : LinkNow). a.asking.against ≡ None) same (clear segment (subst (λ (a : LinkNow). IsOldest a segment) (sym same) oldest) own))
  | inr apart ↦ all k segment m (sym (get-edit_other links i k (λ old. now) apart) ∙ there) oldest own
]

pub quietly : (setting : Setting) (file size : ℕ) (part : ℕ → Part) (s : Standing) (i : ℕ) (l now : LinkNow) (after : List Entry) → slice_get s.links i ≡ Some l → Steps l now → Goes file part s.entries after → StaysClear setting file now → IsOnCourse setting file size part s → IsOnCourse setting file size part (record { links = edit_at i (λ old. now) s.links; entries = after; ends = s.ends; last = s.last })
quietly setting file size part s i l now after here steps goes clear old =
    let t : Standing = record { links = edit_at i (λ old. now) s.links; entries = after; ends = s.ends; last = s.last } in
    record {
      files = files_on setting file part s.entries after goes old.files;
      known = posted_on setting file size part s.entries after goes old.files old.known;
      clear = clear_links setting file s.links i l now here old.clear clear;
      heard = λ segment kept entry there own taken. there_on setting s t i segment l now here refl (steps_on l now segment steps) (old.heard segment kept entry (goes.taken_back segment kept entry there taken) own taken);
      ends = λ segment kept entry there own taken unkept. old.ends segment kept entry (goes.taken_back segment kept entry there taken) own taken unkept;
      taken = λ segment own heard. taken_by file part s.entries after segment goes (old.taken segment own (elim heard [
        | inl kept ↦ inl kept
        | inr after_all ↦ inr (elim (heard_back s t i segment l now here refl after_all) [
          | inl before ↦ before
          | inr on ↦ (i, (l, (here, steps_off l now segment steps on)))
        ])
      ]));
      given = λ segment p own is. taken_by file part s.entries after segment goes (old.given segment p own is);
      long = old.long;
    }

-- ---- a range is given up

given_goes_by : (file : ℕ) (part : ℕ → Part) (entries : List Entry) (k : ℕ) (b : Bool) → is_held_at entries k ≡ b → Goes file part entries (cond b (with_release k entries) entries)
given_goes_by file part entries k false is = goes_same file part entries
given_goes_by file part entries k true is =
    let f : Entry → Entry = λ e. record { file = e.file; hold = Free; first = e.first; last = e.last } in
    record {
      files = λ j entry there. elim (same_or_not j k) [
        | inl e ↦ (let was = get_edited entries k f entry (ap (λ n. slice_get (edit_at k f entries) n) (sym e) ∙ there) in
            (was.0, (ap (λ n. slice_get entries n) e ∙ was.1.0, ap (λ (x : Entry). x.file) (sym was.1.1))))
        | inr apart ↦ (entry, (sym (edited_other entries k j f apart) ∙ there, refl))
      ];
      taken_back = λ j kept entry there taken. elim (same_or_not j k) [
        | inl e ↦ (let was = get_edited entries k f entry (ap (λ n. slice_get (edit_at k f entries) n) (sym e) ∙ there) in
            let free : Free ≡ entry.hold = ap (λ (x : Entry). x.hold) was.1.1 in let no : Free ≡ Accepted kept = free ∙ taken in cc)
        | inr apart ↦ sym (edited_other entries k j f apart) ∙ there
      ];
      taken_on = λ j kept entry there taken. elim (same_or_not j k) [
        | inl e ↦ (let test : is_held_at entries k ≡ false = ap (λ n. is_held_at entries n) (sym e) ∙ ap is_held_entry there ∙ ap is_held taken in
            let no : false ≡ true = sym test ∙ is in cc)
        | inr apart ↦ edited_other entries k j f apart ∙ there
      ];
      ranges = λ j entry there own taken. elim (same_or_not j k) [
        | inl e ↦ (let was = get_edited entries k f entry (ap (λ n. slice_get (edit_at k f entries) n) (sym e) ∙ there) in
            let free : Free ≡ entry.hold = ap (λ (x : Entry). x.hold) was.1.1 in
            let no : false ≡ true = ap is_taken free ∙ taken in cc)
        | inr apart ↦ inl (sym (edited_other entries k j f apart) ∙ there)
      ];
    }

pub given_goes : (file : ℕ) (part : ℕ → Part) (entries : List Entry) (k : ℕ) → Goes file part entries (given_up k entries)
given_goes file part entries k = given_goes_by file part entries k (is_held_at entries k) refl

pub given_on_goes : (file : ℕ) (part : ℕ → Part) (entries : List Entry) (waiting : List ℕ) → Goes file part entries (given_up_on waiting entries)
given_on_goes file part entries [] = goes_same file part entries
given_on_goes file part entries (k ∷ waiting) = given_goes file part entries k

-- ---- a range is claimed

pub claim_goes : (setting : Setting) (file : ℕ) (part : ℕ → Part) (s : Standing) (i : ℕ) (l : LinkNow) (segment first last : ℕ) → IsSound setting s → slice_get s.links i ≡ Some l → is_over l ≡ false → IsOldest l segment → HaveFiles setting s.entries → (IsOf setting file segment → (first ≡ (part segment).first) × (last ≡ (part segment).last)) → Goes file part s.entries (with_claim segment first last s.entries)
claim_goes setting file part s i l segment first last sound here live oldest files range =
    let f : Entry → Entry = λ e. record { file = e.file; hold = Held; first = first; last = last } in
    record {
      files = λ j entry there. elim (same_or_not j segment) [
        | inl e ↦ (let was = get_edited s.entries segment f entry (ap (λ n. slice_get (edit_at segment f s.entries) n) (sym e) ∙ there) in
            (was.0, (ap (λ n. slice_get s.entries n) e ∙ was.1.0, ap (λ (x : Entry). x.file) (sym was.1.1))))
        | inr apart ↦ (entry, (sym (edited_other s.entries segment j f apart) ∙ there, refl))
      ];
      taken_back = λ j kept entry there taken. elim (same_or_not j segment) [
        | inl e ↦ (let was = get_edited s.entries segment f entry (ap (λ n. slice_get (edit_at segment f s.entries) n) (sym e) ∙ there) in
            let held : Held ≡ entry.hold = ap (λ (x : Entry). x.hold) was.1.1 in let no : Held ≡ Accepted kept = held ∙ taken in cc)
        | inr apart ↦ sym (edited_other s.entries segment j f apart) ∙ there
      ];
      taken_on = λ j kept entry there taken. elim (same_or_not j segment) [
        | inl e ↦ (let at : slice_get s.entries segment ≡ Some entry = ap (λ n. slice_get s.entries n) (sym e) ∙ there in
            let old = files segment entry at in
            absurd (unarrived setting s i l segment entry kept sound here live oldest at taken (get_below setting.entries segment old.0 old.1.0)))
        | inr apart ↦ edited_other s.entries segment j f apart ∙ there
      ];
      ranges = λ j entry there own taken. elim (same_or_not j segment) [
        | inl e ↦ (let was = get_edited s.entries segment f entry (ap (λ n. slice_get (edit_at segment f s.entries) n) (sym e) ∙ there) in
            let same_file : was.0.file ≡ file = ap (λ (x : Entry). x.file) was.1.1 ∙ own in
            let both = range (is_of setting file segment s.entries was.0 files was.1.0 same_file) in
            inr (ap (λ (x : Entry). x.first) (sym was.1.1) ∙ both.0 ∙ ap (λ n. (part n).first) (sym e), ap (λ (x : Entry). x.last) (sym was.1.1) ∙ both.1 ∙ ap (λ n. (part n).last) (sym e)))
        | inr apart ↦ inl (sym (edited_other s.entries segment j f apart) ∙ there)
      ];
    }
