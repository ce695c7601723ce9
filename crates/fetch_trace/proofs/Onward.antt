-- Where the answers are posted, each event keeps a posted file on its course.
use Rattle.std.proofs.Common.{◌≡◌, ◌≢◌, ◌<◌, ◌⊎◌, inl, inr, zero, suc, ℕ, true, false, List, [], ◌∷◌, ◌++◌, Option, Some, None, length, map, refl, ap, sym, subst, ◌∙◌, arith}
use Rattle.std.specs.Prelude.{slice_get, replicate, ◌==◌}
use Rattle.std.proofs.lemmas.Bool.Decides.{nat_tests}
use Rattle.yenc_body.specs.declared.part.Part.{Part}
use Rattle.link_dialog.specs.Replies.{Reply}
use Rattle.lists.specs.Edit.{edit_at}
use Rattle.fetch_trace.proofs.Lists.{same_or_not}
use Rattle.pipeline_core.proofs.Full.{get-edit_other}
use Rattle.range_assembler.specs.declared.assembler.Entry.{Entry}
use Rattle.range_assembler.specs.declared.assembler.Clash.{Clash}
use Rattle.range_assembler.specs.declared.assembler.Hold.{Hold}
use Rattle.range_assembler.specs.declared.assembler.Hold.TheVariants.{Free, Held, Accepted}
use Rattle.range_assembler.specs.Entries.{is_accepted as is_accepted_hold, is_taken, least_clash, kept_size, with_claim}
use Rattle.range_assembler.specs.Claims.{file_of, file_at}
use Rattle.std.proofs.lemmas.List.{length-replicate}
use Rattle.io_traits.specs.declared.links.LinkEvent.{LinkEvent}
use Rattle.io_traits.specs.declared.links.LinkEvent.TheVariants as event
use Rattle.fetch_trace.specs.Setting.{Opening, Setting}
use Rattle.fetch_trace.specs.Hearing.{Hearing, whole_by}
use Rattle.fetch_trace.specs.Verdicts.{Range, Verdict, range_in, range_of, verdict_of}
use Rattle.fused_decoder.specs.WholeFile.{whole_of}
use Rattle.fetch_trace.specs.Verdicts.Verdict.{Accepted as HasAccepted, Absent, Refused, Clashes, OtherSize}
use Rattle.fetch_trace.specs.LinkNow.{LinkNow, Asking, is_over, is_ready, waiting_of, with_hearing, with_asking, fresh_link}
use Rattle.fetch_trace.specs.Standing.{Standing, is_kept, before_all, place_from, on_number}
use Rattle.fetch_trace.specs.Moving.{begun_with, with_saying, given_up_on, entries_by, judges, claims_by, sends, hears_byte, is_quiet, is_lost, hears, with_last, moved, moved_by, standing_at}
use Rattle.fetch_trace.specs.Result.{part_by, part_of}
use Rattle.fetch_trace.specs.HeldRanges.{IsOldest, NoneHeld}
use Rattle.fetch_trace.specs.Headline.{IsOf, IsPosted, IsPostedOn, AnswersArePosted, answers_on, IsHeardOn, WasKept, IsThere, AreKept}
use Rattle.fetch_trace.proofs.HeldSteps.{get_now}
use Rattle.fetch_trace.proofs.HeldMoves.{get_edited, edited_there, edited_other, there_below, exists, judged_by}
use Rattle.fetch_trace.proofs.Settled.{clear_unasked}
use Rattle.fetch_trace.proofs.Always.{IsSound, first_back, byte_sound, sent_sound, quiet_sound, lost_sound, resting, start_sound}
use Rattle.fetch_trace.proofs.Standings.{on_each, on_bytes}
use Rattle.fetch_trace.proofs.Posted.{unarrived, posted_is_clear, posted_is_accepted}
use Rattle.fetch_trace.proofs.WholeRange.{range_before_end}
use Rattle.fetch_trace.proofs.Cases.{Cases, byte_cases, sent_cases, quiet_cases, lost_cases}
use Rattle.fetch_trace.proofs.Aligned.{IsAligned, AreAligned, aligned_cases, start_aligned, ready_answers, equal_now}
use Rattle.fetch_trace.proofs.Backward.{get_split, get_below, same_steps, opened_steps, quit_steps, said_steps, answered_link, body_awaited, answer_here, answer_on, back_cases}
use Rattle.fetch_trace.proofs.OnCourse.{IsTakenAt, HaveFiles, IsOnCourse, is_of, own_file, goes_same, heard_back, there_on, StaysClear, clear_links, quietly, given_goes, given_on_goes, claim_goes}

edited_end : {A : Type 0} (xs : List A) (k : ℕ) (y : A) → k < length xs → slice_get (edit_at k (λ old. y) xs) k ≡ Some y
edited_end [] k y below = absurd (omega (arith, below))
edited_end (x ∷ xs) zero y below = refl
edited_end (x ∷ xs) (suc k) y below = edited_end xs k y (omega (arith, below))

edit_long : {A : Type 0} (xs : List A) (k : ℕ) (f : A → A) → length (edit_at k f xs) ≡ length xs
edit_long [] k f = refl
edit_long (x ∷ xs) zero f = refl
edit_long (x ∷ xs) (suc k) f = ap (λ n. suc n) (edit_long xs k f)

-- the entries that any verdict leaves have their files
verdict_files : (part_at : ℕ → Part) (entries : List Entry) (segment : ℕ) (verdict : Verdict) (k : ℕ) (entry : Entry) → slice_get (entries_by segment verdict entries) k ≡ Some entry → (was : Entry) × ((slice_get entries k ≡ Some was) × (entry.file ≡ was.file))
verdict_files part_at entries segment (HasAccepted part whole) k entry there =
    let f : Entry → Entry = λ e. record { file = e.file; hold = Accepted part.begin.size; first = e.first; last = e.last } in
    elim (same_or_not k segment) [
      | inl e ↦ (let was = get_edited entries segment f entry (ap (λ n. slice_get (edit_at segment f entries) n) (sym e) ∙ there) in
          (was.0, (ap (λ n. slice_get entries n) e ∙ was.1.0, ap (λ (x : Entry). x.file) (sym was.1.1))))
      | inr apart ↦ (entry, (sym (edited_other entries segment k f apart) ∙ there, refl))
    ]
verdict_files part_at entries segment (Absent code) k entry there = (given_goes 0 part_at entries segment).files k entry there
verdict_files part_at entries segment (Refused fault) k entry there = (given_goes 0 part_at entries segment).files k entry there
verdict_files part_at entries segment (Clashes clash) k entry there = (given_goes 0 part_at entries segment).files k entry there
verdict_files part_at entries segment (OtherSize kept) k entry there = (given_goes 0 part_at entries segment).files k entry there

module _ (setting : Setting) (file : ℕ) (bytes : List ℕ) (lines : ℕ → List (List ℕ)) (part : ℕ → Part) where
  -- ---- a link that isn't over, of a sound standing in which the file is on its course
  record At (s : Standing) (i : ℕ) (l : LinkNow) : Type 0 where
    posted : IsPosted setting file bytes lines part
    sound : IsSound setting s
    here : slice_get s.links i ≡ Some l
    live : is_over l ≡ false
    aligned : IsAligned l
    old : IsOnCourse setting file (length bytes) part s

  at_file : (s : Standing) (i : ℕ) (l : LinkNow) (segment : ℕ) → At s i l → IsOldest l segment → IsOf setting file segment → file_at s.entries segment ≡ file
  at_file s i l segment at oldest own =
      let there = there_below s.entries segment (exists setting s i l segment at.sound.kept.exclusive at.sound.held at.here at.live oldest) in
      ap file_of there.1 ∙ own_file setting file segment s.entries there.0 at.old.files there.1 own

  own_or_not : (s : Standing) (i : ℕ) (l : LinkNow) (segment : ℕ) → At s i l → IsOldest l segment → IsOf setting file segment ⊎ (IsOf setting file segment → ⊥)
  own_or_not s i l segment at oldest =
      let there = there_below s.entries segment (exists setting s i l segment at.sound.kept.exclusive at.sound.held at.here at.live oldest) in
      elim (same_or_not there.0.file file) [
        | inl own ↦ inl (is_of setting file segment s.entries there.0 at.old.files there.1 own)
        | inr other ↦ inr (λ own. other (own_file setting file segment s.entries there.0 at.old.files there.1 own))
      ]

  -- an article of the file comes to its range moment with the range of its part
  range_is : (s : Standing) (i : ℕ) (l now : LinkNow) (segment : ℕ) (range : Range) → slice_get s.links i ≡ Some l → ((k : ℕ) (m : LinkNow) → slice_get (edit_at i (λ old. now) s.links) k ≡ Some m → IsPostedOn setting file bytes lines part m) → IsOldest now segment → range_of now.hearing.rest ≡ Some range → IsOf setting file segment → range ≡ record { size = length bytes; first = (part segment).first; last = (part segment).last }
  range_is s i l now segment range here all oldest fixed own = (all i now (get_now s.links i l now here)).begun segment range oldest own fixed

  claims_course : (s : Standing) (i : ℕ) (l : LinkNow) (hearing : Hearing) (more : List ℕ) (segment : ℕ) (waiting : List ℕ) (range : Range) (clash : Option Clash) → At s i l → hearing.replies ≡ l.hearing.replies → hearing.rest ≡ l.hearing.rest ++ more → waiting_of l.asking ≡ segment ∷ waiting → range_of l.hearing.rest ≡ None → range_of hearing.rest ≡ Some range →
      least_clash 0 (file_at s.entries segment) range.first range.last s.entries ≡ clash → AnswersArePosted setting file bytes lines part (claims_by hearing segment range clash i l s) → IsOnCourse setting file (length bytes) part (claims_by hearing segment range clash i l s)
  claims_course s i l hearing more segment waiting range None at replies rest oldest was is none all =
      quietly setting file (length bytes) part s i l (with_hearing hearing l) (with_claim segment range.first range.last s.entries) at.here (same_steps l hearing l.asking.against more replies rest)
      (claim_goes setting file part s i l segment range.first range.last at.sound at.here at.live (waiting, oldest) at.old.files (λ own.
      (let found = range_is s i l (with_hearing hearing l) segment range at.here all (waiting, oldest) is own in (ap (λ (r : Range). r.first) found, ap (λ (r : Range). r.last) found))))
      (λ other first own. at.old.clear i other l at.here first own) at.old
  claims_course s i l hearing more segment waiting range (Some clash) at replies rest oldest was is some all =
      let now = with_asking hearing (record { commands = l.asking.commands; verdicts = l.asking.verdicts; against = Some clash }) l in
      quietly setting file (length bytes) part s i l now s.entries at.here (same_steps l hearing (Some clash) more replies rest) (goes_same file part s.entries)
      (λ other first own.
      (let both : segment ∷ waiting ≡ other ∷ first.0 = sym oldest ∙ first.1 in
      let same : other ≡ segment = cc in
      let here : IsOf setting file segment = subst (λ n. IsOf setting file n) same own in
      let found = range_is s i l now segment range at.here all (waiting, oldest) is here in
      let clear = posted_is_clear setting s file bytes lines part i l segment (record {
        sound = at.sound;
        posted = at.posted;
        known = at.old.known;
        own = here;
        below = get_below setting.entries segment here.0 here.1.0;
        here = at.here;
        live = at.live;
        oldest = (waiting, oldest);
        unfixed = was;
      }) in
      let no : Some clash ≡ None = sym some ∙ ap (λ n. least_clash 0 n range.first range.last s.entries) (at_file s i l segment at (waiting, oldest) here) ∙ ap (λ (r : Range). least_clash 0 file r.first r.last s.entries) found ∙ clear in
      cc)) at.old

  -- ---- an answer

  -- what is true of its segment
  record HereIs (t : Standing) (segment : ℕ) : Type 0 where
    first : (entry : Entry) → slice_get t.entries segment ≡ Some entry → entry.file ≡ file → is_taken entry.hold ≡ true → entry.first ≡ (part segment).first
    last : (entry : Entry) → slice_get t.entries segment ≡ Some entry → entry.file ≡ file → is_taken entry.hold ≡ true → entry.last ≡ (part segment).last
    sizes : (entry : Entry) (kept : ℕ) → slice_get t.entries segment ≡ Some entry → entry.file ≡ file → entry.hold ≡ Accepted kept → kept ≡ length bytes
    heard : (kept : ℕ) (entry : Entry) → slice_get t.entries segment ≡ Some entry → entry.file ≡ file → entry.hold ≡ Accepted kept → IsThere setting t segment
    ends : (kept : ℕ) (entry : Entry) → slice_get t.entries segment ≡ Some entry → entry.file ≡ file → entry.hold ≡ Accepted kept → (WasKept setting segment → ⊥) → part_of t segment ≡ Some (part segment)
    taken : IsOf setting file segment → IsThere setting t segment → IsTakenAt t.entries segment
    given : (p : Part) → IsOf setting file segment → part_of t segment ≡ Some p → IsTakenAt t.entries segment

  -- an answer on a link
  record Answer (s : Standing) (i : ℕ) (l : LinkNow) (hearing : Hearing) (byte : ℕ) (reply : Reply) (segment : ℕ) (waiting : List ℕ) : Type 0 where
    ready : is_ready l ≡ true
    oldest : waiting_of l.asking ≡ segment ∷ waiting
    whole : whole_by l.hearing.waiting (l.hearing.rest ++ byte ∷ []) ≡ Some reply
    replies : hearing.replies ≡ l.hearing.replies ++ reply ∷ []

  heard_more : (l : LinkNow) (hearing : Hearing) (verdict : Verdict) (reply : Reply) (segment : ℕ) → is_ready l ≡ true → hearing.replies ≡ l.hearing.replies ++ reply ∷ [] → IsHeardOn l segment → IsHeardOn (answered_link l hearing verdict) segment
  heard_more l hearing verdict reply segment ready replies heard = (heard.0, (heard.1.0, (heard.1.1.0, (answer_on l hearing verdict reply heard.0 heard.1.0 ready replies heard.1.1.1.0, heard.1.1.1.1))))

  heard_before : (s : Standing) (i : ℕ) (l : LinkNow) (hearing : Hearing) (verdict : Verdict) (byte : ℕ) (reply : Reply) (segment other : ℕ) (waiting : List ℕ) → At s i l → Answer s i l hearing byte reply segment waiting → IsHeardOn (answered_link l hearing verdict) other → IsHeardOn l other ⊎ ((other ≡ segment) × (reply.code ≡ 222))
  heard_before s i l hearing verdict byte reply segment other waiting at answer heard =
      let asking : Asking = record { commands = l.asking.commands; verdicts = l.asking.verdicts ++ verdict ∷ []; against = None } in
      let grown = ready_answers l hearing asking reply answer.ready answer.replies in
      let there = answer_here l hearing verdict reply segment waiting answer.ready answer.oldest answer.replies at.aligned in
      elim (get_split (answers_on l) reply heard.0 heard.1.0 (ap (λ (rs : List Reply). slice_get rs heard.0) (sym grown) ∙ heard.1.1.1.0)) [
        | inl before ↦ inl (heard.0, (heard.1.0, (heard.1.1.0, (before, heard.1.1.1.1))))
        | inr last ↦ (let place : heard.0 ≡ length l.asking.verdicts = last.0 ∙ equal_now l segment waiting answer.ready answer.oldest at.aligned in
            let command = heard.1.1.0 in
            let both : Some other ≡ Some segment = sym command ∙ ap (λ n. slice_get l.asking.commands n) place ∙ there.0 in
            let same : other ≡ segment = cc in
            inr (same, ap (λ (r : Reply). r.code) last.1 ∙ heard.1.1.1.1))
      ]

  judged : (s : Standing) (i : ℕ) (l : LinkNow) (hearing : Hearing) (verdict : Verdict) (byte : ℕ) (reply : Reply) (segment : ℕ) (waiting : List ℕ) → At s i l → Answer s i l hearing byte reply segment waiting → HereIs (judges hearing segment verdict i l s) segment → IsOnCourse setting file (length bytes) part (judges hearing segment verdict i l s)
  judged s i l hearing verdict byte reply segment waiting at answer is =
      let t = judges hearing segment verdict i l s in
      let now = answered_link l hearing verdict in
      let by = judged_by s.entries segment verdict in
      let files : HaveFiles setting t.entries = λ k entry there. (let was = verdict_files part s.entries segment verdict k entry there in let first = at.old.files k was.0 was.1.0 in (first.0, (first.1.0, was.1.1 ∙ first.1.1))) in
      let part_same : (k : ℕ) → k ≢ segment → part_of t k ≡ part_of s k = λ k apart. ap part_by (get-edit_other s.ends segment k (λ old. Some verdict) apart) in
      record {
        files = files;
        known = record {
          files = λ k entry there own. is_of setting file k t.entries entry files there own;
          first = λ k entry there own taken. elim (same_or_not k segment) [
            | inl e ↦ is.first entry (ap (λ n. slice_get t.entries n) (sym e) ∙ there) own taken ∙ ap (λ n. (part n).first) (sym e)
            | inr apart ↦ at.old.known.first k entry (sym (by.others k apart) ∙ there) own taken
          ];
          last = λ k entry there own taken. elim (same_or_not k segment) [
            | inl e ↦ is.last entry (ap (λ n. slice_get t.entries n) (sym e) ∙ there) own taken ∙ ap (λ n. (part n).last) (sym e)
            | inr apart ↦ at.old.known.last k entry (sym (by.others k apart) ∙ there) own taken
          ];
          sizes = λ k entry kept there own taken. elim (same_or_not k segment) [
            | inl e ↦ is.sizes entry kept (ap (λ n. slice_get t.entries n) (sym e) ∙ there) own taken
            | inr apart ↦ at.old.known.sizes k entry kept (sym (by.others k apart) ∙ there) own taken
          ];
        };
        clear = clear_links setting file s.links i l now at.here at.old.clear (λ other first own. refl);
        heard = λ k kept entry there own taken. elim (same_or_not k segment) [
          | inl e ↦ subst (λ n. IsThere setting t n) (sym e) (is.heard kept entry (ap (λ n. slice_get t.entries n) (sym e) ∙ there) own taken)
          | inr apart ↦ there_on setting s t i k l now at.here refl (heard_more l hearing verdict reply k answer.ready answer.replies) (at.old.heard k kept entry (sym (by.others k apart) ∙ there) own taken)
        ];
        ends = λ k kept entry there own taken unkept. elim (same_or_not k segment) [
          | inl e ↦ ap (λ n. part_of t n) e ∙ is.ends kept entry (ap (λ n. slice_get t.entries n) (sym e) ∙ there) own taken (λ was. unkept (subst (λ n. WasKept setting n) (sym e) was)) ∙ ap (λ n. Some (part n)) (sym e)
          | inr apart ↦ part_same k apart ∙ at.old.ends k kept entry (sym (by.others k apart) ∙ there) own taken unkept
        ];
        taken = λ k own heard. elim (same_or_not k segment) [
          | inl e ↦ subst (λ n. IsTakenAt t.entries n) (sym e) (is.taken (subst (λ n. IsOf setting file n) e own) (subst (λ n. IsThere setting t n) e heard))
          | inr apart ↦ (let before : IsThere setting s k = elim heard [
            | inl kept ↦ inl kept
            | inr whole ↦ inr (elim (heard_back s t i k l now at.here refl whole) [
              | inl was ↦ was
              | inr on ↦ elim (heard_before s i l hearing verdict byte reply segment k waiting at answer on) [
                | inl was ↦ (i, (l, (at.here, was)))
                | inr this ↦ absurd (apart this.0)
              ]
            ])
          ] in
              let taken = at.old.taken k own before in
              (taken.0, (taken.1.0, (by.others k apart ∙ taken.1.1.0, taken.1.1.1))))
        ];
        given = λ k p own given. elim (same_or_not k segment) [
          | inl e ↦ subst (λ n. IsTakenAt t.entries n) (sym e) (is.given p (subst (λ n. IsOf setting file n) e own) (ap (λ n. part_of t n) (sym e) ∙ given))
          | inr apart ↦ (let taken = at.old.given k p own (sym (part_same k apart) ∙ given) in (taken.0, (taken.1.0, (by.others k apart ∙ taken.1.1.0, taken.1.1.1))))
        ];
        long = edit_long s.ends segment (λ old. Some verdict) ∙ at.old.long;
      }

  -- it is of another file
  other_here : (s : Standing) (i : ℕ) (l : LinkNow) (hearing : Hearing) (verdict : Verdict) (segment : ℕ) → At s i l → (IsOf setting file segment → ⊥) → HereIs (judges hearing segment verdict i l s) segment
  other_here s i l hearing verdict segment at other =
      let own_not : (entry : Entry) → slice_get (entries_by segment verdict s.entries) segment ≡ Some entry → entry.file ≡ file → ⊥ = λ entry there own.
      (let was = verdict_files part s.entries segment verdict segment entry there in other (is_of setting file segment s.entries was.0 at.old.files was.1.0 (sym was.1.1 ∙ own))) in
      record {
        first = λ entry there own taken. absurd (own_not entry there own);
        last = λ entry there own taken. absurd (own_not entry there own);
        sizes = λ entry kept there own taken. absurd (own_not entry there own);
        heard = λ kept entry there own taken. absurd (own_not entry there own);
        ends = λ kept entry there own taken unkept. absurd (own_not entry there own);
        taken = λ own heard. absurd (other own);
        given = λ p own given. absurd (other own);
      }

  end_here : (s : Standing) (i : ℕ) (l : LinkNow) (hearing : Hearing) (verdict : Verdict) (segment : ℕ) → At s i l → IsOf setting file segment → part_of (judges hearing segment verdict i l s) segment ≡ part_by (Some (Some verdict))
  end_here s i l hearing verdict segment at own =
      let below = get_below setting.entries segment own.0 own.1.0 in
      let long = at.old.long in
      ap part_by (edited_end s.ends segment (Some verdict) (omega (arith, below, long)))

  not_taken : (s : Standing) (i : ℕ) (l : LinkNow) (segment : ℕ) → At s i l → IsOldest l segment → IsOf setting file segment → IsTakenAt s.entries segment → ⊥
  not_taken s i l segment at oldest own taken =
      unarrived setting s i l segment taken.0 taken.1.0 at.sound at.here at.live oldest taken.1.1.0 taken.1.1.1 (get_below setting.entries segment own.0 own.1.0)

  -- it is absent
  absent_here : (s : Standing) (i : ℕ) (l : LinkNow) (hearing : Hearing) (code byte : ℕ) (reply : Reply) (segment : ℕ) (waiting : List ℕ) → At s i l → Answer s i l hearing byte reply segment waiting → IsOf setting file segment → reply.code ≢ 222 → HereIs (judges hearing segment (Absent code) i l s) segment
  absent_here s i l hearing code byte reply segment waiting at answer own other =
      let t = judges hearing segment (Absent code) i l s in
      let goes = given_goes file part s.entries segment in
      let before : (kept : ℕ) (entry : Entry) → slice_get t.entries segment ≡ Some entry → entry.hold ≡ Accepted kept → ⊥ = λ kept entry there taken.
      not_taken s i l segment at (waiting, answer.oldest) own (entry, (kept, (goes.taken_back segment kept entry there taken, taken))) in
      record {
        first = λ entry there same taken. elim (goes.ranges segment entry there same taken) [ inl was ↦ at.old.known.first segment entry was same taken | inr now ↦ now.0 ];
        last = λ entry there same taken. elim (goes.ranges segment entry there same taken) [ inl was ↦ at.old.known.last segment entry was same taken | inr now ↦ now.1 ];
        sizes = λ entry kept there same taken. absurd (before kept entry there taken);
        heard = λ kept entry there same taken. absurd (before kept entry there taken);
        ends = λ kept entry there same taken unkept. absurd (before kept entry there taken);
        taken = λ mine heard. elim heard [
          | inl kept ↦ absurd (not_taken s i l segment at (waiting, answer.oldest) own (at.old.taken segment own (inl kept)))
          | inr whole ↦ elim (heard_back s t i segment l (answered_link l hearing (Absent code)) at.here refl whole) [
            | inl was ↦ absurd (not_taken s i l segment at (waiting, answer.oldest) own (at.old.taken segment own (inr was)))
            | inr on ↦ elim (heard_before s i l hearing (Absent code) byte reply segment segment waiting at answer on) [
              | inl was ↦ absurd (not_taken s i l segment at (waiting, answer.oldest) own (at.old.taken segment own (inr (i, (l, (at.here, was))))))
              | inr this ↦ absurd (other this.1)
            ]
          ]
        ];
        given = λ p mine given. (let no : None ≡ Some p = sym (end_here s i l hearing (Absent code) segment at own) ∙ given in cc);
      }

  -- it is the article
  whole_here : (s : Standing) (i : ℕ) (l : LinkNow) (hearing : Hearing) (byte : ℕ) (reply : Reply) (segment : ℕ) (waiting : List ℕ) → At s i l → Answer s i l hearing byte reply segment waiting → IsOf setting file segment → reply.code ≡ 222 → reply.lines ≡ lines segment → HereIs (judges hearing segment (HasAccepted (part segment) (whole_of reply.lines)) i l s) segment
  whole_here s i l hearing byte reply segment waiting at answer own code is =
      let t = judges hearing segment (HasAccepted (part segment) (whole_of reply.lines)) i l s in
      let now = answered_link l hearing (HasAccepted (part segment) (whole_of reply.lines)) in
      let range : Range = record { size = length bytes; first = (part segment).first; last = (part segment).last } in
      let f : Entry → Entry = λ e. record { file = e.file; hold = Accepted (part segment).begin.size; first = e.first; last = e.last } in
      let fixed : range_of l.hearing.rest ≡ Some range = range_before_end l.hearing.rest byte reply range (body_awaited l l.hearing.waiting (l.hearing.rest ++ byte ∷ []) reply segment waiting refl answer.ready answer.oldest (at.sound.kept.valid i l at.here) answer.whole) code (ap range_in is ∙ at.posted.fixes segment own) in
      let held = at.sound.held.holds i segment l range at.here (record { live = at.live; ready = answer.ready; oldest = (waiting, answer.oldest); fixed = fixed; clear = at.old.clear i segment l at.here (waiting, answer.oldest) own }) in
      let there_now : slice_get t.entries segment ≡ Some (f held.entry) = edited_there s.entries segment f held.entry held.there in
      let one : (entry : Entry) → slice_get t.entries segment ≡ Some entry → f held.entry ≡ entry = λ entry there. (let both : Some (f held.entry) ≡ Some entry = sym there_now ∙ there in let same : f held.entry ≡ entry = cc in same) in
      let here = answer_here l hearing (HasAccepted (part segment) (whole_of reply.lines)) reply segment waiting answer.ready answer.oldest answer.replies at.aligned in
      let taken_now : IsTakenAt t.entries segment = (f held.entry, ((part segment).begin.size, (there_now, refl))) in
      record {
        first = λ entry there same taken. ap (λ (e : Entry). e.first) (sym (one entry there)) ∙ held.first;
        last = λ entry there same taken. ap (λ (e : Entry). e.last) (sym (one entry there)) ∙ held.last;
        sizes = λ entry kept there same taken.
            (let both : Accepted kept ≡ Accepted (part segment).begin.size = sym taken ∙ ap (λ (e : Entry). e.hold) (sym (one entry there)) in
            let equal : kept ≡ (part segment).begin.size = cc in
            equal ∙ at.posted.sized segment own);
        heard = λ kept entry there same taken. inr (i, (now, (get_now s.links i l now at.here, (length l.asking.verdicts, (reply, (here.0, (here.1, code)))))));
        ends = λ kept entry there same taken unkept. end_here s i l hearing (HasAccepted (part segment) (whole_of reply.lines)) segment at own;
        taken = λ mine heard. taken_now;
        given = λ p mine given. taken_now;
      }

  answers_course : (s : Standing) (i : ℕ) (l : LinkNow) (hearing : Hearing) (byte : ℕ) (reply : Reply) (segment : ℕ) (waiting : List ℕ) → At s i l → Answer s i l hearing byte reply segment waiting →
      AnswersArePosted setting file bytes lines part (judges hearing segment (verdict_of l.asking.against (kept_size (file_at s.entries segment) s.entries) reply) i l s) → IsOnCourse setting file (length bytes) part (judges hearing segment (verdict_of l.asking.against (kept_size (file_at s.entries segment) s.entries) reply) i l s)
  answers_course s i l hearing byte reply segment waiting at answer all =
      let verdict = verdict_of l.asking.against (kept_size (file_at s.entries segment) s.entries) reply in
      let now = answered_link l hearing verdict in
      judged s i l hearing verdict byte reply segment waiting at answer (elim (own_or_not s i l segment at (waiting, answer.oldest)) [
        | inr other ↦ other_here s i l hearing verdict segment at other
        | inl own ↦ elim (same_or_not reply.code 222) [
          | inl code ↦ (let here = answer_here l hearing verdict reply segment waiting answer.ready answer.oldest answer.replies at.aligned in
              let lines_are = (all i now (get_now s.links i l now at.here)).whole (length l.asking.verdicts) segment reply here.0 here.1 own code in
              let accepted : verdict ≡ HasAccepted (part segment) (whole_of reply.lines) =
              ap (λ (c : Option Clash). verdict_of c (kept_size (file_at s.entries segment) s.entries) reply) (at.old.clear i segment l at.here (waiting, answer.oldest) own)
              ∙ ap (λ n. verdict_of None (kept_size n s.entries) reply) (at_file s i l segment at (waiting, answer.oldest) own)
              ∙ posted_is_accepted setting file bytes lines part s.entries segment reply at.posted at.old.known own code lines_are in
              subst (λ (v : Verdict). HereIs (judges hearing segment v i l s) segment) (sym accepted) (whole_here s i l hearing byte reply segment waiting at answer own code lines_are))
          | inr code ↦ (let test : (reply.code == 222) ≡ false = grind (arith, nat_tests) in
              let absent : verdict ≡ Absent reply.code = rw test refl in
              subst (λ (v : Verdict). HereIs (judges hearing segment v i l s) segment) (sym absent) (absent_here s i l hearing reply.code byte reply segment waiting at answer own code))
        ]
      ])

  -- ---- all cases

  said_clear : (s : Standing) (i : ℕ) (l : LinkNow) (o : Option ℕ) (waiting : List ℕ) → At s i l → waiting_of l.asking ≡ waiting → (segment : ℕ) → (behind : List ℕ) × (waiting_of (begun_with o l.asking) ≡ segment ∷ behind) → IsOf setting file segment → (begun_with o l.asking).against ≡ None
  said_clear s i l None waiting at is segment oldest own = at.old.clear i segment l at.here oldest own
  said_clear s i l (Some c) [] at is segment oldest own = clear_unasked l is (at.sound.settled i l at.here)
  said_clear s i l (Some c) (first ∷ waiting) at is segment oldest own =
      at.old.clear i segment l at.here (first_back l (Some c) segment (first ∷ waiting) (at.sound.kept.valid i l at.here).few is (λ none. (let no : first ∷ waiting ≡ [] = none in cc)) oldest) own

  course_cases : (s : Standing) (i : ℕ) (l : LinkNow) → At s i l → Cases s i l (λ t. AnswersArePosted setting file bytes lines part t → IsOnCourse setting file (length bytes) part t)
  course_cases s i l at =
      let valid = at.sound.kept.valid i l at.here in
      let same = goes_same file part s.entries in
      let clear : StaysClear setting file l = λ segment oldest own. at.old.clear i segment l at.here oldest own in
      record {
        hears = λ hearing more replies rest all. quietly setting file (length bytes) part s i l (with_hearing hearing l) s.entries at.here (same_steps l hearing l.asking.against more replies rest) same clear at.old;
        claims = λ hearing more segment waiting range replies rest oldest was is all. claims_course s i l hearing more segment waiting range (least_clash 0 (file_at s.entries segment) range.first range.last s.entries) at replies rest oldest was is refl all;
        loses = λ hearing more replies rest all.
            quietly setting file (length bytes) part s i l (with_hearing hearing l) (given_up_on (waiting_of l.asking) s.entries) at.here (same_steps l hearing l.asking.against more replies rest) (given_on_goes file part s.entries (waiting_of l.asking)) clear at.old;
        opens = λ hearing reply unready replies rest all. quietly setting file (length bytes) part s i l (with_hearing hearing l) s.entries at.here (opened_steps l hearing unready valid) same clear at.old;
        quits = λ hearing reply heard ready none whole replies rest all. quietly setting file (length bytes) part s i l (with_hearing hearing l) s.entries at.here (quit_steps l hearing reply ready none replies at.aligned) same clear at.old;
        answers = λ hearing byte reply segment waiting ready oldest whole replies rest all. answers_course s i l hearing byte reply segment waiting at (record { ready = ready; oldest = oldest; whole = whole; replies = replies }) all;
        says = λ kind unsent o unquit all.
            (let now = with_saying kind unsent (begun_with o l.asking) l in
            quietly setting file (length bytes) part s i l now s.entries at.here (said_steps l kind unsent o unquit valid at.aligned) same (λ segment oldest own. said_clear s i l o (waiting_of l.asking) at refl segment oldest own) at.old);
      }

  -- ---- events

  record IsGood (s : Standing) : Type 0 where
    sound : IsSound setting s
    aligned : AreAligned s
    course : AnswersArePosted setting file bytes lines part s → IsOnCourse setting file (length bytes) part s

  good_step : (s t : Standing) (i : ℕ) (l : LinkNow) → IsPosted setting file bytes lines part → slice_get s.links i ≡ Some l → ((P : Standing → Type 0) → P s → (is_over l ≡ false → Cases s i l P) → P t) → IsSound setting t → IsGood s → IsGood t
  good_step s t i l posted here cases sound old = record {
    sound = sound;
    aligned = cases AreAligned old.aligned (λ live. aligned_cases s i l (old.sound.kept.valid i l here) old.aligned (old.aligned i l here));
    course = λ all.
        (let before = cases (λ u. AnswersArePosted setting file bytes lines part u → AnswersArePosted setting file bytes lines part s) (λ a. a) (λ live. back_cases setting file bytes lines part s i l posted here (old.sound.kept.valid i l here) (old.aligned i l here)) all in
        let was = old.course before in
        cases (λ u. AnswersArePosted setting file bytes lines part u → IsOnCourse setting file (length bytes) part u) (λ a. was)
        (λ live. course_cases s i l (record { posted = posted; sound = old.sound; here = here; live = live; aligned = old.aligned i l here; old = was })) all);
  }

  byte_good : (byte i : ℕ) (l : LinkNow) (s : Standing) → IsPosted setting file bytes lines part → slice_get s.links i ≡ Some l → IsGood s → IsGood (hears_byte byte i l s)
  byte_good byte i l s posted here old = good_step s (hears_byte byte i l s) i l posted here (λ P. byte_cases s i l byte P) (byte_sound setting byte i l s here old.sound) old

  rest_good : (s : Standing) (last : Option ℕ) → IsGood s → IsGood (with_last last s)
  rest_good s last old = record {
    sound = resting setting s last old.sound;
    aligned = old.aligned;
    course = λ all. (let was = old.course all in record { files = was.files; known = was.known; clear = was.clear; heard = was.heard; ends = was.ends; taken = was.taken; given = was.given; long = was.long });
  }

  moved_good : (s : Standing) (event : LinkEvent) → IsPosted setting file bytes lines part → IsGood s → IsGood (moved setting s event)
  moved_good s (event.Opened n address) posted old = old
  moved_good s (event.Sent n sent) posted old = on_each IsGood (sends setting sent) n s old (λ i l is. good_step s (sends setting sent i l s) i l posted is (λ P. sent_cases setting s i l sent P) (sent_sound setting sent i l s is old.sound) old)
  moved_good s (event.Heard n heard) posted old = rest_good (hears heard n s) (place_from 0 n s.links) (on_bytes IsGood heard n s old (λ byte i l t is was. byte_good byte i l t posted is was))
  moved_good s (event.Quiet n) posted old =
      rest_good (on_number (is_quiet setting.patience) n s) (place_from 0 n s.links)
      (on_each IsGood (is_quiet setting.patience) n s old (λ i l is. good_step s (is_quiet setting.patience i l s) i l posted is (λ P. quiet_cases s i l setting.patience P) (quiet_sound setting i l s is old.sound) old))
  moved_good s (event.Ended n) posted old =
      rest_good (on_number is_lost n s) None (on_each IsGood is_lost n s old (λ i l is. good_step s (is_lost i l s) i l posted is (λ P. lost_cases s i l P) (lost_sound setting i l s is old.sound) old))

  moved_by_good : (s : Standing) (events : List LinkEvent) → IsPosted setting file bytes lines part → IsGood s → IsGood (moved_by setting s events)
  moved_by_good s [] posted old = old
  moved_by_good s (event ∷ events) posted old = moved_by_good (moved setting s event) events posted (moved_good s event posted old)

  -- ---- before all events

  nothing_heard : (openings : List Opening) (i segment : ℕ) (l : LinkNow) → slice_get (map fresh_link openings) i ≡ Some l → IsHeardOn l segment → ⊥
  nothing_heard [] i segment l is heard = cc
  nothing_heard (opening ∷ openings) zero segment l is heard =
      let same : fresh_link opening ≡ l = cc in
      let command : slice_get l.asking.commands heard.0 ≡ Some segment = heard.1.1.0 in
      let none : slice_get [] heard.0 ≡ Some segment = ap (λ (a : LinkNow). slice_get a.asking.commands heard.0) same ∙ command in
      cc
  nothing_heard (opening ∷ openings) (suc i) segment l is heard = nothing_heard openings i segment l is heard

  fresh_clear : (openings : List Opening) (i : ℕ) (l : LinkNow) → slice_get (map fresh_link openings) i ≡ Some l → l.asking.against ≡ None
  fresh_clear [] i l is = cc
  fresh_clear (opening ∷ openings) zero l is = let same : fresh_link opening ≡ l = cc in ap (λ (a : LinkNow). a.asking.against) (sym same)
  fresh_clear (opening ∷ openings) (suc i) l is = fresh_clear openings i l is

  none_given : (count k : ℕ) (p : Part) → part_by (slice_get (replicate count None) k) ≡ Some p → ⊥
  none_given zero k p is = cc
  none_given (suc count) zero p is = cc
  none_given (suc count) (suc k) p is = none_given count k p is

  hold_taken : (hold : Hold) → is_taken hold ≡ true → (hold ≡ Held) ⊎ ((kept : ℕ) × (hold ≡ Accepted kept))
  hold_taken Free is = cc
  hold_taken Held is = inl refl
  hold_taken (Accepted kept) is = inr (kept, refl)

  pub was_taken : (o : Option Entry) → is_kept o ≡ true → (entry : Entry) × ((kept : ℕ) × ((o ≡ Some entry) × (entry.hold ≡ Accepted kept)))
  was_taken None is = cc
  was_taken (Some entry) is = by entry.hold refl is
    where
      by : (hold : Hold) → entry.hold ≡ hold → is_accepted_hold hold ≡ true → (e : Entry) × ((kept : ℕ) × ((Some entry ≡ Some e) × (e.hold ≡ Accepted kept)))
      by Free same accepted = cc
      by Held same accepted = cc
      by (Accepted kept) same accepted = (entry, (kept, (refl, same)))

  start_good : (base : List ℕ) → NoneHeld setting.entries → AreKept setting file bytes part base → IsGood (before_all setting)
  start_good base none are_kept =
      let kept_now : (segment size : ℕ) (entry : Entry) → slice_get setting.entries segment ≡ Some entry → entry.hold ≡ Accepted size → WasKept setting segment = λ segment size entry there taken. ap is_kept there ∙ ap is_accepted_hold taken in
      record {
        sound = start_sound setting none;
        aligned = start_aligned setting.openings;
        course = λ all. record {
          files = λ segment entry there. (entry, (there, refl));
          known = record {
            files = λ segment entry there own. (entry, (there, own));
            first = λ segment entry there own taken. elim (hold_taken entry.hold taken) [
              | inl held ↦ absurd (none segment entry there held)
              | inr kept ↦ are_kept.first segment kept.0 entry there own kept.1
            ];
            last = λ segment entry there own taken. elim (hold_taken entry.hold taken) [
              | inl held ↦ absurd (none segment entry there held)
              | inr kept ↦ are_kept.last segment kept.0 entry there own kept.1
            ];
            sizes = λ segment entry kept there own taken. are_kept.sized segment kept entry there own taken;
          };
          clear = λ i segment l is oldest own. fresh_clear setting.openings i l is;
          heard = λ segment kept entry there own taken. inl (kept_now segment kept entry there taken);
          ends = λ segment kept entry there own taken unkept. absurd (unkept (kept_now segment kept entry there taken));
          taken = λ segment own there. elim there [
            | inl kept ↦ was_taken (slice_get setting.entries segment) kept
            | inr heard ↦ absurd (nothing_heard setting.openings heard.0 segment heard.1.0 heard.1.1.0 heard.1.1.1)
          ];
          given = λ segment p own given. absurd (none_given (length setting.entries) segment p given);
          long = length-replicate (length setting.entries) None;
        };
      }

  -- at each moment of each trace whose answers are posted
  pub always_on_course : (events : List LinkEvent) (base : List ℕ) → NoneHeld setting.entries → AreKept setting file bytes part base → IsPosted setting file bytes lines part → AnswersArePosted setting file bytes lines part (standing_at setting events) → IsOnCourse setting file (length bytes) part (standing_at setting events)
  always_on_course events base none are_kept posted all = (moved_by_good (before_all setting) events posted (start_good base none are_kept)).course all
