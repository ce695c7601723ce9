-- Where the answers are posted after an event, they were posted before it.
use Rattle.std.proofs.Common.{◌≡◌, ◌<◌, ◌≤◌, ◌⊎◌, inl, inr, zero, suc, ℕ, Bool, true, false, List, [], ◌∷◌, ◌++◌, Option, Some, None, length, drop, refl, ap, sym, subst, ◌∙◌, arith}
use Rattle.std.specs.Prelude.{slice_get}
use Rattle.std.proofs.lemmas.List.{drop_all}
use Rattle.std.proofs.lemmas.Bool.Decides.{nat_tests}
use Rattle.yenc_body.specs.declared.part.Part.{Part}
use Rattle.link_dialog.specs.declared.awaited.Awaited.{Awaited}
use Rattle.link_dialog.specs.declared.awaited.Awaited.TheVariants.{Body}
use Rattle.link_dialog.specs.Replies.{Reply, whole_reply}
use Rattle.lists.specs.Edit.{edit_at}
use Rattle.fetch_trace.proofs.Lists.{same_or_not}
use Rattle.pipeline_core.proofs.Full.{get-edit_other}
use Rattle.range_assembler.specs.declared.assembler.Clash.{Clash}
use Rattle.range_assembler.specs.Entries.{least_clash, kept_size}
use Rattle.range_assembler.specs.Claims.{file_at}
use Rattle.fetch_trace.specs.Setting.{Setting}
use Rattle.fetch_trace.specs.Hearing.{Hearing, whole_by, opening_length}
use Rattle.fetch_trace.specs.Verdicts.{Range, Verdict, range_in, range_of, verdict_of}
use Rattle.fetch_trace.specs.LinkNow.{LinkNow, is_ready, waiting_of, with_hearing, with_asking}
use Rattle.fetch_trace.specs.Standing.{Standing}
use Rattle.fetch_trace.specs.Moving.{begun_with, with_saying, claims_by}
use Rattle.fetch_trace.specs.Valid.{bodies, pending_of, IsAwaiting, IsValidLink}
use Rattle.fetch_trace.specs.HeldRanges.{IsOldest}
use Rattle.fetch_trace.specs.Headline.{IsOf, IsPosted, IsPostedOn, AnswersArePosted, answers_on}
use Rattle.fetch_trace.proofs.Lists.{first-behind}
use Rattle.fetch_trace.proofs.Settled.{oldest_on}
use Rattle.fetch_trace.proofs.RangeStays.{range_stays}
use Rattle.fetch_trace.proofs.WholeRange.{range_at_end}
use Rattle.fetch_trace.proofs.HeldSteps.{get_now}
use Rattle.fetch_trace.proofs.Cases.{Cases}
use Rattle.fetch_trace.proofs.Aligned.{IsAligned, unready_unasked, ready_answers, no_fewer, equal_now}

-- ---- lists

pub get_front : {A : Type 0} (xs ys : List A) (k : ℕ) (x : A) → slice_get xs k ≡ Some x → slice_get (xs ++ ys) k ≡ Some x
get_front [] ys k x is = cc
get_front (a ∷ xs) ys zero x is = is
get_front (a ∷ xs) ys (suc k) x is = get_front xs ys k x is

pub get_last : {A : Type 0} (xs : List A) (x : A) → slice_get (xs ++ x ∷ []) (length xs) ≡ Some x
get_last [] x = refl
get_last (a ∷ xs) x = get_last xs x

pub get_split : {A : Type 0} (xs : List A) (y : A) (k : ℕ) (x : A) → slice_get (xs ++ y ∷ []) k ≡ Some x → (slice_get xs k ≡ Some x) ⊎ ((k ≡ length xs) × (y ≡ x))
get_split [] y zero x is = inr (refl, (let same : y ≡ x = cc in same))
get_split [] y (suc k) x is = cc
get_split (a ∷ xs) y zero x is = inl is
get_split (a ∷ xs) y (suc k) x is = elim (get_split xs y k x is) [
  | inl before ↦ inl before
  | inr last ↦ inr (ap (λ n. suc n) last.0, last.1)
]

pub get_below : {A : Type 0} (xs : List A) (k : ℕ) (x : A) → slice_get xs k ≡ Some x → k < length xs
get_below [] k x is = cc
get_below (a ∷ xs) zero x is = omega arith
get_below (a ∷ xs) (suc k) x is = let less = get_below xs k x is in omega (arith, less)

pub none_behind : {A : Type 0} (n : ℕ) (xs : List A) → drop n xs ≡ [] → length xs ≤ n
none_behind zero [] is = omega arith
none_behind zero (x ∷ xs) is = cc
none_behind (suc n) [] is = omega arith
none_behind (suc n) (x ∷ xs) is = let less = none_behind n xs is in omega (arith, less)

pub drop_of_none : (n : ℕ) (xs : List ℕ) → xs ≡ [] → drop n xs ≡ []
drop_of_none zero [] is = refl
drop_of_none (suc n) [] is = refl
drop_of_none n (x ∷ xs) is = cc

-- ---- one link, where no answer comes

pub record Steps (l now : LinkNow) : Type 0 where
  pub on : (k segment : ℕ) (reply : Reply) → slice_get l.asking.commands k ≡ Some segment → slice_get (answers_on l) k ≡ Some reply → (slice_get now.asking.commands k ≡ Some segment) × (slice_get (answers_on now) k ≡ Some reply)
  pub back : (k segment : ℕ) (reply : Reply) → slice_get now.asking.commands k ≡ Some segment → slice_get (answers_on now) k ≡ Some reply → (slice_get l.asking.commands k ≡ Some segment) × (slice_get (answers_on l) k ≡ Some reply)
  pub going : (segment : ℕ) (range : Range) → IsOldest l segment → range_of l.hearing.rest ≡ Some range → IsOldest now segment × (range_of now.hearing.rest ≡ Some range)

pub same_steps : (l : LinkNow) (hearing : Hearing) (against : Option Clash) (more : List ℕ) → hearing.replies ≡ l.hearing.replies → hearing.rest ≡ l.hearing.rest ++ more → Steps l (with_asking hearing (record { commands = l.asking.commands; verdicts = l.asking.verdicts; against = against }) l)
same_steps l hearing against more replies rest =
    let same : drop (opening_length l.opening.login hearing.replies) hearing.replies ≡ answers_on l = ap (λ (rs : List Reply). drop (opening_length l.opening.login rs) rs) replies in
    record {
      on = λ k segment reply command answer. (command, ap (λ (rs : List Reply). slice_get rs k) same ∙ answer);
      back = λ k segment reply command answer. (command, ap (λ (rs : List Reply). slice_get rs k) (sym same) ∙ answer);
      going = λ segment range oldest fixed. (oldest, ap range_of rest ∙ range_stays l.hearing.rest more range fixed);
    }

no_member : (xs : List ℕ) (k x : ℕ) → xs ≡ [] → slice_get xs k ≡ Some x → ⊥
no_member [] k x none is = cc
no_member (a ∷ xs) k x none is = cc

no_oldest : (l : LinkNow) (segment : ℕ) → waiting_of l.asking ≡ [] → IsOldest l segment → ⊥
no_oldest l segment none oldest = let no : [] ≡ segment ∷ oldest.0 = sym none ∙ oldest.1 in cc

pub opened_steps : (l : LinkNow) (hearing : Hearing) → is_ready l ≡ false → IsValidLink l → Steps l (with_hearing hearing l)
opened_steps l hearing unready valid =
    let none = (unready_unasked l unready valid).0 in
    record {
      on = λ k segment reply command answer. absurd (no_member l.asking.commands k segment none command);
      back = λ k segment reply command answer. absurd (no_member l.asking.commands k segment none command);
      going = λ segment range oldest fixed. absurd (no_oldest l segment (drop_of_none (length l.asking.verdicts) l.asking.commands none) oldest);
    }

pub quit_steps : (l : LinkNow) (hearing : Hearing) (reply : Reply) → is_ready l ≡ true → waiting_of l.asking ≡ [] → hearing.replies ≡ l.hearing.replies ++ reply ∷ [] → IsAligned l → Steps l (with_hearing hearing l)
quit_steps l hearing reply ready none replies aligned =
    let grown = ready_answers l hearing l.asking reply ready replies in
    record {
      on = λ k segment r command answer. (command, ap (λ (rs : List Reply). slice_get rs k) grown ∙ get_front (answers_on l) (reply ∷ []) k r answer);
      back = λ k segment r command answer. elim (get_split (answers_on l) reply k r (ap (λ (rs : List Reply). slice_get rs k) (sym grown) ∙ answer)) [
        | inl before ↦ (command, before)
        | inr last ↦ (let at = last.0 in
            let fewer = no_fewer l ready aligned in
            let all = none_behind (length l.asking.verdicts) l.asking.commands none in
            let below = get_below l.asking.commands k segment command in
            absurd (omega (arith, at, fewer, all, below)))
      ];
      going = λ segment range oldest fixed. absurd (no_oldest l segment none oldest);
    }

unready_answers : (l : LinkNow) → is_ready l ≡ false → answers_on l ≡ []
unready_answers l unready =
    drop_all (opening_length l.opening.login l.hearing.replies) l.hearing.replies (let short : length l.hearing.replies ≤ opening_length l.opening.login l.hearing.replies = grind (arith, nat_tests) in short)

-- no answer stands behind the last command
no_answer_yet : (l : LinkNow) (k : ℕ) (reply : Reply) (b : Bool) → is_ready l ≡ b → l.saying.quits ≡ false → length l.asking.commands ≤ k → length l.asking.verdicts ≤ length l.asking.commands → slice_get (answers_on l) k ≡ Some reply → IsAligned l → ⊥
no_answer_yet l k reply false unready unquit past few answer aligned =
    let none : None ≡ Some reply = sym (ap (λ (rs : List Reply). slice_get rs k) (unready_answers l unready)) ∙ answer in cc
no_answer_yet l k reply true ready unquit past few answer aligned =
    let below = get_below (answers_on l) k reply answer in
    elim (aligned ready) [
      | inl same ↦ omega (arith, same, past, few, below)
      | inr quit ↦ (let is = quit.0 in let no : true ≡ false = sym is ∙ unquit in cc)
    ]

pub said_steps : (l : LinkNow) (kind : Awaited) (unsent : List ℕ) (o : Option ℕ) → (o ≡ None) ⊎ (l.saying.quits ≡ false) → IsValidLink l → IsAligned l → Steps l (with_saying kind unsent (begun_with o l.asking) l)
said_steps l kind unsent None unquit valid aligned = record {
  on = λ k segment reply command answer. (command, answer);
  back = λ k segment reply command answer. (command, answer);
  going = λ segment range oldest fixed. (oldest, fixed);
}
said_steps l kind unsent (Some c) unquit valid aligned = record {
  on = λ k segment reply command answer. (get_front l.asking.commands (c ∷ []) k segment command, answer);
  back = λ k segment reply command answer. elim (get_split l.asking.commands c k segment command) [
    | inl before ↦ (before, answer)
    | inr last ↦ elim unquit [
      | inl none ↦ (let no : Some c ≡ None = none in cc)
      | inr unsaid ↦ (let at = last.0 in absurd (no_answer_yet l k reply (is_ready l) refl unsaid (omega (arith, at)) valid.few answer aligned))
    ]
  ];
  going = λ segment range oldest fixed. (oldest_on l (Some c) segment oldest.0 valid.few oldest.1, fixed);
}

pub steps_back : (setting : Setting) (file : ℕ) (bytes : List ℕ) (lines : ℕ → List (List ℕ)) (part : ℕ → Part) (l now : LinkNow) → Steps l now → IsPostedOn setting file bytes lines part now → IsPostedOn setting file bytes lines part l
steps_back setting file bytes lines part l now steps posted = record {
  whole = λ k segment reply command answer own code. (let both = steps.on k segment reply command answer in posted.whole k segment reply both.0 both.1 own code);
  begun = λ segment range oldest own fixed. (let both = steps.going segment range oldest fixed in posted.begun segment range both.0 own both.1);
}

-- ---- one link, where an answer comes

abbrev pub answered_link : LinkNow → Hearing → Verdict → LinkNow
answered_link l hearing verdict = with_asking hearing (record { commands = l.asking.commands; verdicts = l.asking.verdicts ++ verdict ∷ []; against = None }) l

pub body_awaited : (l : LinkNow) (waiting : List Awaited) (bytes : List ℕ) (reply : Reply) (segment : ℕ) (behind : List ℕ) → l.hearing.waiting ≡ waiting → is_ready l ≡ true → waiting_of l.asking ≡ segment ∷ behind → IsValidLink l → whole_by waiting bytes ≡ Some reply → whole_reply Body bytes ≡ Some reply
body_awaited l [] bytes reply segment behind is ready oldest valid whole = cc
body_awaited l (kind ∷ kinds) bytes reply segment behind is ready oldest valid whole =
    let P : Bool → Type 0 = λ b. IsAwaiting b l in
    let was = subst P ready valid.kinds in
    let front : kind ∷ kinds ++ pending_of l.saying ≡ Body ∷ bodies behind ++ was.0 = ap (λ (ws : List Awaited). ws ++ pending_of l.saying) (sym is) ∙ was.2 ∙ ap (λ (d : List ℕ). bodies d ++ was.0) oldest in
    let same : kind ≡ Body = cc in
    ap (λ (a : Awaited). whole_reply a bytes) (sym same) ∙ whole

-- the answer is the one of its command
pub answer_here : (l : LinkNow) (hearing : Hearing) (verdict : Verdict) (reply : Reply) (segment : ℕ) (waiting : List ℕ) → is_ready l ≡ true → waiting_of l.asking ≡ segment ∷ waiting → hearing.replies ≡ l.hearing.replies ++ reply ∷ [] → IsAligned l → (slice_get l.asking.commands (length l.asking.verdicts) ≡ Some segment) × (slice_get (answers_on (answered_link l hearing verdict)) (length l.asking.verdicts) ≡ Some reply)
answer_here l hearing verdict reply segment waiting ready oldest replies aligned = (
  first-behind (length l.asking.verdicts) l.asking.commands segment waiting oldest,
  ap (λ n. slice_get (answers_on (answered_link l hearing verdict)) n) (sym (equal_now l segment waiting ready oldest aligned))
      ∙ ap (λ (rs : List Reply). slice_get rs (length (answers_on l))) (ready_answers l hearing (record { commands = l.asking.commands; verdicts = l.asking.verdicts ++ verdict ∷ []; against = None }) reply ready replies)
      ∙ get_last (answers_on l) reply,
)

pub answer_on : (l : LinkNow) (hearing : Hearing) (verdict : Verdict) (reply : Reply) (k : ℕ) (r : Reply) → is_ready l ≡ true → hearing.replies ≡ l.hearing.replies ++ reply ∷ [] → slice_get (answers_on l) k ≡ Some r → slice_get (answers_on (answered_link l hearing verdict)) k ≡ Some r
answer_on l hearing verdict reply k r ready replies answer =
    ap (λ (rs : List Reply). slice_get rs k) (ready_answers l hearing (record { commands = l.asking.commands; verdicts = l.asking.verdicts ++ verdict ∷ []; against = None }) reply ready replies) ∙ get_front (answers_on l) (reply ∷ []) k r answer

pub answer_back : (setting : Setting) (file : ℕ) (bytes : List ℕ) (lines : ℕ → List (List ℕ)) (part : ℕ → Part) (l : LinkNow) (hearing : Hearing) (verdict : Verdict) (byte : ℕ) (reply : Reply) (segment : ℕ) (waiting : List ℕ) → IsPosted setting file bytes lines part → is_ready l ≡ true → waiting_of l.asking ≡ segment ∷ waiting → whole_by l.hearing.waiting (l.hearing.rest ++ byte ∷ []) ≡ Some reply → hearing.replies ≡ l.hearing.replies ++ reply ∷ [] → IsValidLink l → IsAligned l →
    IsPostedOn setting file bytes lines part (answered_link l hearing verdict) → IsPostedOn setting file bytes lines part l
answer_back setting file bytes lines part l hearing verdict byte reply segment waiting file_posted ready oldest whole replies valid aligned posted = record {
  whole = λ k other r command answer own code. posted.whole k other r command (answer_on l hearing verdict reply k r ready replies answer) own code;
  begun = λ other range was own fixed.
      (let both : segment ∷ waiting ≡ other ∷ was.0 = sym oldest ∙ was.1 in
      let same : segment ≡ other = cc in
      let here : IsOf setting file segment = subst (λ n. IsOf setting file n) (sym same) own in
      let ended = range_at_end l.hearing.rest byte reply range (body_awaited l l.hearing.waiting (l.hearing.rest ++ byte ∷ []) reply segment waiting refl ready oldest valid whole) fixed in
      let at = answer_here l hearing verdict reply segment waiting ready oldest replies aligned in
      let lines_are : reply.lines ≡ lines segment = posted.whole (length l.asking.verdicts) segment reply at.0 at.1 here ended.0 in
      let is : Some range ≡ Some (record { size = length bytes; first = (part segment).first; last = (part segment).last }) = sym ended.1 ∙ ap range_in lines_are ∙ file_posted.fixes segment here in
      let found : range ≡ record { size = length bytes; first = (part segment).first; last = (part segment).last } = cc in
      found ∙ ap (λ n. record { size = length bytes; first = (part n).first; last = (part n).last }) same);
}

-- ---- all links

module _ (setting : Setting) (file : ℕ) (bytes : List ℕ) (lines : ℕ → List (List ℕ)) (part : ℕ → Part) where
  edit_back : (s : Standing) (i : ℕ) (l now : LinkNow) → slice_get s.links i ≡ Some l → (IsPostedOn setting file bytes lines part now → IsPostedOn setting file bytes lines part l) → ((k : ℕ) (m : LinkNow) → slice_get (edit_at i (λ old. now) s.links) k ≡ Some m → IsPostedOn setting file bytes lines part m) → AnswersArePosted setting file bytes lines part s
  edit_back s i l now here back all k m there = elim (same_or_not k i) [
    | inl e ↦ (let both : Some m ≡ Some l = sym there ∙ ap (λ n. slice_get s.links n) e ∙ here in
        let same : l ≡ m = cc in
        subst (λ (a : LinkNow). IsPostedOn setting file bytes lines part a) same (back (all i now (get_now s.links i l now here))))
    | inr apart ↦ all k m (get-edit_other s.links i k (λ old. now) apart ∙ there)
  ]

  claims_back : (s : Standing) (i : ℕ) (l : LinkNow) (hearing : Hearing) (more : List ℕ) (segment : ℕ) (range : Range) (clash : Option Clash) → slice_get s.links i ≡ Some l → hearing.replies ≡ l.hearing.replies → hearing.rest ≡ l.hearing.rest ++ more → AnswersArePosted setting file bytes lines part (claims_by hearing segment range clash i l s) → AnswersArePosted setting file bytes lines part s
  claims_back s i l hearing more segment range None here replies rest all = edit_back s i l (with_hearing hearing l) here (steps_back setting file bytes lines part l (with_hearing hearing l) (same_steps l hearing l.asking.against more replies rest)) all
  claims_back s i l hearing more segment range (Some clash) here replies rest all =
      let now = with_asking hearing (record { commands = l.asking.commands; verdicts = l.asking.verdicts; against = Some clash }) l in
      edit_back s i l now here (steps_back setting file bytes lines part l now (same_steps l hearing (Some clash) more replies rest)) all

  pub back_cases : (s : Standing) (i : ℕ) (l : LinkNow) → IsPosted setting file bytes lines part → slice_get s.links i ≡ Some l → IsValidLink l → IsAligned l → Cases s i l (λ t. AnswersArePosted setting file bytes lines part t → AnswersArePosted setting file bytes lines part s)
  back_cases s i l posted here valid aligned = record {
    hears = λ hearing more replies rest all. edit_back s i l (with_hearing hearing l) here (steps_back setting file bytes lines part l (with_hearing hearing l) (same_steps l hearing l.asking.against more replies rest)) all;
    claims = λ hearing more segment waiting range replies rest oldest was is all. claims_back s i l hearing more segment range (least_clash 0 (file_at s.entries segment) range.first range.last s.entries) here replies rest all;
    loses = λ hearing more replies rest all. edit_back s i l (with_hearing hearing l) here (steps_back setting file bytes lines part l (with_hearing hearing l) (same_steps l hearing l.asking.against more replies rest)) all;
    opens = λ hearing reply unready replies rest all. edit_back s i l (with_hearing hearing l) here (steps_back setting file bytes lines part l (with_hearing hearing l) (opened_steps l hearing unready valid)) all;
    quits = λ hearing reply heard ready none whole replies rest all. edit_back s i l (with_hearing hearing l) here (steps_back setting file bytes lines part l (with_hearing hearing l) (quit_steps l hearing reply ready none replies aligned)) all;
    answers = λ hearing byte reply segment waiting ready oldest whole replies rest all.
        (let verdict = verdict_of l.asking.against (kept_size (file_at s.entries segment) s.entries) reply in
        edit_back s i l (answered_link l hearing verdict) here (answer_back setting file bytes lines part l hearing verdict byte reply segment waiting posted ready oldest whole replies valid aligned) all);
    says = λ kind unsent o unquit all.
        (let now = with_saying kind unsent (begun_with o l.asking) l in
        edit_back s i l now here (steps_back setting file bytes lines part l now (said_steps l kind unsent o unquit valid aligned)) all);
  }
