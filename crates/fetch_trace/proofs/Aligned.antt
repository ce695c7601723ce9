-- The k-th answer of a link is that of its k-th command: there are as many answers as verdicts, but for the reply to QUIT.
use Rattle.std.proofs.Common.{◌≡◌, ◌+◌, ◌≤◌, ◌⊎◌, inl, inr, zero, suc, ℕ, Bool, true, false, ◌||◌, List, [], ◌∷◌, ◌++◌, Option, Some, None, length, drop, map, refl, ap, sym, subst, ◌∙◌, arith, length-append}
use Rattle.std.specs.Prelude.{slice_get, cond, ◌==◌, nat_le}
use Rattle.std.proofs.lemmas.Bool.Decides.{nat_tests}
use Rattle.nntp_lines.specs.declared.login.Login.{Login}
use Rattle.link_dialog.specs.declared.awaited.Awaited.{Awaited}
use Rattle.link_dialog.specs.Replies.{Reply}
use Rattle.lists.specs.Edit.{edit_at}
use Rattle.range_assembler.specs.declared.assembler.Clash.{Clash}
use Rattle.range_assembler.specs.Entries.{least_clash, kept_size}
use Rattle.range_assembler.specs.Claims.{file_at}
use Rattle.fetch_trace.specs.Setting.{Opening}
use Rattle.fetch_trace.specs.Hearing.{Hearing, whole_by, opening_length, is_greeted}
use Rattle.fetch_trace.specs.Verdicts.{Range, Verdict, verdict_of}
use Rattle.fetch_trace.specs.LinkNow.{LinkNow, Asking, fresh_link, is_ready, waiting_of, with_hearing, with_asking}
use Rattle.fetch_trace.specs.Standing.{Standing}
use Rattle.fetch_trace.specs.Moving.{begun_with, is_quit, with_saying, claims_by}
use Rattle.fetch_trace.specs.Valid.{bodies, pending_of, IsTail, IsAwaiting, IsValidLink}
use Rattle.fetch_trace.specs.Headline.{answers_on}
use Rattle.fetch_trace.proofs.Lists.{drop-append}
use Rattle.fetch_trace.proofs.Cases.{Cases}

abbrev pub IsAligned : LinkNow → Type 0
IsAligned l = is_ready l ≡ true → (length (answers_on l) ≡ length l.asking.verdicts) ⊎ ((l.saying.quits ≡ true) × ((waiting_of l.asking ≡ []) × (length l.asking.verdicts ≤ length (answers_on l))))

abbrev pub AreAligned : Standing → Type 0
AreAligned s = (k : ℕ) (l : LinkNow) → slice_get s.links k ≡ Some l → IsAligned l

-- ---- the opening

pub opening_stays : (login : Option Login) (replies more : List Reply) → is_greeted login replies ≡ true → opening_length login (replies ++ more) ≡ opening_length login replies
opening_stays None replies more is = refl
opening_stays (Some login) [] more is = cc
opening_stays (Some login) (greeting ∷ []) more is = cc
opening_stays (Some login) (greeting ∷ answer ∷ replies) more is = refl

opening_within : (login : Option Login) (replies : List Reply) → is_greeted login replies ≡ true → opening_length login replies ≤ length replies
opening_within login replies is = grind (arith, nat_tests)

pub answers_grow : (login : Option Login) (replies more : List Reply) → is_greeted login replies ≡ true → drop (opening_length login (replies ++ more)) (replies ++ more) ≡ drop (opening_length login replies) replies ++ more
answers_grow login replies more is =
    ap (λ n. drop n (replies ++ more)) (opening_stays login replies more is) ∙ drop-append (opening_length login replies) replies more (opening_within login replies is)

-- the last reply of the opening is no answer

no_answer : (greeting answer reply : Reply) (b : Bool) → nat_le (cond b 3 2) 2 ≡ false → drop (cond b 3 2) (greeting ∷ answer ∷ reply ∷ []) ≡ []
no_answer greeting answer reply true is = refl
no_answer greeting answer reply false is = cc

no_more : (b : Bool) (n : ℕ) → nat_le (cond b 3 2) (3 + n) ≡ false → ⊥
no_more true n is = let no : nat_le 3 (3 + n) ≡ true = grind (arith, nat_tests) in let bad : true ≡ false = sym no ∙ is in cc
no_more false n is = let no : nat_le 2 (3 + n) ≡ true = grind (arith, nat_tests) in let bad : true ≡ false = sym no ∙ is in cc

second_by : (greeting reply : Reply) (b : Bool) → drop (cond b 3 2) (greeting ∷ reply ∷ []) ≡ []
second_by greeting reply true = refl
second_by greeting reply false = refl

first_done : (n : ℕ) → nat_le 1 (suc n) ≡ false → ⊥
first_done n is = let no : nat_le 1 (suc n) ≡ true = grind (arith, nat_tests) in let bad : true ≡ false = sym no ∙ is in cc

pub opening_only : (login : Option Login) (replies : List Reply) (reply : Reply) → is_greeted login replies ≡ false → drop (opening_length login (replies ++ reply ∷ [])) (replies ++ reply ∷ []) ≡ []
opening_only None [] reply is = refl
opening_only None (greeting ∷ replies) reply is = absurd (first_done (length replies) is)
opening_only (Some login) [] reply is = refl
opening_only (Some login) (greeting ∷ []) reply is = second_by greeting reply (reply.code == 381)
opening_only (Some login) (greeting ∷ answer ∷ []) reply is = no_answer greeting answer reply (answer.code == 381) is
opening_only (Some login) (greeting ∷ answer ∷ more ∷ replies) reply is =
    let n : suc (suc (suc (length replies))) ≡ 3 + length replies = omega arith in
    absurd (no_more (answer.code == 381) (length replies) (ap (λ k. nat_le (cond (answer.code == 381) 3 2) k) (sym n) ∙ is))

-- ---- one link

-- no reply came, and no command
pub same_aligned : (l : LinkNow) (hearing : Hearing) (against : Option Clash) → hearing.replies ≡ l.hearing.replies → IsAligned l → IsAligned (with_asking hearing (record { commands = l.asking.commands; verdicts = l.asking.verdicts; against = against }) l)
same_aligned l hearing against replies old =
    let P : List Reply → Type 0 = λ rs. is_greeted l.opening.login rs ≡ true →
    (length (drop (opening_length l.opening.login rs) rs) ≡ length l.asking.verdicts) ⊎ ((l.saying.quits ≡ true) × ((waiting_of l.asking ≡ []) × (length l.asking.verdicts ≤ length (drop (opening_length l.opening.login rs) rs)))) in
    subst P (sym replies) old

-- before the opening is whole nothing was asked
pub unready_unasked : (l : LinkNow) → is_ready l ≡ false → IsValidLink l → (l.asking.commands ≡ []) × (l.asking.verdicts ≡ [])
unready_unasked l unready valid =
    let P : Bool → Type 0 = λ b. IsAwaiting b l in
    let none : l.asking.commands ≡ [] = (subst P unready valid.kinds).1 in
    let few = valid.few in
    let long : length l.asking.commands ≡ 0 = ap (λ (cs : List ℕ). length cs) none in
    (none, empty l.asking.verdicts (omega (arith, few, long)))
  where
    empty : (vs : List Verdict) → length vs ≤ 0 → vs ≡ []
    empty [] is = refl
    empty (v ∷ vs) is = absurd (omega (arith, is))

pub opened_answers : (l : LinkNow) (hearing : Hearing) (reply : Reply) → is_ready l ≡ false → hearing.replies ≡ l.hearing.replies ++ reply ∷ [] → answers_on (with_hearing hearing l) ≡ []
opened_answers l hearing reply unready replies =
    ap (λ (rs : List Reply). drop (opening_length l.opening.login rs) rs) replies ∙ opening_only l.opening.login l.hearing.replies reply unready

opened_aligned : (l : LinkNow) (hearing : Hearing) (reply : Reply) → is_ready l ≡ false → IsValidLink l → hearing.replies ≡ l.hearing.replies ++ reply ∷ [] → IsAligned (with_hearing hearing l)
opened_aligned l hearing reply unready valid replies ready =
    inl (ap (λ (rs : List Reply). length rs) (opened_answers l hearing reply unready replies) ∙ sym (ap (λ (vs : List Verdict). length vs) (unready_unasked l unready valid).1))

pub ready_answers : (l : LinkNow) (hearing : Hearing) (asking : Asking) (reply : Reply) → is_ready l ≡ true → hearing.replies ≡ l.hearing.replies ++ reply ∷ [] → answers_on (with_asking hearing asking l) ≡ answers_on l ++ reply ∷ []
ready_answers l hearing asking reply ready replies =
    ap (λ (rs : List Reply). drop (opening_length l.opening.login rs) rs) replies ∙ answers_grow l.opening.login l.hearing.replies (reply ∷ []) ready

-- where a reply comes and no command lacks its answer, it is that to QUIT
tail_quits : (quits : Bool) (kinds more : List Awaited) (kind : Awaited) (tail : List Awaited) → IsTail quits tail → kind ∷ kinds ++ more ≡ tail → quits ≡ true
tail_quits quits kinds more kind tail (inl none) is = let no : kind ∷ kinds ++ more ≡ [] = is ∙ none in cc
tail_quits quits kinds more kind tail (inr quit) is = quit.0

has_quit : (l : LinkNow) (waiting : List Awaited) (bytes : List ℕ) (reply : Reply) → l.hearing.waiting ≡ waiting → is_ready l ≡ true → waiting_of l.asking ≡ [] → whole_by waiting bytes ≡ Some reply → IsValidLink l → l.saying.quits ≡ true
has_quit l [] bytes reply is ready none whole valid = cc
has_quit l (kind ∷ kinds) bytes reply is ready none whole valid =
    let P : Bool → Type 0 = λ b. IsAwaiting b l in
    let was = subst P ready valid.kinds in
    let front : kind ∷ kinds ++ pending_of l.saying ≡ was.0 = ap (λ (ws : List Awaited). ws ++ pending_of l.saying) (sym is) ∙ was.2 ∙ ap (λ (d : List ℕ). bodies d ++ was.0) none in
    tail_quits l.saying.quits kinds (pending_of l.saying) kind was.0 was.1 front

pub no_fewer : (l : LinkNow) → is_ready l ≡ true → IsAligned l → length l.asking.verdicts ≤ length (answers_on l)
no_fewer l ready old = elim (old ready) [
  | inl same ↦ omega (arith, same)
  | inr quit ↦ quit.1.1
]

quit_aligned : (l : LinkNow) (hearing : Hearing) (reply : Reply) (bytes : List ℕ) → is_ready l ≡ true → waiting_of l.asking ≡ [] → whole_by l.hearing.waiting bytes ≡ Some reply → hearing.replies ≡ l.hearing.replies ++ reply ∷ [] → IsValidLink l → IsAligned l → IsAligned (with_hearing hearing l)
quit_aligned l hearing reply bytes ready none whole replies valid old now =
    let grown : length (answers_on (with_hearing hearing l)) ≡ length (answers_on l) + 1 = ap (λ (rs : List Reply). length rs) (ready_answers l hearing l.asking reply ready replies) ∙ length-append (answers_on l) (reply ∷ []) in
    let fewer = no_fewer l ready old in
    inr (has_quit l l.hearing.waiting bytes reply refl ready none whole valid, (none, omega (arith, grown, fewer)))

pub equal_now : (l : LinkNow) (segment : ℕ) (waiting : List ℕ) → is_ready l ≡ true → waiting_of l.asking ≡ segment ∷ waiting → IsAligned l → length (answers_on l) ≡ length l.asking.verdicts
equal_now l segment waiting ready oldest old = elim (old ready) [
  | inl same ↦ same
  | inr quit ↦ (let none : waiting_of l.asking ≡ [] = quit.1.0 in let no : [] ≡ segment ∷ waiting = sym none ∙ oldest in cc)
]

answer_aligned : (l : LinkNow) (hearing : Hearing) (reply : Reply) (segment : ℕ) (waiting : List ℕ) (verdict : Verdict) → is_ready l ≡ true → waiting_of l.asking ≡ segment ∷ waiting → hearing.replies ≡ l.hearing.replies ++ reply ∷ [] → IsAligned l → IsAligned (with_asking hearing (record { commands = l.asking.commands; verdicts = l.asking.verdicts ++ verdict ∷ []; against = None }) l)
answer_aligned l hearing reply segment waiting verdict ready oldest replies old now =
    inl (ap (λ (rs : List Reply). length rs) (ready_answers l hearing (record { commands = l.asking.commands; verdicts = l.asking.verdicts ++ verdict ∷ []; against = None }) reply ready replies)
    ∙ length-append (answers_on l) (reply ∷ []) ∙ ap (λ n. n + 1) (equal_now l segment waiting ready oldest old) ∙ sym (length-append l.asking.verdicts (verdict ∷ [])))

or_true : (a b : Bool) → a ≡ true → (a || b) ≡ true
or_true true b is = refl
or_true false b is = cc

said_aligned : (l : LinkNow) (kind : Awaited) (unsent : List ℕ) (o : Option ℕ) → (o ≡ None) ⊎ (l.saying.quits ≡ false) → IsAligned l → IsAligned (with_saying kind unsent (begun_with o l.asking) l)
said_aligned l kind unsent None unquit old ready = elim (old ready) [
  | inl same ↦ inl same
  | inr quit ↦ inr (or_true l.saying.quits (is_quit kind) quit.0, quit.1)
]
said_aligned l kind unsent (Some k) unquit old ready = elim (old ready) [
  | inl same ↦ inl same
  | inr quit ↦ elim unquit [
    | inl none ↦ (let no : Some k ≡ None = none in cc)
    | inr unsaid ↦ (let is = quit.0 in let no : true ≡ false = sym is ∙ unsaid in cc)
  ]
]

-- ---- all links

pub edit_all : (P : LinkNow → Type 0) (links : List LinkNow) (i : ℕ) (now : LinkNow) → ((k : ℕ) (l : LinkNow) → slice_get links k ≡ Some l → P l) → P now → (k : ℕ) (l : LinkNow) → slice_get (edit_at i (λ old. now) links) k ≡ Some l → P l
edit_all P [] i now all here k l is = cc
edit_all P (a ∷ links) zero now all here zero l is = let e : now ≡ l = cc in subst P e here
edit_all P (a ∷ links) zero now all here (suc k) l is = all (suc k) l is
edit_all P (a ∷ links) (suc i) now all here zero l is = all zero l is
edit_all P (a ∷ links) (suc i) now all here (suc k) l is = edit_all P links i now (λ j other. all (suc j) other) here k l is

claims_aligned : (s : Standing) (i : ℕ) (l : LinkNow) (hearing : Hearing) (segment : ℕ) (range : Range) (clash : Option Clash) → hearing.replies ≡ l.hearing.replies → AreAligned s → IsAligned l → AreAligned (claims_by hearing segment range clash i l s)
claims_aligned s i l hearing segment range None replies all old = edit_all IsAligned s.links i (with_hearing hearing l) all (same_aligned l hearing l.asking.against replies old)
claims_aligned s i l hearing segment range (Some clash) replies all old = edit_all IsAligned s.links i (with_asking hearing (record { commands = l.asking.commands; verdicts = l.asking.verdicts; against = Some clash }) l) all (same_aligned l hearing (Some clash) replies old)

pub aligned_cases : (s : Standing) (i : ℕ) (l : LinkNow) → IsValidLink l → AreAligned s → IsAligned l → Cases s i l AreAligned
aligned_cases s i l valid all old = record {
  hears = λ hearing more replies rest. edit_all IsAligned s.links i (with_hearing hearing l) all (same_aligned l hearing l.asking.against replies old);
  claims = λ hearing more segment waiting range replies rest oldest was is. claims_aligned s i l hearing segment range (least_clash 0 (file_at s.entries segment) range.first range.last s.entries) replies all old;
  loses = λ hearing more replies rest. edit_all IsAligned s.links i (with_hearing hearing l) all (same_aligned l hearing l.asking.against replies old);
  opens = λ hearing reply unready replies rest. edit_all IsAligned s.links i (with_hearing hearing l) all (opened_aligned l hearing reply unready valid replies);
  quits = λ hearing reply bytes ready none whole replies rest. edit_all IsAligned s.links i (with_hearing hearing l) all (quit_aligned l hearing reply bytes ready none whole replies valid old);
  answers = λ hearing byte reply segment waiting ready oldest whole replies rest.
      (let verdict = verdict_of l.asking.against (kept_size (file_at s.entries segment) s.entries) reply in
      edit_all IsAligned s.links i (with_asking hearing (record { commands = l.asking.commands; verdicts = l.asking.verdicts ++ verdict ∷ []; against = None }) l) all (answer_aligned l hearing reply segment waiting verdict ready oldest replies old));
  says = λ kind unsent o unquit. edit_all IsAligned s.links i (with_saying kind unsent (begun_with o l.asking) l) all (said_aligned l kind unsent o unquit old);
}

no_replies : (login : Option Login) → length (drop {A = Reply} (opening_length login []) []) ≡ 0
no_replies None = refl
no_replies (Some login) = refl

pub start_aligned : (openings : List Opening) (k : ℕ) (l : LinkNow) → slice_get (map fresh_link openings) k ≡ Some l → IsAligned l
start_aligned [] k l is = cc
start_aligned (opening ∷ openings) zero l is = let e : fresh_link opening ≡ l = cc in subst IsAligned e (λ ready. inl (no_replies opening.login))
start_aligned (opening ∷ openings) (suc k) l is = start_aligned openings k l is
