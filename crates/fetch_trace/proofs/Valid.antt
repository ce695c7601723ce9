-- Each event keeps what is true of each link.
use Rattle.std.proofs.Common.{◌≡◌, ◌+◌, ◌<◌, ◌≤◌, inl, inr, zero, suc, ℕ, Bool, true, false, ◌||◌, List, [], ◌∷◌, ◌++◌, Option, Some, None, length, drop, map, refl, ap, sym, subst, ◌∙◌, arith, length-append, append-nil}
use Rattle.std.specs.Prelude.{slice_get, cond, is_some, ◌==◌}
use Rattle.nntp_lines.specs.Command.{quit_line, user_line, pass_line, crlf}
use Rattle.io_traits.specs.declared.links.LinkEvent.{LinkEvent}
use Rattle.io_traits.specs.declared.links.LinkEvent.TheVariants as event
use Rattle.nntp_lines.specs.declared.login.Login.{Login}
use Rattle.link_dialog.specs.declared.awaited.Awaited.{Awaited}
use Rattle.link_dialog.specs.declared.awaited.Awaited.TheVariants.{User, Pass, Body, Quit}
use Rattle.link_dialog.specs.Replies.{Reply, why_of_rest}
use Rattle.lists.specs.Edit.{edit_at}
use Rattle.pipeline_core.specs.Pipeline.{next_segment, is_finished}
use Rattle.range_assembler.specs.declared.assembler.Clash.{Clash}
use Rattle.range_assembler.specs.Entries.{least_clash, kept_size}
use Rattle.range_assembler.specs.Claims.{file_at}
use Rattle.fetch_trace.specs.Setting.{Opening, Setting}
use Rattle.fetch_trace.specs.Hearing.{Hearing, after_byte, after_quiet, after_end, read_as, whole_by, is_greeted}
use Rattle.fetch_trace.specs.Verdicts.{Range, Verdict, range_of, verdict_of}
use Rattle.fetch_trace.specs.LinkNow.{LinkNow, Asking, fresh_link, is_over, is_ready, waiting_of, with_hearing, with_asking}
use Rattle.fetch_trace.specs.Standing.{Standing, before_all, pipeline_of, place_from, with_link, by_link, by_place, on_number}
use Rattle.fetch_trace.specs.Due.{Due, body_due, login_by, login_due, ask_or_quit, due_on}
use Rattle.fetch_trace.specs.Moving.{begun_with, awaited_after, is_quit, with_saying, begins, says, sends, loses, answers, claims_by, claims, goes_on, replies_by, hears_byte, is_quiet, is_lost, hears, moved, moved_by, standing_at}
use Rattle.fetch_trace.specs.Valid.{bodies, IsTail, pending_by, pending_of, IsOpeningKinds, IsAwaiting, IsValidLink, IsValid}
use Rattle.fetch_trace.proofs.Lists.{drop-append, drop-more}
use Rattle.fetch_trace.proofs.Calls.{ready_stays}

-- ---- a command

-- whether it went out whole or not, its reply is awaited or pending
said_once : (waiting : List Awaited) (kind : Awaited) (unsent : List ℕ) → (waiting ++ awaited_after kind unsent) ++ pending_by kind unsent ≡ waiting ++ kind ∷ []
said_once waiting kind [] = append-nil (waiting ++ kind ∷ [])
said_once waiting kind (byte ∷ unsent) = ap (λ w. w ++ kind ∷ []) (append-nil waiting)

bodies-append : (segments : List ℕ) (segment : ℕ) → bodies (segments ++ segment ∷ []) ≡ bodies segments ++ Body ∷ []
bodies-append [] segment = refl
bodies-append (first ∷ segments) segment = ap (λ t. Body ∷ t) (bodies-append segments segment)

or_twice : (a b : Bool) → ((a || b) || b) ≡ (a || b)
or_twice true b = refl
or_twice false true = refl
or_twice false false = refl

pub no_tail : (quits : Bool) (tail : List Awaited) → quits ≡ false → IsTail quits tail → tail ≡ []
no_tail quits tail none (inl empty) = empty
no_tail quits tail none (inr some) = let no_way : true ≡ false = sym some.0 ∙ none in cc

-- ---- the command that is sent in part goes on

on_kinds : (b : Bool) (l : LinkNow) (rest : List ℕ) → pending_of l.saying ≡ l.saying.kind ∷ [] → (l.saying.quits || is_quit l.saying.kind) ≡ l.saying.quits → IsAwaiting b l → IsAwaiting b (with_saying l.saying.kind rest l.asking l)
on_kinds true l rest pending said old =
    let P : Bool → Type 0 = λ q. IsTail q old.0 in
    (old.0, subst P (sym said) old.1, said_once l.hearing.waiting l.saying.kind rest ∙ ap (λ t. l.hearing.waiting ++ t) (sym pending) ∙ old.2)
on_kinds false l rest pending said old =
    let same : (l.hearing.waiting ++ awaited_after l.saying.kind rest) ++ pending_by l.saying.kind rest ≡ l.hearing.waiting ++ pending_of l.saying = said_once l.hearing.waiting l.saying.kind rest ∙ ap (λ t. l.hearing.waiting ++ t) (sym pending) in
    let P : List Awaited → Type 0 = λ ks. IsOpeningKinds l.hearing.replies ks in
    (subst P (sym same) old.0, old.1)

valid_on : (l : LinkNow) (rest : List ℕ) → pending_of l.saying ≡ l.saying.kind ∷ [] → IsValidLink l → IsValidLink (with_saying l.saying.kind rest l.asking l)
valid_on l rest pending old = record { few = old.few; kinds = on_kinds (is_ready l) l rest pending old.said old.kinds; said = or_twice l.saying.quits (is_quit l.saying.kind) }

-- ---- a command is begun

body_kinds : (l : LinkNow) (segment : ℕ) (rest : List ℕ) → length l.asking.verdicts ≤ length l.asking.commands → pending_of l.saying ≡ [] → l.saying.quits ≡ false → IsAwaiting true l → IsAwaiting true (with_saying Body rest (begun_with (Some segment) l.asking) l)
body_kinds l segment rest few pending unquit old =
    let was : l.hearing.waiting ≡ bodies (waiting_of l.asking) = sym (append-nil l.hearing.waiting) ∙ ap (λ t. l.hearing.waiting ++ t) (sym pending) ∙ old.2 ∙ ap (λ t. bodies (waiting_of l.asking) ++ t) (no_tail l.saying.quits old.0 unquit old.1) ∙ append-nil (bodies (waiting_of l.asking)) in
    let asked : waiting_of (begun_with (Some segment) l.asking) ≡ waiting_of l.asking ++ segment ∷ [] = drop-append (length l.asking.verdicts) l.asking.commands (segment ∷ []) few in
    ([], inl refl, said_once l.hearing.waiting Body rest ∙ ap (λ w. w ++ Body ∷ []) was ∙ sym (bodies-append (waiting_of l.asking) segment) ∙ ap bodies (sym asked) ∙ sym (append-nil (bodies (waiting_of (begun_with (Some segment) l.asking)))))

valid_body : (setting : Setting) (l : LinkNow) (segment : ℕ) (rest : List ℕ) → pending_of l.saying ≡ [] → l.saying.quits ≡ false → is_ready l ≡ true → IsValidLink l → IsValidLink (with_saying Body rest (begun_with (Some segment) l.asking) l)
valid_body setting l segment rest pending unquit ready old =
    let P : Bool → Type 0 = λ b. IsAwaiting b l in
    let Q : Bool → Type 0 = λ b. IsAwaiting b (with_saying Body rest (begun_with (Some segment) l.asking) l) in
    let few : length l.asking.verdicts ≤ length l.asking.commands = old.few in
    let more = length-append l.asking.commands (segment ∷ []) in
    record {
      few = omega (arith, few, more);
      kinds = subst Q (sym ready) (body_kinds l segment rest few pending unquit (subst P ready old.kinds));
      said = or_twice l.saying.quits (is_quit Body);
    }

quit_now : (l : LinkNow) (rest : List ℕ) → pending_of l.saying ≡ [] → l.saying.quits ≡ false → IsAwaiting true l → IsAwaiting true (with_saying Quit rest l.asking l)
quit_now l rest pending unquit old =
    let was : l.hearing.waiting ≡ bodies (waiting_of l.asking) = sym (append-nil l.hearing.waiting) ∙ ap (λ t. l.hearing.waiting ++ t) (sym pending) ∙ old.2 ∙ ap (λ t. bodies (waiting_of l.asking) ++ t) (no_tail l.saying.quits old.0 unquit old.1) ∙ append-nil (bodies (waiting_of l.asking)) in
    let quits : (l.saying.quits || true) ≡ true = rw unquit refl in
    (Quit ∷ [], inr (quits, refl), said_once l.hearing.waiting Quit rest ∙ ap (λ w. w ++ Quit ∷ []) was)

valid_quit : (l : LinkNow) (rest : List ℕ) → pending_of l.saying ≡ [] → l.saying.quits ≡ false → is_ready l ≡ true → IsValidLink l → IsValidLink (with_saying Quit rest l.asking l)
valid_quit l rest pending unquit ready old =
    let P : Bool → Type 0 = λ b. IsAwaiting b l in
    let Q : Bool → Type 0 = λ b. IsAwaiting b (with_saying Quit rest l.asking l) in
    record { few = old.few; kinds = subst Q (sym ready) (quit_now l rest pending unquit (subst P ready old.kinds)); said = or_twice l.saying.quits (is_quit Quit) }

-- a command of the login, behind the greeting or its answer
abbrev IsLoginDue : List Reply → List ℕ → Due → Type 0
IsLoginDue replies rest due = IsOpeningKinds replies (([] ++ awaited_after due.kind rest) ++ pending_by due.kind rest) × (due.segment ≡ None)

password_kinds : (login : Login) (greeting answer : Reply) (due : Due) (rest : List ℕ) (b : Bool) (password : Due) → password.kind ≡ Pass → password.segment ≡ None → cond b (Some password) None ≡ Some due → IsLoginDue (greeting ∷ answer ∷ []) rest due
password_kinds login greeting answer due rest true password kind segment is =
    let e : password ≡ due = cc in
    subst (λ (d : Due). IsLoginDue (greeting ∷ answer ∷ []) rest d) e (inr (said_once [] password.kind rest ∙ ap (λ (k : Awaited). k ∷ []) kind), segment)
password_kinds login greeting answer due rest false password kind segment is = cc

login_kinds : (login : Login) (replies : List Reply) (due : Due) (rest : List ℕ) → login_by login replies ≡ Some due → IsLoginDue replies rest due
login_kinds login [] due rest is = cc
login_kinds login (greeting ∷ []) due rest is =
    let name : Due = record { kind = User; text = user_line login.user ++ crlf; segment = None } in
    let e : name ≡ due = cc in
    subst (λ (d : Due). IsLoginDue (greeting ∷ []) rest d) e (inr (said_once [] User rest), refl)
login_kinds login (greeting ∷ answer ∷ []) due rest is = password_kinds login greeting answer due rest (answer.code == 381) (record { kind = Pass; text = pass_line login.pass ++ crlf; segment = None }) refl refl is
login_kinds login (greeting ∷ answer ∷ more ∷ replies) due rest is = cc

-- while the opening isn't whole
login_now : (l : LinkNow) (due : Due) (rest : List ℕ) (login : Option Login) (waiting : List Awaited) → l.hearing.waiting ≡ waiting → login_due login l.hearing.replies waiting ≡ Some due → l.asking.commands ≡ [] → IsAwaiting false (with_saying due.kind rest (begun_with due.segment l.asking) l)
login_now l due rest None waiting w is none = cc
login_now l due rest (Some login) (kind ∷ kinds) w is none = cc
login_now l due rest (Some login) [] w is none =
    let found = login_kinds login l.hearing.replies due rest is in
    let P : List Awaited → Type 0 = λ ks. IsOpeningKinds l.hearing.replies ((ks ++ awaited_after due.kind rest) ++ pending_by due.kind rest) in
    let asks : (begun_with due.segment l.asking).commands ≡ [] = ap (λ (o : Option ℕ). (begun_with o l.asking).commands) found.1 ∙ none in
    (subst P (sym w) found.0, asks)

valid_login : (l : LinkNow) (due : Due) (rest : List ℕ) → is_ready l ≡ false → login_due l.opening.login l.hearing.replies l.hearing.waiting ≡ Some due → IsValidLink l → IsValidLink (with_saying due.kind rest (begun_with due.segment l.asking) l)
valid_login l due rest unready is old =
    let P : Bool → Type 0 = λ b. IsAwaiting b l in
    let Q : Bool → Type 0 = λ b. IsAwaiting b (with_saying due.kind rest (begun_with due.segment l.asking) l) in
    let early = subst P unready old.kinds in
    let none : l.asking.commands ≡ [] = early.1 in
    record {
      few = few_by due.segment none old.few;
      kinds = subst Q (sym unready) (login_now l due rest l.opening.login l.hearing.waiting refl is none);
      said = or_twice l.saying.quits (is_quit due.kind);
    }
  where
    few_by : (o : Option ℕ) → l.asking.commands ≡ [] → length l.asking.verdicts ≤ length l.asking.commands → length (begun_with o l.asking).verdicts ≤ length (begun_with o l.asking).commands
    few_by None none few = few
    few_by (Some k) none few = let more = length-append l.asking.commands (k ∷ []) in omega (arith, few, more)

ask_by : (setting : Setting) (l : LinkNow) (due : Due) (rest : List ℕ) (next : Option ℕ) (finished quits : Bool) → l.saying.quits ≡ quits → ask_or_quit setting next finished quits ≡ Some due → pending_of l.saying ≡ [] → is_ready l ≡ true → IsValidLink l → IsValidLink (with_saying due.kind rest (begun_with due.segment l.asking) l)
ask_by setting l due rest next finished true q is pending ready old = cc
ask_by setting l due rest (Some segment) finished false q is pending ready old =
    let e : body_due setting segment ≡ due = cc in
    subst (λ (d : Due). IsValidLink (with_saying d.kind rest (begun_with d.segment l.asking) l)) e (valid_body setting l segment rest pending q ready old)
ask_by setting l due rest None true false q is pending ready old =
    let quit : Due = record { kind = Quit; text = quit_line ++ crlf; segment = None } in
    let e : quit ≡ due = cc in
    subst (λ (d : Due). IsValidLink (with_saying d.kind rest (begun_with d.segment l.asking) l)) e (valid_quit l rest pending q ready old)
ask_by setting l due rest None false false q is pending ready old = cc

due_by : (setting : Setting) (l : LinkNow) (due : Due) (rest : List ℕ) (next : Option ℕ) (finished over ready : Bool) → is_ready l ≡ ready → cond over None (cond ready (ask_or_quit setting next finished l.saying.quits) (login_due l.opening.login l.hearing.replies l.hearing.waiting)) ≡ Some due → pending_of l.saying ≡ [] → IsValidLink l → IsValidLink (with_saying due.kind rest (begun_with due.segment l.asking) l)
due_by setting l due rest next finished true ready r is pending old = cc
due_by setting l due rest next finished false true r is pending old = ask_by setting l due rest next finished l.saying.quits refl is pending r old
due_by setting l due rest next finished false false r is pending old = valid_login l due rest r is old

begins_by : (setting : Setting) (s : Standing) (i : ℕ) (l : LinkNow) (bytes : List ℕ) (o : Option Due) → due_on setting (pipeline_of setting s.links) i l ≡ o → pending_of l.saying ≡ [] → IsValidLink l → IsValidLink (begins bytes o l)
begins_by setting s i l bytes None is pending old = old
begins_by setting s i l bytes (Some due) is pending old =
    due_by setting l due (drop (length bytes) due.text) (next_segment (pipeline_of setting s.links) i) (is_finished (pipeline_of setting s.links)) (is_over l) (is_ready l) refl is pending old

says_by : (setting : Setting) (s : Standing) (i : ℕ) (l : LinkNow) (bytes unsent : List ℕ) → l.saying.unsent ≡ unsent → IsValidLink l → IsValidLink (says setting bytes unsent i l s)
says_by setting s i l bytes [] is old = begins_by setting s i l bytes (due_on setting (pipeline_of setting s.links) i l) refl (ap (λ u. pending_by l.saying.kind u) is) old
says_by setting s i l bytes (byte ∷ unsent) is old = valid_on l (drop (length bytes) (byte ∷ unsent)) (ap (λ u. pending_by l.saying.kind u) is) old

-- ---- what is heard

same_kinds : (b : Bool) (l : LinkNow) (hearing : Hearing) (asking : Asking) → hearing.replies ≡ l.hearing.replies → hearing.waiting ≡ l.hearing.waiting → asking.commands ≡ l.asking.commands → asking.verdicts ≡ l.asking.verdicts → IsAwaiting b l → IsAwaiting b (with_asking hearing asking l)
same_kinds true l hearing asking replies waiting commands verdicts old =
    let due : waiting_of asking ≡ waiting_of l.asking = rw (commands, verdicts) refl in
    (old.0, old.1, ap (λ w. w ++ pending_of l.saying) waiting ∙ old.2 ∙ ap (λ w. bodies w ++ old.0) (sym due))
same_kinds false l hearing asking replies waiting commands verdicts old =
    let P : List Awaited → Type 0 = λ w. IsOpeningKinds l.hearing.replies (w ++ pending_of l.saying) in
    let Q : List Reply → Type 0 = λ rs. IsOpeningKinds rs (hearing.waiting ++ pending_of l.saying) in
    (subst Q (sym replies) (subst P (sym waiting) old.0), commands ∙ old.1)

-- no reply is whole
valid_same : (l : LinkNow) (hearing : Hearing) (asking : Asking) → hearing.replies ≡ l.hearing.replies → hearing.waiting ≡ l.hearing.waiting → asking.commands ≡ l.asking.commands → asking.verdicts ≡ l.asking.verdicts → IsValidLink l → IsValidLink (with_asking hearing asking l)
valid_same l hearing asking replies waiting commands verdicts old =
    let ready : is_greeted l.opening.login hearing.replies ≡ is_ready l = ap (λ rs. is_greeted l.opening.login rs) replies in
    let P : Bool → Type 0 = λ b. IsAwaiting b (with_asking hearing asking l) in
    record {
      few = let few : length l.asking.verdicts ≤ length l.asking.commands = old.few in rw (commands, verdicts) few;
      kinds = subst P (sym ready) (same_kinds (is_ready l) l hearing asking replies waiting commands verdicts old.kinds);
      said = old.said;
    }

-- a reply of the opening is whole
opening_done : (replies : List Reply) (kind : Awaited) (rest : List Awaited) → IsOpeningKinds replies (kind ∷ rest) → rest ≡ []
opening_done [] kind rest is = cc
opening_done (greeting ∷ []) kind rest (inl none) = cc
opening_done (greeting ∷ []) kind rest (inr user) = cc
opening_done (greeting ∷ answer ∷ replies) kind rest (inl none) = cc
opening_done (greeting ∷ answer ∷ replies) kind rest (inr pass) = cc

nothing_due : (replies : List Reply) (reply : Reply) (kinds : List Awaited) → kinds ≡ [] → IsOpeningKinds (replies ++ reply ∷ []) kinds
nothing_due [] reply kinds none = inl none
nothing_due (greeting ∷ []) reply kinds none = inl none
nothing_due (greeting ∷ answer ∷ replies) reply kinds none = inl none

drop_none : {A : Type 0} (n : ℕ) (xs : List A) → xs ≡ [] → drop n xs ≡ []
drop_none zero xs none = none
drop_none (suc n) [] none = refl
drop_none (suc n) (x ∷ xs) none = cc

opened_kinds : (b : Bool) (l : LinkNow) (reply : Reply) (kinds rest : List Awaited) → l.asking.commands ≡ [] → kinds ++ pending_of l.saying ≡ [] → IsAwaiting b (with_hearing (record { replies = l.hearing.replies ++ reply ∷ []; waiting = kinds; rest = []; quiets = 0; over = None }) l)
opened_kinds true l reply kinds rest none empty = ([], inl refl, empty ∙ ap (λ w. bodies w ++ []) (sym (drop_none (length l.asking.verdicts) l.asking.commands none)))
opened_kinds false l reply kinds rest none empty = (nothing_due l.hearing.replies reply (kinds ++ pending_of l.saying) empty, none)

valid_opening : (l : LinkNow) (reply : Reply) (kind : Awaited) (kinds : List Awaited) → is_ready l ≡ false → l.hearing.waiting ≡ kind ∷ kinds → IsValidLink l → IsValidLink (with_hearing (record { replies = l.hearing.replies ++ reply ∷ []; waiting = kinds; rest = []; quiets = 0; over = None }) l)
valid_opening l reply kind kinds unready w old =
    let P : Bool → Type 0 = λ b. IsAwaiting b l in
    let early = subst P unready old.kinds in
    let Q : List Awaited → Type 0 = λ ws. IsOpeningKinds l.hearing.replies (ws ++ pending_of l.saying) in
    let empty : kinds ++ pending_of l.saying ≡ [] = opening_done l.hearing.replies kind (kinds ++ pending_of l.saying) (subst Q w early.0) in
    record { few = old.few; kinds = opened_kinds (is_greeted l.opening.login (l.hearing.replies ++ reply ∷ [])) l reply kinds [] early.1 empty; said = old.said }

-- an answer is whole
behind_some : (n : ℕ) (xs : List ℕ) (x : ℕ) (more : List ℕ) → drop n xs ≡ x ∷ more → n < length xs
behind_some zero [] x more is = cc
behind_some zero (y ∷ xs) x more is = omega arith
behind_some (suc n) [] x more is = cc
behind_some (suc n) (y ∷ xs) x more is = let less : n < length xs = behind_some n xs x more is in omega (arith, less)

-- the rest of the kinds, where the first one's reply was that of QUIT or of a BODY
quit_heard : (quits : Bool) (kind : Awaited) (rest tail : List Awaited) → IsTail quits tail → kind ∷ rest ≡ tail → rest ≡ []
quit_heard quits kind rest tail (inl none) is = cc
quit_heard quits kind rest tail (inr some) is = let e : kind ∷ rest ≡ Quit ∷ [] = is ∙ some.1 in cc

body_heard : (kind : Awaited) (rest : List Awaited) (segment : ℕ) (waiting : List ℕ) (tail : List Awaited) → kind ∷ rest ≡ bodies (segment ∷ waiting) ++ tail → rest ≡ bodies waiting ++ tail
body_heard kind rest segment waiting tail is = cc

valid_answer : (l : LinkNow) (reply : Reply) (verdict : Verdict) (kind : Awaited) (kinds : List Awaited) (segment : ℕ) (waiting : List ℕ) → is_ready l ≡ true → l.hearing.waiting ≡ kind ∷ kinds → waiting_of l.asking ≡ segment ∷ waiting → IsValidLink l → IsValidLink (with_asking (record { replies = l.hearing.replies ++ reply ∷ []; waiting = kinds; rest = []; quiets = 0; over = None }) (record { commands = l.asking.commands; verdicts = l.asking.verdicts ++ verdict ∷ []; against = None }) l)
valid_answer l reply verdict kind kinds segment waiting ready w oldest old =
    let P : Bool → Type 0 = λ b. IsAwaiting b l in
    let was = subst P ready old.kinds in
    let R : Bool → Type 0 = λ b. IsAwaiting b (with_asking (record { replies = l.hearing.replies ++ reply ∷ []; waiting = kinds; rest = []; quiets = 0; over = None }) (record { commands = l.asking.commands; verdicts = l.asking.verdicts ++ verdict ∷ []; against = None }) l) in
    let counted : length (l.asking.verdicts ++ verdict ∷ []) ≡ suc (length l.asking.verdicts) = length-append l.asking.verdicts (verdict ∷ []) ∙ (let e : length l.asking.verdicts + length (verdict ∷ []) ≡ suc (length l.asking.verdicts) = omega arith in e) in
    let left : drop (length (l.asking.verdicts ++ verdict ∷ [])) l.asking.commands ≡ waiting = ap (λ n. drop n l.asking.commands) counted ∙ drop-more (length l.asking.verdicts) l.asking.commands ∙ ap (λ (d : List ℕ). drop 1 d) oldest in
    let all : kind ∷ (kinds ++ pending_of l.saying) ≡ bodies (segment ∷ waiting) ++ was.0 = ap (λ ws. ws ++ pending_of l.saying) (sym w) ∙ was.2 ∙ ap (λ d. bodies d ++ was.0) oldest in
    let less : length l.asking.verdicts < length l.asking.commands = behind_some (length l.asking.verdicts) l.asking.commands segment waiting oldest in
    record {
      few = omega (arith, counted, less);
      kinds = subst R (sym (ready_stays l.opening.login l.hearing.replies reply ready)) (was.0, was.1, body_heard kind (kinds ++ pending_of l.saying) segment waiting was.0 all ∙ ap (λ d. bodies d ++ was.0) (sym left));
      said = old.said;
    }

valid_late : (l : LinkNow) (reply : Reply) (kind : Awaited) (kinds : List Awaited) → is_ready l ≡ true → l.hearing.waiting ≡ kind ∷ kinds → waiting_of l.asking ≡ [] → IsValidLink l → IsValidLink (with_hearing (record { replies = l.hearing.replies ++ reply ∷ []; waiting = kinds; rest = []; quiets = 0; over = None }) l)
valid_late l reply kind kinds ready w none old =
    let P : Bool → Type 0 = λ b. IsAwaiting b l in
    let was = subst P ready old.kinds in
    let R : Bool → Type 0 = λ b. IsAwaiting b (with_hearing (record { replies = l.hearing.replies ++ reply ∷ []; waiting = kinds; rest = []; quiets = 0; over = None }) l) in
    let all : kind ∷ (kinds ++ pending_of l.saying) ≡ was.0 = ap (λ ws. ws ++ pending_of l.saying) (sym w) ∙ was.2 ∙ ap (λ d. bodies d ++ was.0) none in
    let empty : kinds ++ pending_of l.saying ≡ [] = quit_heard l.saying.quits kind (kinds ++ pending_of l.saying) was.0 was.1 all in
    record { few = old.few; kinds = subst R (sym (ready_stays l.opening.login l.hearing.replies reply ready)) ([], inl refl, empty ∙ ap (λ d. bodies d ++ []) (sym none)); said = old.said }

-- ---- all links

edit_valid : (links : List LinkNow) (i : ℕ) (now : LinkNow) → ((k : ℕ) (l : LinkNow) → slice_get links k ≡ Some l → IsValidLink l) → IsValidLink now → (k : ℕ) (l : LinkNow) → slice_get (edit_at i (λ old. now) links) k ≡ Some l → IsValidLink l
edit_valid [] i now all here k l is = cc
edit_valid (a ∷ links) zero now all here zero l is = let e : now ≡ l = cc in subst IsValidLink e here
edit_valid (a ∷ links) zero now all here (suc k) l is = all (suc k) l is
edit_valid (a ∷ links) (suc i) now all here zero l is = all zero l is
edit_valid (a ∷ links) (suc i) now all here (suc k) l is = edit_valid links i now (λ j other. all (suc j) other) here k l is

claims_by_valid : (s : Standing) (i : ℕ) (l : LinkNow) (hearing : Hearing) (segment : ℕ) (range : Range) (clash : Option Clash) → hearing.replies ≡ l.hearing.replies → hearing.waiting ≡ l.hearing.waiting → IsValid s → IsValidLink l → IsValid (claims_by hearing segment range clash i l s)
claims_by_valid s i l hearing segment range None replies waiting all old = edit_valid s.links i (with_hearing hearing l) all (valid_same l hearing l.asking replies waiting refl refl old)
claims_by_valid s i l hearing segment range (Some clash) replies waiting all old =
    let asking : Asking = record { commands = l.asking.commands; verdicts = l.asking.verdicts; against = Some clash } in
    edit_valid s.links i (with_asking hearing asking l) all (valid_same l hearing asking replies waiting refl refl old)

claims_valid : (s : Standing) (i : ℕ) (l : LinkNow) (hearing : Hearing) (before now : Option Range) (waiting : List ℕ) → hearing.replies ≡ l.hearing.replies → hearing.waiting ≡ l.hearing.waiting → IsValid s → IsValidLink l → IsValid (claims hearing before now waiting i l s)
claims_valid s i l hearing None (Some range) (segment ∷ waiting) replies kinds all old =
    claims_by_valid s i l hearing segment range (least_clash 0 (file_at s.entries segment) range.first range.last s.entries) replies kinds all old
claims_valid s i l hearing None (Some range) [] replies kinds all old = edit_valid s.links i (with_hearing hearing l) all (valid_same l hearing l.asking replies kinds refl refl old)
claims_valid s i l hearing None None waiting replies kinds all old = edit_valid s.links i (with_hearing hearing l) all (valid_same l hearing l.asking replies kinds refl refl old)
claims_valid s i l hearing (Some range) now waiting replies kinds all old = edit_valid s.links i (with_hearing hearing l) all (valid_same l hearing l.asking replies kinds refl refl old)

goes_on_valid : (s : Standing) (i : ℕ) (l : LinkNow) (hearing : Hearing) (b : Bool) → hearing.replies ≡ l.hearing.replies → hearing.waiting ≡ l.hearing.waiting → IsValid s → IsValidLink l → IsValid (goes_on hearing b i l s)
goes_on_valid s i l hearing true replies kinds all old = claims_valid s i l hearing (range_of l.hearing.rest) (range_of hearing.rest) (waiting_of l.asking) replies kinds all old
goes_on_valid s i l hearing false replies kinds all old = edit_valid s.links i (with_hearing hearing l) all (valid_same l hearing l.asking replies kinds refl refl old)

loses_valid : (s : Standing) (i : ℕ) (l : LinkNow) (hearing : Hearing) → hearing.replies ≡ l.hearing.replies → hearing.waiting ≡ l.hearing.waiting → IsValid s → IsValidLink l → IsValid (loses hearing i l s)
loses_valid s i l hearing replies kinds all old = edit_valid s.links i (with_hearing hearing l) all (valid_same l hearing l.asking replies kinds refl refl old)

chosen_valid : (b : Bool) (one two : Standing) → IsValid one → IsValid two → IsValid (cond b one two)
chosen_valid true one two first second = first
chosen_valid false one two first second = second

answers_valid : (s : Standing) (i : ℕ) (l : LinkNow) (reply : Reply) (kind : Awaited) (kinds : List Awaited) (waiting : List ℕ) → is_ready l ≡ true → l.hearing.waiting ≡ kind ∷ kinds → waiting_of l.asking ≡ waiting → IsValid s → IsValidLink l → IsValid (answers (record { replies = l.hearing.replies ++ reply ∷ []; waiting = kinds; rest = []; quiets = 0; over = None }) reply waiting i l s)
answers_valid s i l reply kind kinds [] ready w none all old =
    edit_valid s.links i (with_hearing (record { replies = l.hearing.replies ++ reply ∷ []; waiting = kinds; rest = []; quiets = 0; over = None }) l) all (valid_late l reply kind kinds ready w none old)
answers_valid s i l reply kind kinds (segment ∷ waiting) ready w oldest all old =
    let verdict = verdict_of l.asking.against (kept_size (file_at s.entries segment) s.entries) reply in
    edit_valid s.links i (with_asking (record { replies = l.hearing.replies ++ reply ∷ []; waiting = kinds; rest = []; quiets = 0; over = None }) (record { commands = l.asking.commands; verdicts = l.asking.verdicts ++ verdict ∷ []; against = None }) l) all
    (valid_answer l reply verdict kind kinds segment waiting ready w oldest old)

whole_valid : (s : Standing) (i : ℕ) (l : LinkNow) (reply : Reply) (kind : Awaited) (kinds : List Awaited) (b : Bool) → is_ready l ≡ b → l.hearing.waiting ≡ kind ∷ kinds → IsValid s → IsValidLink l → IsValid (replies_by (record { replies = l.hearing.replies ++ reply ∷ []; waiting = kinds; rest = []; quiets = 0; over = None }) (Some reply) b i l s)
whole_valid s i l reply kind kinds true ready w all old = answers_valid s i l reply kind kinds (waiting_of l.asking) ready w refl all old
whole_valid s i l reply kind kinds false ready w all old =
    edit_valid s.links i (with_hearing (record { replies = l.hearing.replies ++ reply ∷ []; waiting = kinds; rest = []; quiets = 0; over = None }) l) all (valid_opening l reply kind kinds ready w old)

reads_valid : (s : Standing) (i : ℕ) (l : LinkNow) (rest : List ℕ) (waiting : List Awaited) (whole : Option Reply) (b : Bool) → is_ready l ≡ b → l.hearing.waiting ≡ waiting → whole_by waiting rest ≡ whole → IsValid s → IsValidLink l → IsValid (replies_by (read_as whole rest l.hearing) whole b i l s)
reads_valid s i l rest waiting None b ready w is all old =
    chosen_valid (is_some (why_of_rest l.hearing.waiting rest)) (loses (read_as None rest l.hearing) i l s) (goes_on (read_as None rest l.hearing) b i l s)
    (loses_valid s i l (read_as None rest l.hearing) refl refl all old) (goes_on_valid s i l (read_as None rest l.hearing) b refl refl all old)
reads_valid s i l rest [] (Some reply) b ready w is all old = cc
reads_valid s i l rest (kind ∷ kinds) (Some reply) b ready w is all old =
    let left : drop 1 l.hearing.waiting ≡ kinds = ap (λ (ws : List Awaited). drop 1 ws) w in
    let P : List Awaited → Type 0 = λ ks. IsValid (replies_by (record { replies = l.hearing.replies ++ reply ∷ []; waiting = ks; rest = []; quiets = 0; over = None }) (Some reply) b i l s) in
    subst P (sym left) (whole_valid s i l reply kind kinds b ready w all old)

pub byte_valid : (byte : ℕ) (s : Standing) (i : ℕ) (l : LinkNow) → IsValid s → IsValidLink l → IsValid (hears_byte byte i l s)
byte_valid byte s i l all old =
    chosen_valid (is_over l) s (replies_by (after_byte byte l.hearing) (whole_by l.hearing.waiting (l.hearing.rest ++ byte ∷ [])) (is_ready l) i l s) all
    (reads_valid s i l (l.hearing.rest ++ byte ∷ []) l.hearing.waiting (whole_by l.hearing.waiting (l.hearing.rest ++ byte ∷ [])) (is_ready l) refl refl refl all old)

-- ---- events

on_link_valid : (f : ℕ → LinkNow → Standing → Standing) (s : Standing) (i : ℕ) (o : Option LinkNow) → slice_get s.links i ≡ o → IsValid s → ((k : ℕ) (l : LinkNow) → IsValidLink l → IsValid (f k l s)) → IsValid (by_link f i o s)
on_link_valid f s i None is all each = all
on_link_valid f s i (Some l) is all each = each i l (all i l is)

on_place_valid : (f : ℕ → LinkNow → Standing → Standing) (s : Standing) (o : Option ℕ) → IsValid s → ((k : ℕ) (l : LinkNow) → IsValidLink l → IsValid (f k l s)) → IsValid (by_place f o s)
on_place_valid f s None all each = all
on_place_valid f s (Some i) all each = on_link_valid f s i (slice_get s.links i) refl all each

on_valid : (f : ℕ → LinkNow → Standing → Standing) (n : ℕ) (s : Standing) → IsValid s → ((k : ℕ) (l : LinkNow) → IsValidLink l → IsValid (f k l s)) → IsValid (on_number f n s)
on_valid f n s all each = on_place_valid f s (place_from 0 n s.links) all each

hears_valid : (bytes : List ℕ) (n : ℕ) (s : Standing) → IsValid s → IsValid (hears bytes n s)
hears_valid [] n s all = all
hears_valid (byte ∷ bytes) n s all = hears_valid bytes n (on_number (hears_byte byte) n s) (on_valid (hears_byte byte) n s all (λ i l old. byte_valid byte s i l all old))

pub sends_valid : (setting : Setting) (bytes : List ℕ) (s : Standing) (i : ℕ) (l : LinkNow) → IsValid s → IsValidLink l → IsValid (sends setting bytes i l s)
sends_valid setting bytes s i l all old =
    chosen_valid (is_over l) s (with_link i (says setting bytes l.saying.unsent i l s) s) all (edit_valid s.links i (says setting bytes l.saying.unsent i l s) all (says_by setting s i l bytes l.saying.unsent refl old))

pub quiet_valid : (patience : ℕ) (s : Standing) (i : ℕ) (l : LinkNow) → IsValid s → IsValidLink l → IsValid (is_quiet patience i l s)
quiet_valid patience s i l all old =
    let hearing = after_quiet patience l.hearing in
    chosen_valid (is_over l) s (cond (is_some hearing.over) (loses hearing i l s) (with_link i (with_hearing hearing l) s)) all
    (chosen_valid (is_some hearing.over) (loses hearing i l s) (with_link i (with_hearing hearing l) s)
    (loses_valid s i l hearing refl refl all old) (edit_valid s.links i (with_hearing hearing l) all (valid_same l hearing l.asking refl refl refl refl old)))

pub lost_valid : (s : Standing) (i : ℕ) (l : LinkNow) → IsValid s → IsValidLink l → IsValid (is_lost i l s)
lost_valid s i l all old = chosen_valid (is_over l) s (loses (after_end l.hearing) i l s) all (loses_valid s i l (after_end l.hearing) refl refl all old)

pub moved_valid : (setting : Setting) (s : Standing) (event : LinkEvent) → IsValid s → IsValid (moved setting s event)
moved_valid setting s (event.Opened n address) all = all
moved_valid setting s (event.Sent n bytes) all = on_valid (sends setting bytes) n s all (λ i l old. sends_valid setting bytes s i l all old)
moved_valid setting s (event.Heard n bytes) all = hears_valid bytes n s all
moved_valid setting s (event.Quiet n) all = on_valid (is_quiet setting.patience) n s all (λ i l old. quiet_valid setting.patience s i l all old)
moved_valid setting s (event.Ended n) all = on_valid is_lost n s all (λ i l old. lost_valid s i l all old)

moved_by_valid : (setting : Setting) (s : Standing) (events : List LinkEvent) → IsValid s → IsValid (moved_by setting s events)
moved_by_valid setting s [] all = all
moved_by_valid setting s (event ∷ events) all = moved_by_valid setting (moved setting s event) events (moved_valid setting s event all)

-- ---- before all events

fresh_kinds : (b : Bool) (opening : Opening) → is_ready (fresh_link opening) ≡ b → IsAwaiting b (fresh_link opening)
fresh_kinds true opening ready = absurd (unready opening.login ready)
  where
    unready : (login : Option Login) → is_greeted login [] ≡ true → ⊥
    unready None e = let no_way : false ≡ true = e in cc
    unready (Some login) e = let no_way : false ≡ true = e in cc
fresh_kinds false opening ready = (refl, refl)

pub start_valid : (openings : List Opening) (k : ℕ) (l : LinkNow) → slice_get (map fresh_link openings) k ≡ Some l → IsValidLink l
start_valid [] k l is = cc
start_valid (opening ∷ openings) zero l is =
    let e : fresh_link opening ≡ l = cc in
    let few : 0 ≤ 0 = omega arith in
    subst IsValidLink e (record { few = few; kinds = fresh_kinds (is_ready (fresh_link opening)) opening refl; said = refl })
start_valid (opening ∷ openings) (suc k) l is = start_valid openings k l is

-- at each moment of each trace
pub always_valid : (setting : Setting) (events : List LinkEvent) → IsValid (standing_at setting events)
always_valid setting events = moved_by_valid setting (before_all setting) events (start_valid setting.openings)
