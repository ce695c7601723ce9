-- A post, step by step: the login, the lines of its parts, and what was noted and written of it.
use Rattle.std.proofs.Common.{◌≡◌, ◌≤◌, ◌<◌, ◌+◌, ℕ, suc, zero, List, [], ◌∷◌, ◌++◌, Option, Some, None, refl, inl, inr, sym, ap, ◌∙◌, subst, arith, length, take, get_or, append-nil, append_assoc}
use Rattle.std.proofs.Math.Nat.{div-le_self}
use Rattle.std.specs.Prelude.{IfSome, OnSome}
use Rattle.command_words.specs.CommandLine.Words.{Asks}
use Rattle.command_words.specs.CommandLine.Command.{Post}
use Rattle.command_words.specs.Post.{PostAsked}
use Rattle.input_files.specs.Reading.{Reading, Fits, HasFailed}
use Rattle.io_traits.specs.declared.blame.Blame.{Blame}
use Rattle.io_traits.specs.declared.blame.Blame.TheVariants as blames
use Rattle.poster.specs.declared.index.Sent.{Sent}
use Rattle.run_ends.specs.declared.end.End.{End}
use Rattle.run_ends.specs.declared.end.End.TheVariants.{InputFault, Short, Limit as Passes, LoginBroken, NoMemory, Refused}
use Rattle.run_ends.specs.declared.end.Limit.TheVariants as limits
use Rattle.yenc_body.specs.Parts.{most_parts, parts_of}
use Rattle.usebin_cli.specs.Linked.{Linked, OpenedNone}
use Rattle.usebin_cli.specs.Login.{IsLoginCall, LoginFails, most_login}
use Rattle.usebin_cli.specs.Post.{FitsPost, IsPlanned, IsPostCall, IsPosted, IsWholeEnd, Posts, posted_text}
use Rattle.usebin_cli.specs.PostText.{part_line, part_lines}
use Rattle.usebin_cli.specs.Run.{HasEnded}
use Rattle.usebin_cli.specs.Steps.{Runs, Stops, TellsPosted}
use Rattle.usebin_cli.specs.Writing.{Written, IsUntouched, Told, WroteWhole}
use Rattle.usebin_cli.specs.declared.ended.Ended.{Ended}
use Rattle.usebin_cli.specs.declared.post.PlannedFile.{PlannedFile}
use Rattle.usebin_cli.specs.declared.post.PostedFile.{PostedFile}
use Rattle.usebin_cli.proofs.EndLaws.{nothing_noted, wrote_behind}

-- ---- the login

-- a failed call on the login file is one of a post
login_call : (asked : PostAsked) (blame : Option Blame) → IsLoginCall asked.login blame → IsPostCall asked blame
login_call asked None is = tt
login_call asked (Some (blames.Read place)) is = tt
login_call asked (Some (blames.Open name)) is = inr is
login_call asked (Some other) is = absurd is

blamed : (asked : PostAsked) (before now : Option (Option Blame)) → OnSome before (IfSome now (IsLoginCall asked.login)) → OnSome before (IfSome now (IsPostCall asked))
blamed asked None now is = tt
blamed asked (Some before) None is = tt
blamed asked (Some before) (Some blame) is = login_call asked blame is

login_failed : (asked : PostAsked) (r : Reading) → HasFailed (IsLoginCall asked.login) r → HasFailed (IsPostCall asked) r
login_failed asked r x = record { faults = x.faults; shorts = x.shorts; blamed = blamed asked r.blame_before r.blame_now x.blamed }

-- a file that is no longer than a login file may be could be posted
few_parts : (size part_size : ℕ) → size ≤ most_login → parts_of size part_size ≤ most_parts
few_parts size part_size fits = omega (arith, fits, div-le_self size part_size)

login_fits : (asked : PostAsked) (current : Option ℕ) → Fits most_login current → FitsPost asked current
login_fits asked None fits = tt
login_fits asked (Some size) fits = (omega (arith, fits), few_parts size asked.part_size fits)

-- no login was found, and no link was opened
pub no_login : (asked : PostAsked) (files : Option (List (List ℕ × List ℕ))) (r : Reading) (end : End) → LoginFails asked.login files r end → (moment : ℕ) (t : Linked) → OpenedNone t → Stops (Asks (Post asked)) (Posts asked files moment r t) r end
no_login asked files r NoMemory fails = λ moment t none w silent. (record { may = tt; read = fails.0; kept = login_fits asked r.current fails.1; wrote = silent; noted = refl }, inl (inl none))
no_login asked files r InputFault fails = λ moment t none w silent. (record { may = tt; read = (fails.0.faults, fails.0.shorts); kept = login_fits asked r.current fails.1; wrote = silent; noted = refl }, (login_failed asked r fails.0, inl none))
no_login asked files r (Short place) fails = λ moment t none w silent. (record { may = tt; read = fails.0; kept = login_fits asked r.current fails.1; wrote = silent; noted = refl }, (fails.2, inl none))
no_login asked files r (Passes limits.Login) fails = λ moment t none w silent. (record { may = tt; read = fails.0; kept = tt; wrote = silent; noted = refl }, (fails.1, none))
no_login asked files r (LoginBroken number) fails = λ moment t none w silent. (record { may = tt; read = fails.0; kept = login_fits asked r.current fails.1; wrote = silent; noted = refl }, (fails.2, none))
no_login asked files r other fails = absurd fails

-- ---- the lines of parts

-- one part more
pub one_line_more : (number k : ℕ) (sent : List Sent) (none : Sent) → k < length sent → part_lines number (take (k + 1) sent) ≡ part_lines number (take k sent) ++ part_line (number + k) (get_or sent k none).end
one_line_more number k [] none inside = absurd (omega (arith, inside))
one_line_more number zero (s ∷ sent) none inside =
    let same : number + 0 ≡ number = omega arith in
    rw same (append-nil (part_line number s.end))
one_line_more number (suc k) (s ∷ sent) none inside =
    let more = one_line_more (number + 1) k sent none (omega (arith, inside)) in
    let same : number + 1 + k ≡ number + suc k = omega arith in
    let one : suc k + 1 ≡ suc (k + 1) = omega arith in
    rw one (ap (λ l. part_line number s.end ++ l) (rw same at more) ∙ sym (append_assoc (part_line number s.end) (part_lines (number + 1) (take k sent)) (part_line (number + suc k) (get_or sent k none).end)))

-- ---- what was noted and written

-- a file that was planned isn't too large
planned_fits : (asked : PostAsked) (files : Option (List (List ℕ × List ℕ))) (current : Option ℕ) (content : Option (List ℕ)) (file : PlannedFile) → IsPlanned asked files current content file → FitsPost asked current
planned_fits asked files current content file is =
    rw is.opened (is.plan_is.few_bytes, rw is.settings_are at is.plan_is.few_parts)

pub posted_fits : (asked : PostAsked) (files : Option (List (List ℕ × List ℕ))) (r : Reading) (t : Linked) (posted : PostedFile) → IsPosted asked files r t posted → FitsPost asked r.current
posted_fits asked files r t posted is = planned_fits asked files r.current is.content posted.file is.planned

-- the end where the text of the index was written whole
at_whole : (asked : PostAsked) (files : Option (List (List ℕ × List ℕ))) (moment : ℕ) (r : Reading) (t : Linked) (w : Written) (posted : PostedFile) (whole : End) → IsPosted asked files r t posted → posted.refused ≡ None →
    IsWholeEnd posted.sent whole → WroteWhole (posted_text posted moment) w → HasEnded (Asks (Post asked)) r w (Some (part_lines 1 posted.sent)) whole × Posts asked files moment r t w (Some (part_lines 1 posted.sent)) whole
at_whole asked files moment r t w posted whole is permitted (inl all) wrote =
    subst (λ (end : End). HasEnded (Asks (Post asked)) r w (Some (part_lines 1 posted.sent)) end × Posts asked files moment r t w (Some (part_lines 1 posted.sent)) end) (sym all.0)
    (record { may = tt; read = is.faultless; kept = posted_fits asked files r t posted is; wrote = wrote.faults; noted = tt }, (posted, record { is_posted = is; permitted = permitted; written = wrote; noted = refl }, all.1))
at_whole asked files moment r t w posted whole is permitted (inr some) wrote =
    subst (λ (end : End). HasEnded (Asks (Post asked)) r w (Some (part_lines 1 posted.sent)) end × Posts asked files moment r t w (Some (part_lines 1 posted.sent)) end) (sym some.0)
    (record { may = tt; read = is.faultless; kept = posted_fits asked files r t posted is; wrote = wrote.faults; noted = tt }, (posted, record { is_posted = is; permitted = permitted; written = wrote; noted = refl }, some.1))

-- POST was refused, and the parts were noted
pub was_refused : (asked : PostAsked) (files : Option (List (List ℕ × List ℕ))) (moment : ℕ) (r : Reading) (t : Linked) (w e : Written) (posted : PostedFile) (ended : Ended) (code : ℕ) → IsPosted asked files r t posted →
    posted.refused ≡ Some code → ended.end ≡ Refused code → IsUntouched w → Told ended.is_told (part_lines 1 posted.sent) e → Runs (Asks (Post asked)) (Posts asked files moment r t) r w e ended
was_refused asked files moment r t w e posted ended code is refusal end_is silent told = record {
  note = Some (part_lines 1 posted.sent);
  noted = told;
  common = subst (λ (end : End). HasEnded (Asks (Post asked)) r w (Some (part_lines 1 posted.sent)) end) (sym end_is)
      (record { may = tt; read = is.faultless; kept = posted_fits asked files r t posted is; wrote = silent; noted = tt });
  so = subst (λ (end : End). Posts asked files moment r t w (Some (part_lines 1 posted.sent)) end) (sym end_is) (record { posted = posted; is_posted = is; refusal = refusal; noted = refl });
}

-- what was posted was noted, and its index written, or not for want of memory or since POST was refused
pub told : (asked : PostAsked) (files : Option (List (List ℕ × List ℕ))) (moment : ℕ) (r : Reading) (t : Linked) (w e : Written) (posted : PostedFile) (ended : Ended) → IsPosted asked files r t posted → TellsPosted posted moment w e ended →
    Runs (Asks (Post asked)) (Posts asked files moment r t) r w e ended
told asked files moment r t w e posted ended is (inl x) =
    nothing_noted (Asks (Post asked)) (Posts asked files moment r t) r w e NoMemory ended x.0 x.1 x.3
    (record { may = tt; read = is.faultless; kept = posted_fits asked files r t posted is; wrote = x.2; noted = refl }) (inr (posted, is))
told asked files moment r t w e posted ended is (inr (inl (code, refusal, end_is, silent, noted))) = was_refused asked files moment r t w e posted ended code is refusal end_is silent noted
told asked files moment r t w e posted ended is (inr (inr (whole, permitted, whole_is, x))) =
    wrote_behind (Asks (Post asked)) (Posts asked files moment r t) r w e (part_lines 1 posted.sent) (posted_text posted moment) whole ended x
    (λ wrote. at_whole asked files moment r t w posted whole is permitted whole_is wrote)
    (λ wrote. (record { may = tt; read = is.faultless; kept = posted_fits asked files r t posted is; wrote = wrote.faults; noted = tt }, (posted, record { is_posted = is; permitted = permitted; written = wrote; noted = refl })))
