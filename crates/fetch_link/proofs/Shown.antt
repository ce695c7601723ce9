-- Which decoder a link keeps once it is over.
use Rattle.std.proofs.Common.{◌≡◌, ◌≤◌, ℕ, Bool, true, false, List, [], ◌∷◌, Option, Some, None, Result, Ok, Err, refl, ap, sym, subst, ◌∙◌, length, arith}
use Rattle.std.specs.Prelude.{cond, nat_le, is_some, ◌==◌, ◌||◌}
use Rattle.std.specs.Int.{is_in_range}
use Rattle.std.specs.Option.{ok_or}
use Rattle.std.proofs.lemmas.Bool.Decides.{nat_tests}
use Rattle.nntp_lines.specs.StatusLine.{code_of, status_of}
use Rattle.nntp_lines.specs.declared.status.StatusFault.{StatusFault}
use Rattle.nntp_lines.specs.declared.status.StatusFault.TheVariants.{NotACode, TooLong}
use Rattle.nntp_lines.specs.declared.why.Why.{Why}
use Rattle.nntp_lines.specs.declared.why.Why.TheVariants as why
use Rattle.link_dialog.specs.declared.awaited.Awaited.{Awaited}
use Rattle.link_dialog.specs.declared.awaited.Awaited.TheVariants.{Greeting, User, Pass, Post, Article, Group, Over, Body, Quit}
use Rattle.link_dialog.specs.Replies.{first_line, is_meant, refusal_of, judged, judged_code, why_of_rest, why_of_line, why_judged, most}
use Rattle.link_dialog.proofs.BlockSteps.{line_bytes}
use Rattle.range_assembler.specs.declared.assembler.Clash.{Clash}
use Rattle.fused_decoder.specs.declared.state.Fused.{Fused}
use Rattle.fused_decoder.specs.declared.state.Mode.{Mode}
use Rattle.fused_decoder.specs.Stands as decoder
use Rattle.fetch_trace.specs.Hearing.{Hearing}
use Rattle.fetch_trace.specs.Verdicts.{block_behind, block_of}
use Rattle.fetch_link.specs.declared.connection.Connection.{Connection}
use Rattle.fetch_link.specs.declared.connection.Phase.{Phase}
use Rattle.fetch_link.specs.declared.connection.Phase.TheVariants as phase
use Rattle.fetch_link.specs.Shown.{block_awaited, is_shown, block_shown}
use Rattle.fetch_link.specs.Link.{InPhase, KeepsBlock, LinkStands}
use Rattle.fetch_link.proofs.Hearing.{Shows}
use Rattle.fetch_link.proofs.InArticle.{block_behind_status, status_code}

-- ---- the block that is kept

-- behind no whole line there is no block
pub none_awaited : (kinds : List Awaited) (rest : List ℕ) → first_line rest ≡ None → block_awaited kinds rest ≡ None
none_awaited [] rest none = refl
none_awaited (Body ∷ kinds) rest none = ap block_of none
none_awaited (Greeting ∷ kinds) rest none = refl
none_awaited (User ∷ kinds) rest none = refl
none_awaited (Pass ∷ kinds) rest none = refl
none_awaited (Post ∷ kinds) rest none = refl
none_awaited (Article ∷ kinds) rest none = refl
none_awaited (Group ∷ kinds) rest none = refl
none_awaited (Over ∷ kinds) rest none = refl
none_awaited (Quit ∷ kinds) rest none = refl

-- what is kept of it keeps the block
pub keeps : (p : Phase) (c : Connection) (h : Hearing) (mode : Mode) (against : Option Clash) → InPhase p c h mode against → KeepsBlock p c h mode
keeps phase.Line c h mode against was = none_awaited h.waiting h.rest was.0.unfinished
keeps phase.Article c h mode against was = (
  was.block,
  ap (λ (kinds : List Awaited). block_awaited kinds h.rest) was.waiting_is ∙ ap (λ rest. block_of (first_line rest)) was.rest_is ∙ block_behind_status was.status was.block was.line_reader was.line,
  was.stands,
)

keeps_on : (p : Phase) (old new : Connection) (h now : Hearing) (mode : Mode) → new.fused ≡ old.fused → now.waiting ≡ h.waiting → now.rest ≡ h.rest → KeepsBlock p old h mode → KeepsBlock p new now mode
keeps_on phase.Line old new h now mode fused waiting rest was = ap (λ (kinds : List Awaited). block_awaited kinds now.rest) waiting ∙ ap (block_awaited h.waiting) rest ∙ was
keeps_on phase.Article old new h now mode fused waiting rest was =
    (was.0, ap (λ (kinds : List Awaited). block_awaited kinds now.rest) waiting ∙ ap (block_awaited h.waiting) rest ∙ was.1, subst (λ (f : Fused). decoder.HasHeard f was.0 mode) (sym fused) was.2)

-- and so it does once the link is over with nothing more heard
pub over_shows : (old new : Connection) (h now : Hearing) (mode : Mode) (against : Option Clash) → h.over ≡ None → LinkStands old h mode against → new.phase ≡ old.phase → new.fused ≡ old.fused → now.waiting ≡ h.waiting → now.rest ≡ h.rest → Shows new now mode
over_shows old new h now mode against alive stands same_phase fused waiting rest over shown =
    subst (λ (p : Phase). KeepsBlock p new now mode) (sym same_phase) (keeps_on old.phase old new h now mode fused waiting rest (keeps old.phase old h mode against (stands.listens alive).in_phase))

-- ---- a status line that ends the link begins no article

no_code : (o : Option ℕ) (b : Bool) (fault none long : StatusFault) → b ≡ true → cond b (ok_or o none) (Err long) ≡ Err fault → o ≡ None
no_code None b fault none long short is = refl
no_code (Some code) true fault none long short is = cc
no_code (Some code) false fault none long short is = cc

not_read : (line : List ℕ) (fault : StatusFault) → length line ≤ 510 → status_of line ≡ Err fault → code_of line ≡ None
unfolding status_of
not_read line fault short is = let test : nat_le (length line) 510 ≡ true = grind (arith, nat_tests) in no_code (code_of line) (nat_le (length line) 510) fault NotACode TooLong test is

-- a code that isn't meant isn't 222
no_first : (a b : Bool) → (a || b) ≡ false → a ≡ false
no_first true b is = cc
no_first false b is = refl

unmeant : (code : ℕ) (b : Bool) (reason other : Why) → b ≡ is_meant Body code → cond b (Ok code) (Err other) ≡ Err reason → (code == 222) ≡ false
unmeant code true reason other meant is = cc
unmeant code false reason other meant is = no_first (code == 222) (is_in_range 401 499 code) (sym meant)

no_article : (line after : List ℕ) (reason : Why) (found : Result ℕ StatusFault) → length line ≤ 510 → status_of line ≡ found → judged_code Body line found ≡ Err reason → block_behind (code_of line) after ≡ None
no_article line after reason (Err fault) short read is = ap (λ (o : Option ℕ). block_behind o after) (not_read line fault short read)
no_article line after reason (Ok code) short read is =
    let other : (code == 222) ≡ false = unmeant code (is_meant Body code) reason (refusal_of Body code) refl is in
    ap (λ (o : Option ℕ). block_behind o after) (status_code line code read) ∙ ap (λ (b : Bool). cond b (Some after) None) other

ended_by : (bytes line after : List ℕ) (reason : Why) (found : Result ℕ Why) → length bytes ≤ 512 → length line ≤ 510 → judged Body line ≡ found → why_judged bytes found ≡ Some reason → block_behind (code_of line) after ≡ None
ended_by bytes line after reason (Err other) few short read why = no_article line after other (status_of line) short refl read
ended_by bytes line after reason (Ok code) few short read ends =
    let test : nat_le (length bytes) most ≡ true = grind (arith, nat_tests) in
    let no : None ≡ Some reason = sym (ap (λ (b : Bool). cond b None (Some why.TooLong)) test) ∙ ends in cc

body_ended : (bytes : List ℕ) (reason : Why) (found : Option (List ℕ × List ℕ)) → length bytes ≤ 512 → first_line bytes ≡ found → why_of_line Body bytes found ≡ Some reason → block_of found ≡ None
body_ended bytes reason None few is why = refl
body_ended bytes reason (Some line) few is why =
    let long = line_bytes bytes line is in
    ended_by bytes line.0 line.1 reason (judged Body line.0) few (omega (arith, few, long)) refl why

pub line_ends : (kind : Awaited) (kinds : List Awaited) (bytes : List ℕ) (reason : Why) → length bytes ≤ 512 → why_of_rest (kind ∷ []) bytes ≡ Some reason → block_awaited (kind ∷ kinds) bytes ≡ None
line_ends Body kinds bytes reason few why = body_ended bytes reason (first_line bytes) few refl why
line_ends Greeting kinds bytes reason few why = refl
line_ends User kinds bytes reason few why = refl
line_ends Pass kinds bytes reason few why = refl
line_ends Post kinds bytes reason few why = refl
line_ends Article kinds bytes reason few why = refl
line_ends Group kinds bytes reason few why = refl
line_ends Over kinds bytes reason few why = refl
line_ends Quit kinds bytes reason few why = refl

-- ---- the decoder that is shown

kept_by : (c : Connection) (h : Hearing) (mode : Mode) (against : Option Clash) (o : Option Why) → h.over ≡ o → is_shown h.over ≡ true → LinkStands c h mode against → KeepsBlock c.phase c h mode
kept_by c h mode against None over shown stands = keeps c.phase c h mode against (stands.listens over).in_phase
kept_by c h mode against (Some reason) over shown stands = stands.shows (ap (λ (o : Option Why). is_some o) over) shown

pub in_line_none : (c : Connection) (h : Hearing) (mode : Mode) (against : Option Clash) → c.phase ≡ phase.Line → LinkStands c h mode against → block_shown h ≡ None
in_line_none c h mode against line stands = by (is_shown h.over) refl
  where
    by : (b : Bool) → is_shown h.over ≡ b → cond b (block_awaited h.waiting h.rest) None ≡ None
    by true shown = subst (λ (p : Phase). KeepsBlock p c h mode) line (kept_by c h mode against h.over refl shown stands)
    by false hidden = refl

pub hidden_none : (c : Connection) (h : Hearing) (mode : Mode) (against : Option Clash) → is_shown c.over ≡ false → LinkStands c h mode against → block_shown h ≡ None
hidden_none c h mode against hidden stands =
    let test : is_shown h.over ≡ false = ap (λ (o : Option Why). is_shown o) (sym stands.over_is) ∙ hidden in
    ap (λ (b : Bool). cond b (block_awaited h.waiting h.rest) None) test

pub shown_block : (c : Connection) (h : Hearing) (mode : Mode) (against : Option Clash) → c.phase ≡ phase.Article → is_shown c.over ≡ true → LinkStands c h mode against → (block : List ℕ) × (block_shown h ≡ Some block) × decoder.HasHeard c.fused block mode
shown_block c h mode against article shown stands =
    let test : is_shown h.over ≡ true = ap (λ (o : Option Why). is_shown o) (sym stands.over_is) ∙ shown in
    let kept = subst (λ (p : Phase). KeepsBlock p c h mode) article (kept_by c h mode against h.over refl test stands) in
    (kept.0, ap (λ (b : Bool). cond b (block_awaited h.waiting h.rest) None) test ∙ kept.1, kept.2)
