-- Which command is due on a link: those of its login (RFC 4643, 2.3), BODY (RFC 3977, 6.2.3), and QUIT (RFC 3977, 5.4).
use Rattle.std.specs.Prelude.{ℕ, ◌==◌, Bool, true, false, List, [], ◌∷◌, ◌++◌, Option, Some, None, if◌then◌else◌}
use Rattle.nntp_lines.specs.Command.{body_line, quit_line, user_line, pass_line, crlf}
use Rattle.nntp_lines.specs.declared.login.Login.{Login}
use Rattle.link_dialog.specs.declared.awaited.Awaited.{Awaited}
use Rattle.link_dialog.specs.declared.awaited.Awaited.TheVariants.{Body, User, Pass, Quit}
use Rattle.link_dialog.specs.Replies.{Reply}
use Rattle.pipeline_core.specs.PipelineAt.{Pipeline}
use Rattle.pipeline_core.specs.Pipeline.{next_segment, is_finished}
use Rattle.fetch_trace.specs.Setting.{Setting}
use Rattle.fetch_trace.specs.LinkNow.{LinkNow, is_over, is_ready}

-- a command, what its reply answers, and the segment that a BODY asks for
pub record Due : Type 0 where
  pub kind : Awaited
  pub text : List ℕ
  pub segment : Option ℕ

-- The commands of a login: the name of the user once the greeting is there, and the password where it was asked for (RFC 4643, 2.3).
abbrev pub login_by : Login → List Reply → Option Due
login_by login [] = None
login_by login (greeting ∷ []) = Some (record { kind = User; text = user_line login.user ++ crlf; segment = None })
login_by login (greeting ∷ answer ∷ []) = if answer.code == 381 then Some (record { kind = Pass; text = pass_line login.pass ++ crlf; segment = None }) else None
login_by login (greeting ∷ answer ∷ more ∷ replies) = None

abbrev pub login_due : Option Login → List Reply → List Awaited → Option Due
login_due (Some login) replies [] = login_by login replies
login_due (Some login) replies (kind ∷ kinds) = None
login_due None replies waiting = None

abbrev pub body_due : Setting → ℕ → Due
body_due setting segment = record { kind = Body; text = body_line (setting.id segment) ++ crlf; segment = Some segment }

-- the next segment's command, or QUIT once each segment has arrived or is exhausted; nothing follows QUIT
abbrev pub ask_or_quit : Setting → Option ℕ → Bool → Bool → Option Due
ask_or_quit setting next finished true = None
ask_or_quit setting (Some segment) finished false = Some (body_due setting segment)
ask_or_quit setting None true false = Some (record { kind = Quit; text = quit_line ++ crlf; segment = None })
ask_or_quit setting None false false = None

-- the command that may be begun on a link that isn't over, where none is sent in part
abbrev pub due_on : Setting → Pipeline → ℕ → LinkNow → Option Due
due_on setting p i l =
    if is_over l then None
    else (if is_ready l then ask_or_quit setting (next_segment p i) (is_finished p) l.saying.quits
    else login_due l.opening.login l.hearing.replies l.hearing.waiting)
