-- A line of a login file: a server, a user and the password there, with one space between two of them.
use Rattle.std.specs.Prelude.{ℕ, Bool, ◌&&◌, nat_le, if◌then◌else◌, List, ◌++◌, length, Option, Some, None, codes}
use Rattle.std.specs.Char.{is_ascii_graphic}
use Rattle.std.specs.List.{list_all}
use Rattle.nntp_lines.specs.LoginWord.{IsLoginWord}
use Rattle.server_logins.specs.Cut.{cut_at}
use Rattle.server_logins.specs.Server.{IsServer, is_server}
use Rattle.server_logins.specs.declared.line.LoginLine.{LoginLine}
use Rattle.server_logins.specs.declared.logins.ServerLogin.{ServerLogin}

-- the line that says it
abbrev pub login_text : ServerLogin → List ℕ
login_text entry = entry.server ++ codes " " ++ entry.login.user ++ codes " " ++ entry.login.pass

-- a login that a line can say
pub record IsServerLogin (entry : ServerLogin) : Type 0 where
  pub server : IsServer entry.server
  pub user : IsLoginWord entry.login.user
  pub pass : IsLoginWord entry.login.pass

-- ---- the reading of a line

-- 1 to 200 printable ASCII characters that are no space, as a test
abbrev pub is_login_word : List ℕ → Bool
is_login_word bytes = nat_le 1 (length bytes) && nat_le (length bytes) 200 && list_all is_ascii_graphic bytes

abbrev pub server_login : List ℕ → List ℕ → List ℕ → ServerLogin
server_login server user pass = record { server = server; login = record { user = user; pass = pass } }

abbrev pub login_of_words : List ℕ → Option (List ℕ × List ℕ) → Option ServerLogin
login_of_words server None = None
login_of_words server (Some words) = if is_login_word words.0 && is_login_word words.1 then Some (server_login server words.0 words.1) else None

abbrev pub login_behind : Option (List ℕ × List ℕ) → Option ServerLogin
login_behind None = None
login_behind (Some cut) = if is_server cut.0 then login_of_words cut.0 (cut_at 32 cut.1) else None

-- what a line says, if it is one of a login file
abbrev pub login_line_of : List ℕ → Option ServerLogin
login_line_of line = login_behind (cut_at 32 line)

-- what was read of a line
abbrev pub line_model : LoginLine → ServerLogin
line_model line = record { server = line.server.now; login = line.login }
