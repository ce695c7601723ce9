-- The login at a news server, from the login file that the words name, if they name one.
use Rattle.std.specs.Prelude.{◌≡◌, ◌≤◌, ◌<◌, ℕ, List, length, Option, Some, None, Result, Ok, Err, IsSomeAnd, ⊤}
use Rattle.io_traits.specs.Input.{file_of}
use Rattle.io_traits.specs.declared.blame.Blame.{Blame}
use Rattle.io_traits.specs.declared.blame.Blame.TheVariants as blames
use Rattle.nntp_lines.specs.declared.login.Login.{Login}
use Rattle.lists.specs.Text.{text_lines}
use Rattle.server_logins.specs.Logins.{AreLogins, FindsLogin, IsFirstBroken}
use Rattle.server_logins.specs.declared.logins.ServerLogin.{ServerLogin}
use Rattle.input_files.specs.Reading.{Reading, IsFaultless, IsShortAt, HasFailed, Fits, IsBelow, IsFileAt}
use Rattle.run_ends.specs.declared.end.End.{End}
use Rattle.run_ends.specs.declared.end.End.TheVariants.{InputFault, Short, Limit as Passes, LoginBroken, NoMemory}
use Rattle.run_ends.specs.declared.end.Limit.TheVariants as limits
use Rattle.limits.specs.declared.TheConstants.{MOST_LOGIN_BYTES}

-- how many bytes a login file may have
abbrev pub most_login : ℕ
most_login = MOST_LOGIN_BYTES

-- a text is that of the login file at a path, where the files are told
pub record IsLoginFile (path : List ℕ) (files : Option (List (List ℕ × List ℕ))) (text : List ℕ) : Type 0 where
  pub told : IsFileAt path files text
  pub short : length text ≤ most_login

-- the login at a server: none where no login file is named, and else the one that the file has for it, if it has one
abbrev pub IsLoginAt : List ℕ → Option (List ℕ) → Option (List (List ℕ × List ℕ)) → Option Login → Type 0
IsLoginAt server None files login = login ≡ None
IsLoginAt server (Some path) files login =
    (text : List ℕ) × IsLoginFile path files text × ((logins : List ServerLogin) × AreLogins (text_lines text) logins × FindsLogin logins server login)

-- a length is that of the file at a path, where the files are told
abbrev pub IsFileOfLength : List ℕ → Option (List (List ℕ × List ℕ)) → Option ℕ → Type 0
IsFileOfLength path None current = ⊤
IsFileOfLength path (Some files) current = (bytes : List ℕ) × (file_of path files ≡ Some bytes) × (current ≡ Some (length bytes))

-- a login file was named, which has too many bytes
pub record IsLoginTooLong (named : Option (List ℕ)) (files : Option (List (List ℕ × List ℕ))) (current : Option ℕ) : Type 0 where
  pub path : List ℕ
  pub is_named : named ≡ Some path
  pub long : IsSomeAnd current (λ size. most_login < size)
  pub told : IsFileOfLength path files current

-- a login file was named, and its line of this number is the first that breaks a rule
pub record IsLoginBroken (named : Option (List ℕ)) (files : Option (List (List ℕ × List ℕ))) (number : ℕ) : Type 0 where
  pub path : List ℕ
  pub is_named : named ≡ Some path
  pub text : List ℕ
  pub file : IsLoginFile path files text
  pub broken : IsFirstBroken (text_lines text) number

-- nothing is told of the failed call, or that it was a read, or the opening of the login file
abbrev pub IsLoginCall : Option (List ℕ) → Option Blame → Type 0
IsLoginCall named None = ⊤
IsLoginCall named (Some (blames.Read place)) = ⊤
IsLoginCall named (Some (blames.Open name)) = Some name ≡ named
IsLoginCall named (Some other) = ⊥

-- ---- how it ends

-- What an end without a login says of the input. The file of this length that was opened last, if one was, is no longer than a
-- login file may be, but where it is refused for that.
abbrev pub LoginFails : Option (List ℕ) → Option (List (List ℕ × List ℕ)) → Reading → End → Type 0
LoginFails named files r NoMemory = IsFaultless r × Fits most_login r.current
LoginFails named files r InputFault = HasFailed (IsLoginCall named) r × Fits most_login r.current
LoginFails named files r (Short place) = IsShortAt place r × Fits most_login r.current × IsBelow r.current place
LoginFails named files r (Passes limits.Login) = IsFaultless r × IsLoginTooLong named files r.current
LoginFails named files r (LoginBroken number) = IsFaultless r × Fits most_login r.current × IsLoginBroken named files number
LoginFails named files r other = ⊥

-- the login at a server was found, if there is one, or not
abbrev pub FindsLoginAt : List ℕ → Option (List ℕ) → Option (List (List ℕ × List ℕ)) → Reading → Result (Option Login) End → Type 0
FindsLoginAt server named files r (Ok login) = IsFaultless r × (r.blame_now ≡ r.blame_before) × IsLoginAt server named files login
FindsLoginAt server named files r (Err end) = LoginFails named files r end

-- the text of a login file was read, or not
abbrev pub ReadsLoginFile : List ℕ → Option (List (List ℕ × List ℕ)) → Reading → Result (List ℕ) End → Type 0
ReadsLoginFile path files r (Ok text) = IsFaultless r × (r.blame_now ≡ r.blame_before) × IsLoginFile path files text × (r.current ≡ Some (length text))
ReadsLoginFile path files r (Err end) = LoginFails (Some path) files r end
