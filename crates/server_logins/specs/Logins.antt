-- The logins of a file.
use Rattle.std.specs.Prelude.{◌≡◌, ◌≢◌, ℕ, ◌+◌, ◌-◌, ◌≤◌, ◌<◌, Bool, nat_le, if◌then◌else◌, List, [], ◌∷◌, ◌++◌, length, map, take, get_or, filter, Option, Some, None, Result, Ok, Err, All, Contains, ◌⊎◌}
use Rattle.std.specs.Str.{bytes_eq}
use Rattle.nntp_lines.specs.declared.login.Login.{Login}
use Rattle.server_logins.specs.LoginLine.{IsServerLogin, login_line_of, login_text}
use Rattle.server_logins.specs.declared.logins.LoginError.{LoginError}
use Rattle.server_logins.specs.declared.logins.LoginError.TheVariants as errors
use Rattle.server_logins.specs.declared.logins.ServerLogin.{ServerLogin}

abbrev pub is_filled : List ℕ → Bool
is_filled line = nat_le 1 (length line)

abbrev pub servers_of : List ServerLogin → List (List ℕ)
servers_of logins = map (λ entry. entry.server) logins

-- no text stands twice
abbrev pub AreDistinct : List (List ℕ) → Type 0
AreDistinct texts = (i j : ℕ) → i < j → j < length texts → get_or texts i [] ≢ get_or texts j []

-- the lines that aren't empty say these logins, in order, and no two of those have one server
pub record AreLogins (lines : List (List ℕ)) (logins : List ServerLogin) : Type 0 where
  pub said : filter is_filled lines ≡ map login_text logins
  pub valid : All IsServerLogin logins
  pub distinct : AreDistinct (servers_of logins)

-- The line of this number, from 1, is the first that breaks a rule: the lines before it have logins, and with it they have
-- none.
pub record IsFirstBroken (lines : List (List ℕ)) (number : ℕ) : Type 0 where
  pub least : 1 ≤ number
  pub most : number ≤ length lines
  pub before : List ServerLogin
  pub kept : AreLogins (take (number - 1) lines) before
  pub broken : (logins : List ServerLogin) → ¬ AreLogins (take number lines) logins

-- what lines are refused for; want of memory says nothing of them
abbrev pub AreNoLogins : List (List ℕ) → LoginError → Type 0
AreNoLogins lines errors.Memory = Unit {0}
AreNoLogins lines (errors.Broken number) = IsFirstBroken lines number

-- the login at a server, among these logins; nothing where none of them is there
abbrev pub FindsLogin : List ServerLogin → List ℕ → Option Login → Type 0
FindsLogin logins server None = All (λ entry. entry.server ≢ server) logins
FindsLogin logins server (Some login) = (entry : ServerLogin) × Contains logins entry × (entry.server ≡ server) × (entry.login ≡ login)

-- ---- as they are read

-- the login of the first that is at a server
abbrev pub login_in : List ℕ → List ServerLogin → Option Login
login_in server [] = None
login_in server (entry ∷ logins) = if bytes_eq entry.server server then Some entry.login else login_in server logins

-- logins, and one more where their servers are not its own
abbrev pub with_new : List ServerLogin → ServerLogin → Option Login → Option (List ServerLogin)
with_new logins entry None = Some (logins ++ entry ∷ [])
with_new logins entry (Some login) = None

abbrev pub with_said : List ServerLogin → Option ServerLogin → Option (List ServerLogin)
with_said logins None = None
with_said logins (Some entry) = with_new logins entry (login_in entry.server logins)

-- logins, and that of one more line, unless it breaks a rule
abbrev pub with_line : List ServerLogin → List ℕ → Option (List ServerLogin)
with_line logins line = if is_filled line then with_said logins (login_line_of line) else Some logins

-- what the taking of a line leaves
abbrev pub AddsLine : List ServerLogin → List ℕ → ℕ → List ServerLogin → Result (Unit {0}) LoginError → Type 0
AddsLine before line number now (Ok done) = with_line before line ≡ Some now
AddsLine before line number now (Err (errors.Broken place)) = (place ≡ number) × (with_line before line ≡ None)
AddsLine before line number now (Err errors.Memory) = Unit {0}

-- ---- laws

-- lines have one list of logins
abbrev pub LoginsAreOne : Type 0
LoginsAreOne = (lines : List (List ℕ)) (logins other : List ServerLogin) → AreLogins lines logins → AreLogins lines other → logins ≡ other

-- they have logins, and no line of them is the first that breaks a rule
abbrev pub HaveLogins : List (List ℕ) → Type 0
HaveLogins lines = (logins : List ServerLogin) × AreLogins lines logins × ((number : ℕ) → ¬ IsFirstBroken lines number)

-- one line is the first that breaks a rule, and they have no logins
abbrev pub HaveFirstBroken : List (List ℕ) → Type 0
HaveFirstBroken lines =
    (number : ℕ) × IsFirstBroken lines number × ((other : ℕ) → IsFirstBroken lines other → other ≡ number) × ((logins : List ServerLogin) → ¬ AreLogins lines logins)

abbrev pub LoginsOrBroken : Type 0
LoginsOrBroken = (lines : List (List ℕ)) → HaveLogins lines ⊎ HaveFirstBroken lines
