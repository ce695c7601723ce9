-- Rows of servers and of lines of login files, computed.
use Rattle.std.proofs.Common.{◌≡◌, true, false, List, [], ◌∷◌, ◌++◌, None, Some, refl, ℕ, arith}
use Rattle.std.specs.Prelude.{codes}
use Rattle.server_logins.specs.LoginLine.{login_line_of, server_login}
use Rattle.server_logins.specs.Logins.{AreLogins, IsFirstBroken, login_in, with_line}
use Rattle.server_logins.specs.Server.{is_server}
use Rattle.server_logins.specs.declared.logins.ServerLogin.{ServerLogin}
use Rattle.server_logins.proofs.LoginLaws.{keeps, no_logins, refuses}

-- ---- servers

pub address : is_server (codes "127.0.0.1:1190") ≡ true
address = refl

pub greatest_port : is_server (codes "News-1.example:65535") ≡ true
greatest_port = refl

pub port_too_great : is_server (codes "a:65536") ≡ false
port_too_great = refl

pub port_zero : is_server (codes "a:0") ≡ false
port_zero = refl

pub zero_in_front : is_server (codes "a:0119") ≡ false
zero_in_front = refl

pub no_port : is_server (codes "a") ≡ false
no_port = refl

pub no_host : is_server (codes ":119") ≡ false
no_host = refl

pub two_colons : is_server (codes "a:119:1") ≡ false
two_colons = refl

-- ---- lines

abbrev bob : ServerLogin
bob = server_login (codes "a:119") (codes "bob") (codes "secret")

abbrev eve : ServerLogin
eve = server_login (codes "b:119") (codes "eve") (codes "x")

pub one_line : login_line_of (codes "a:119 bob secret") ≡ Some bob
one_line = refl

pub two_spaces : login_line_of (codes "a:119 bob  secret") ≡ None
two_spaces = refl

pub no_password : login_line_of (codes "a:119 bob") ≡ None
no_password = refl

pub fourth_word : login_line_of (codes "a:119 bob secret more") ≡ None
fourth_word = refl

pub no_server : login_line_of (codes "a bob secret") ≡ None
no_server = refl

-- ---- files

pub other_server : with_line (bob ∷ []) (codes "b:119 eve x") ≡ Some (bob ∷ eve ∷ [])
other_server = refl

pub same_server : with_line (bob ∷ []) (codes "a:119 eve x") ≡ None
same_server = refl

pub empty_line : with_line (bob ∷ []) [] ≡ Some (bob ∷ [])
empty_line = refl

pub listed : login_in (codes "b:119") (bob ∷ eve ∷ []) ≡ Some eve.login
listed = refl

pub not_listed : login_in (codes "b:1190") (bob ∷ eve ∷ []) ≡ None
not_listed = refl

abbrev lines : List (List ℕ)
lines = codes "a:119 bob secret" ∷ [] ∷ codes "b:119 eve x" ∷ codes "a:119 eve x" ∷ []

pub two_logins : AreLogins (codes "a:119 bob secret" ∷ [] ∷ codes "b:119 eve x" ∷ []) (bob ∷ eve ∷ [])
two_logins =
    keeps lines 2 (bob ∷ []) (bob ∷ eve ∷ []) (omega arith)
    (keeps lines 1 (bob ∷ []) (bob ∷ []) (omega arith) (keeps lines 0 [] (bob ∷ []) (omega arith) (no_logins lines) refl) refl) refl

pub server_again : IsFirstBroken lines 4
server_again = refuses lines 3 (bob ∷ eve ∷ []) (omega arith) two_logins refl
