-- A login file that was read keeps to the rules.
use Rattle.std.proofs.Common.{◌≡◌, ◌<◌, ℕ, List, Option, Some, None, ap, subst, inl, inr, ◌⊎◌, arith, length}
use Rattle.std.specs.Prelude.{IsSomeAnd}
use Rattle.io_traits.specs.Input.{file_of}
use Rattle.nntp_lines.specs.declared.login.Login.{Login}
use Rattle.lists.specs.Text.{text_lines}
use Rattle.server_logins.specs.Logins.{AreLogins, HaveFirstBroken, HaveLogins, IsFirstBroken}
use Rattle.server_logins.specs.declared.logins.ServerLogin.{ServerLogin}
use Rattle.server_logins.proofs.LoginLaws.{logins_or_broken}
use Rattle.usebin_cli.specs.Login.{IsFileOfLength, IsLoginAt, most_login}

pub same_file : (path : List ℕ) (files : List (List ℕ × List ℕ)) (one two : List ℕ) → file_of path files ≡ Some one → file_of path files ≡ Some two → one ≡ two
same_file path files one two first second = cc

-- a login file that was read isn't too long
pub not_long : (server : List ℕ) (path : List ℕ) (named : Option (List ℕ)) (files : List (List ℕ × List ℕ)) (login : Option Login) (current : Option ℕ) → named ≡ Some path → IsLoginAt server named (Some files) login →
    IsSomeAnd current (λ size. most_login < size) → IsFileOfLength path (Some files) current → ⊥
not_long server path None files login current is at_server long told = absurd cc
not_long server path (Some other) files login current is (text, file, logins) long told =
    let path_is : other ≡ path = cc in
    let there = rw path_is at file.told in
    let same : told.0 ≡ text = same_file path files told.0 text told.1 there in
    let more = rw told.2 at long in
    let len : length told.0 ≡ length text = ap (λ (l : List ℕ). length l) same in
    omega (arith, more, file.short, len)

-- and has no line that breaks a rule
has_both : (lines : List (List ℕ)) (logins : List ServerLogin) (number : ℕ) → AreLogins lines logins → IsFirstBroken lines number → HaveLogins lines ⊎ HaveFirstBroken lines → ⊥
has_both lines logins number are broken (inl have) = have.2 number broken
has_both lines logins number are broken (inr have) = have.3 logins are

pub not_broken : (server : List ℕ) (path : List ℕ) (named : Option (List ℕ)) (files : List (List ℕ × List ℕ)) (login : Option Login) (text : List ℕ) (number : ℕ) → named ≡ Some path → IsLoginAt server named (Some files) login →
    file_of path files ≡ Some text → IsFirstBroken (text_lines text) number → ⊥
not_broken server path None files login text number is at_server there broken = absurd cc
not_broken server path (Some other) files login text number is (read, file, logins) there broken =
    let path_is : other ≡ path = cc in
    let found = rw path_is at file.told in
    let same : text ≡ read = same_file path files text read there found in
    has_both (text_lines read) logins.0 number logins.1 (subst (λ (l : List ℕ). IsFirstBroken (text_lines l) number) same broken) (logins_or_broken (text_lines read))
