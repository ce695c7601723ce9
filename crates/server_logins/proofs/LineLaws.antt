-- A line of a login file says one login, and is read as that.
use Rattle.std.proofs.Common.{◌≡◌, ℕ, ◌==◌, ◌&&◌, Bool, true, false, List, [], ◌∷◌, ◌++◌, Option, None, Some, length, refl, sym, ◌∙◌, ap, append_assoc, arith}
use Rattle.std.specs.Prelude.{All, MatchOption, if◌then◌else◌}
use Rattle.std.specs.Char.{is_ascii_graphic}
use Rattle.std.proofs.lemmas.Bool.{and_from, and_parts, cond-true, cond_both}
use Rattle.std.proofs.lemmas.Bool.Decides.{nat_tests}
use Rattle.server_logins.specs.Cut.{cut_at}
use Rattle.server_logins.specs.LoginLine.{IsServerLogin, is_login_word, login_behind, login_line_of, login_of_words, login_text, server_login}
use Rattle.server_logins.specs.Server.{is_server}
use Rattle.server_logins.specs.declared.logins.ServerLogin.{ServerLogin}
use Rattle.server_logins.proofs.CutLaws.{IsWhole, cut_found, cut_says}
use Rattle.server_logins.proofs.ServerLaws.{server_from_test, server_misses_space, test_from_server}
use Rattle.server_logins.proofs.WordTests.{misses, test_from_word, word_from_test}

-- the line of a login, with its words one behind the other
pub text_of_words : (entry : ServerLogin) → login_text entry ≡ entry.server ++ 32 ∷ (entry.login.user ++ 32 ∷ entry.login.pass)
text_of_words entry =
    append_assoc (entry.server ++ 32 ∷ [] ++ entry.login.user) (32 ∷ []) entry.login.pass
    ∙ append_assoc (entry.server ++ 32 ∷ []) entry.login.user (32 ∷ entry.login.pass)
    ∙ append_assoc entry.server (32 ∷ []) (entry.login.user ++ 32 ∷ entry.login.pass)

-- what a line says, and that it says it
abbrev pub Says : List ℕ → ServerLogin → Type 0
Says line entry = IsServerLogin entry × (line ≡ login_text entry)

words_say : (line server rest : List ℕ) (words : Option (List ℕ × List ℕ)) → line ≡ server ++ 32 ∷ rest → MatchOption words (Unit {0}) (IsWhole 32 rest) → is_server server ≡ true
    → MatchOption (login_of_words server words) (Unit {0}) (Says line)
words_say line server rest None whole says passed = tt
words_say line server rest (Some words) whole says passed =
    cond_both (is_login_word words.0 && is_login_word words.1) (Some (server_login server words.0 words.1)) None (λ o. MatchOption o (Unit {0}) (Says line))
    (λ are_words. let parts = and_parts (is_login_word words.0) (is_login_word words.1) are_words in (
      record { server = server_from_test server passed; user = word_from_test is_ascii_graphic 200 words.0 parts.0; pass = word_from_test is_ascii_graphic 200 words.1 parts.1 },
      whole ∙ ap (λ l. server ++ 32 ∷ l) says ∙ sym (text_of_words (server_login server words.0 words.1)),
    ))
    (λ other. tt)

cut_line_says : (line : List ℕ) (cut : Option (List ℕ × List ℕ)) → MatchOption cut (Unit {0}) (IsWhole 32 line) → MatchOption (login_behind cut) (Unit {0}) (Says line)
cut_line_says line None says = tt
cut_line_says line (Some cut) says =
    cond_both (is_server cut.0) (login_of_words cut.0 (cut_at 32 cut.1)) None (λ o. MatchOption o (Unit {0}) (Says line))
    (λ passed. words_say line cut.0 cut.1 (cut_at 32 cut.1) says (cut_says 32 cut.1) passed)
    (λ other. tt)

-- what is read of a line is what it says
pub line_says : (line : List ℕ) → MatchOption (login_line_of line) (Unit {0}) (Says line)
line_says line = cut_line_says line (cut_at 32 line) (cut_says 32 line)

no_space : (x : ℕ) → is_ascii_graphic x ≡ true → (x == 32) ≡ false
no_space x h = grind (arith, nat_tests)

-- what a line says is read of it
pub line_is_read : (entry : ServerLogin) → IsServerLogin entry → login_line_of (login_text entry) ≡ Some entry
line_is_read entry valid =
    let rest = entry.login.user ++ 32 ∷ entry.login.pass in
    ap (λ line. login_behind (cut_at 32 line)) (text_of_words entry)
    ∙ ap login_behind (cut_found 32 entry.server rest (server_misses_space entry.server valid.server))
    ∙ cond-true (is_server entry.server) (login_of_words entry.server (cut_at 32 rest)) None (test_from_server entry.server valid.server)
    ∙ ap (login_of_words entry.server) (cut_found 32 entry.login.user entry.login.pass (misses is_ascii_graphic 32 no_space entry.login.user valid.user.all))
    ∙ cond-true (is_login_word entry.login.user && is_login_word entry.login.pass) (Some entry) None
    (and_from (is_login_word entry.login.user) (is_login_word entry.login.pass) (test_from_word is_ascii_graphic 200 entry.login.user valid.user) (test_from_word is_ascii_graphic 200 entry.login.pass valid.pass))

-- two logins that one line says are one
pub same_line : (entry other : ServerLogin) → IsServerLogin entry → IsServerLogin other → login_text entry ≡ login_text other → entry ≡ other
same_line entry other valid other_valid same =
    let read : Some entry ≡ Some other = sym (line_is_read entry valid) ∙ ap login_line_of same ∙ line_is_read other other_valid in
    cc
