-- The test of a server's address is what such an address is.
use Rattle.std.proofs.Common.{◌≡◌, ◌≢◌, ℕ, ◌≤◌, ◌==◌, ◌&&◌, Bool, true, false, List, [], ◌∷◌, ◌++◌, Option, None, Some, length, get_or, refl, sym, ◌∙◌, ap, append_assoc, arith}
use Rattle.std.specs.Prelude.{All, MatchOption, nat_le, not, is_some, if◌then◌else◌, ◌↔◌, IsTrue}
use Rattle.std.specs.Char.{is_ascii_digit}
use Rattle.std.specs.List.{list_all}
use Rattle.std.proofs.lemmas.Bool.{and_from, and_parts, eqb-false, le-leb, leb-true, ne_eqb, not-true, not_from_false}
use Rattle.std.proofs.lemmas.Bool.Decides.{nat_tests}
use Rattle.std.proofs.lemmas.List.Elements.{All-append, All-cons}
use Rattle.numbers.specs.Numbers.{decimal_of, within}
use Rattle.server_logins.specs.Cut.{cut_at}
use Rattle.server_logins.specs.Server.{IsHost, IsPort, IsServer, are_host_and_port, is_host, is_host_byte, is_port, is_server}
use Rattle.server_logins.proofs.CutLaws.{IsWhole, cut_found, cut_says}
use Rattle.server_logins.proofs.WordTests.{digits_in, misses, some_test, test_from_word, word_from_test}

-- ---- ports

port_of : (port : List ℕ) (value : Option ℕ) → decimal_of port ≡ value → is_some (within 1 65535 value) ≡ true → (get_or port 0 0 == 48) ≡ false → IsPort port
port_of port None is some plain = cc
port_of port (Some n) is some plain =
    let limits = and_parts (nat_le 1 n) (nat_le n 65535) (some_test (nat_le 1 n && nat_le n 65535) n some) in
    record { number = n; digits = is; least = leb-true 1 n limits.0; most = leb-true n 65535 limits.1; plain = eqb-false (get_or port 0 0) 48 plain }

port_from_test : (port : List ℕ) → is_port port ≡ true → IsPort port
port_from_test port passed =
    let parts = and_parts (not (get_or port 0 0 == 48)) (is_some (within 1 65535 (decimal_of port))) passed in
    port_of port (decimal_of port) refl parts.1 (not-true (get_or port 0 0 == 48) parts.0)

number_within : (n : ℕ) → 1 ≤ n → n ≤ 65535 → is_some (within 1 65535 (Some n)) ≡ true
number_within n least most = ap (λ b. is_some (if b then Some n else None)) (and_from (nat_le 1 n) (nat_le n 65535) (le-leb 1 n least) (le-leb n 65535 most))

test_from_port : (port : List ℕ) → IsPort port → is_port port ≡ true
test_from_port port is =
    and_from (not (get_or port 0 0 == 48)) (is_some (within 1 65535 (decimal_of port)))
    (not_from_false (get_or port 0 0 == 48) (ne_eqb (get_or port 0 0) 48 is.plain))
    (ap (λ value. is_some (within 1 65535 value)) is.digits ∙ number_within is.number is.least is.most)

-- ---- servers

no_colon : (x : ℕ) → is_host_byte x ≡ true → (x == 58) ≡ false
no_colon x h = grind (arith, nat_tests)

from_cut : (text : List ℕ) (cut : Option (List ℕ × List ℕ)) → MatchOption cut (Unit {0}) (IsWhole 58 text) → are_host_and_port cut ≡ true → IsServer text
from_cut text None says passed = cc
from_cut text (Some cut) says passed =
    let parts = and_parts (is_host cut.0) (is_port cut.1) passed in
    record {
      host = cut.0;
      port = cut.1;
      whole = says ∙ sym (append_assoc cut.0 (58 ∷ []) cut.1);
      host_valid = word_from_test is_host_byte 253 cut.0 parts.0;
      port_valid = port_from_test cut.1 parts.1;
    }

pub server_from_test : (text : List ℕ) → is_server text ≡ true → IsServer text
server_from_test text passed = from_cut text (cut_at 58 text) (cut_says 58 text) passed

pub test_from_server : (text : List ℕ) → IsServer text → is_server text ≡ true
test_from_server text server =
    ap (λ t. are_host_and_port (cut_at 58 t)) (server.whole ∙ append_assoc server.host (58 ∷ []) server.port)
    ∙ ap are_host_and_port (cut_found 58 server.host server.port (misses is_host_byte 58 no_colon server.host server.host_valid.all))
    ∙ and_from (is_host server.host) (is_port server.port) (test_from_word is_host_byte 253 server.host server.host_valid) (test_from_port server.port server.port_valid)

pub server_is_tested : (text : List ℕ) → IsTrue (is_server text) ↔ IsServer text
server_is_tested text = (server_from_test text, test_from_server text)

-- ---- no space stands in one

host_no_space : (x : ℕ) → is_host_byte x ≡ true → (x == 32) ≡ false
host_no_space x h = grind (arith, nat_tests)

digit_no_space : (x : ℕ) → is_ascii_digit x ≡ true → (x == 32) ≡ false
digit_no_space x h = grind (arith, nat_tests)

pub server_misses_space : (text : List ℕ) → IsServer text → All (λ x. (x == 32) ≡ false) text
server_misses_space text server =
    let P : ℕ → Type 0 = λ x. (x == 32) ≡ false in
    rw (server.whole, append_assoc)
    (All-append P server.host (58 ∷ server.port) (misses is_host_byte 32 host_no_space server.host server.host_valid.all)
    (All-cons P 58 server.port refl (misses is_ascii_digit 32 digit_no_space server.port (digits_in server.port server.port_valid.number server.port_valid.digits))))
