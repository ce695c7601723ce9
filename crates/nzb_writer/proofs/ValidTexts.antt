-- Names of newsgroups, message-ids and texts without control characters, as the texts of an index.
use Rattle.std.proofs.Common.{◌≡◌, ℕ, zero, suc, ◌-◌, ◌<◌, ◌&&◌, Bool, true, false, List, [], ◌∷◌, length, get_or, refl, arith, ◌∙◌}
use Rattle.std.specs.Prelude.{nat_le}
use Rattle.std.specs.List.{list_all, prefix_len, suffix_len}
use Rattle.std.proofs.lemmas.Bool.{and_from, and_parts, le-leb}
use Rattle.std.proofs.lemmas.Bool.Decides.{nat_tests}
use Rattle.std.proofs.lemmas.List.{take_all}
use Rattle.std.proofs.lemmas.List.Sums.{suffix_len_is}
use Rattle.nntp_lines.specs.GroupName.{IsGroupName, is_group_byte}
use Rattle.nntp_lines.specs.MessageId.{IsMessageId, is_id_byte}
use Rattle.nzb_writer.specs.Markup.{IsTextBytes, is_control, is_message_id, is_white, trimmed}
use Rattle.nzb_writer.specs.Markup as nzb

-- what each byte of a text passes, it passes by a wider test too
pub wider : (narrow wide : ℕ → Bool) → ((byte : ℕ) → narrow byte ≡ true → wide byte ≡ true) → (text : List ℕ) → list_all narrow text ≡ true → list_all wide text ≡ true
wider narrow wide implied [] all = refl
wider narrow wide implied (byte ∷ text) all =
    let parts = and_parts (narrow byte) (list_all narrow text) all in
    and_from (wide byte) (list_all wide text) (implied byte parts.0) (wider narrow wide implied text parts.1)

plain_byte : (byte : ℕ) → nat_le 32 byte ≡ true → is_control byte ≡ false
plain_byte byte h = grind (arith, nat_tests)

group_plain : (byte : ℕ) → is_group_byte byte ≡ true → nat_le 32 byte ≡ true
group_plain byte h = grind (arith, nat_tests)

group_not_white : (byte : ℕ) → is_group_byte byte ≡ true → is_white byte ≡ false
group_not_white byte h = grind (arith, nat_tests)

id_byte_in_nzb : (byte : ℕ) → is_id_byte byte ≡ true → nzb.is_id_byte byte ≡ true
id_byte_in_nzb byte h = grind (arith, nat_tests)

-- no control character stands in a text without a byte below 32
pub plain_text : (text : List ℕ) → list_all (nat_le 32) text ≡ true → IsTextBytes text
plain_text [] all = refl
plain_text (byte ∷ text) all =
    let parts = and_parts (nat_le 32 byte) (list_all (nat_le 32) text) all in
    rw (plain_byte byte parts.0, plain_text text parts.1) refl

passed_at : (test : ℕ → Bool) (text : List ℕ) (i : ℕ) → i < length text → list_all test text ≡ true → test (get_or text i 0) ≡ true
passed_at test [] i inside all = absurd (omega arith)
passed_at test (byte ∷ text) zero inside all = (and_parts (test byte) (list_all test text) all).0
passed_at test (byte ∷ text) (suc i) inside all = passed_at test text i (omega (arith, inside)) ((and_parts (test byte) (list_all test text) all).1)

-- nothing is cut from a text that begins and ends with no white
no_white : (text : List ℕ) → list_all is_group_byte text ≡ true → trimmed text ≡ text
no_white [] all = refl
no_white (byte ∷ text) all =
    let whole : List ℕ = byte ∷ text in
    let first = group_not_white byte ((and_parts (is_group_byte byte) (list_all is_group_byte text) all).0) in
    let front : prefix_len is_white whole ≡ 0 = rw first refl in
    let inside : length whole - 1 < length whole = omega arith in
    let last : suffix_len is_white whole ≡ 0 =
    suffix_len_is is_white whole (length whole) 0 (omega arith) (λ k low high. absurd (omega arith)) (λ some. group_not_white (get_or whole (length whole - 1) 0) (passed_at is_group_byte whole (length whole - 1) inside all))
    ∙ omega arith in
    rw (front, last) (take_all (length whole - 0) whole (omega arith))

pub group_is_valid : (name : List ℕ) → IsGroupName name → IsTextBytes name × (trimmed name ≡ name)
group_is_valid name h = (plain_text name (wider is_group_byte (nat_le 32) group_plain name h.all), no_white name h.all)

pub id_is_valid : (id : List ℕ) → IsMessageId id → is_message_id id ≡ true
id_is_valid id h =
    and_from (nat_le 1 (length id) && nat_le (length id) 248) (list_all nzb.is_id_byte id)
    (and_from (nat_le 1 (length id)) (nat_le (length id) 248) (le-leb 1 (length id) h.some) (le-leb (length id) 248 h.short))
    (wider is_id_byte nzb.is_id_byte id_byte_in_nzb id h.all)
