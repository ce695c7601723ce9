-- What is made of a token and a domain is a message-id, and another one for each part.
use Rattle.std.proofs.Common.{◌≡◌, ◌≢◌, ℕ, ◌<◌, ◌≤◌, true, List, ◌++◌, length, refl, arith, lit<, length-append}
use Rattle.std.specs.Prelude.{codes, decimal}
use Rattle.std.specs.Char.{digit_value}
use Rattle.std.proofs.lemmas.Bool.Decides.{nat_tests}
use Rattle.std.proofs.lemmas.Fmt.{decimal_injective, length-decimal-le}
use Rattle.std.proofs.lemmas.List.{append_cancel_left, append_cancel_right}
use Rattle.std.proofs.lemmas.List.Elements.{All-weaker}
use Rattle.nntp_lines.specs.MessageId.{IsMessageId, is_id_byte}
use Rattle.nntp_lines.specs.Word.{IsWord}
use Rattle.article_head.specs.PartId.{IsDomain, IsToken, is_label_byte, is_token_byte, part_id_text}
use Rattle.article_head.proofs.TextLaws.{AllPassed, append_passed, decimal_passed, joined_passed, wider_passed}
use Rattle.limits.specs.declared.TheConstants.{MOST_ID_BYTES, MOST_SEGMENTS}

token_byte : (byte : ℕ) → is_token_byte byte ≡ true → is_id_byte byte ≡ true
token_byte byte h = grind (arith, nat_tests)

label_byte : (byte : ℕ) → is_label_byte byte ≡ true → is_id_byte byte ≡ true
label_byte byte h = grind (arith, nat_tests)

digit_byte : (byte : ℕ) → digit_value byte < 10 → is_id_byte byte ≡ true
digit_byte byte h = grind (arith, nat_tests)

-- ---- message-ids

domain_passed : (domain : List ℕ) → IsDomain domain → AllPassed is_id_byte domain
domain_passed domain h =
    rw h.joined (joined_passed is_id_byte 46 refl h.labels
    (All-weaker (IsWord is_label_byte MOST_ID_BYTES) (AllPassed is_id_byte) (λ label w. wider_passed is_label_byte is_id_byte label_byte label w.all) h.labels h.valid))

number_length : (n : ℕ) → n ≤ MOST_SEGMENTS → length (decimal n) ≤ 6
number_length n most = length-decimal-le 6 n (lit< tt) (omega arith) (omega arith)

pub part_id_is_message_id : (token domain : List ℕ) (part total : ℕ) → IsToken token → IsDomain domain → part ≤ MOST_SEGMENTS → total ≤ MOST_SEGMENTS → IsMessageId (part_id_text token domain part total)
unfolding part_id_text
part_id_is_message_id token domain part total t d p n = record {
  some = let some = t.some in simp length-append (omega arith);
  short =
      let short = t.short in
      let behind = d.short in
      let part_length = number_length part p in
      let total_length = number_length total n in
      simp length-append (omega arith);
  all =
      let number = λ (k : ℕ) (most : k ≤ MOST_SEGMENTS). decimal_passed is_id_byte digit_byte k (omega arith) in
      append_passed is_id_byte (token ++ codes "." ++ decimal part ++ codes "of" ++ decimal total ++ codes "@") domain
      (append_passed is_id_byte (token ++ codes "." ++ decimal part ++ codes "of" ++ decimal total) (codes "@")
      (append_passed is_id_byte (token ++ codes "." ++ decimal part ++ codes "of") (decimal total)
      (append_passed is_id_byte (token ++ codes "." ++ decimal part) (codes "of")
      (append_passed is_id_byte (token ++ codes ".") (decimal part)
      (append_passed is_id_byte token (codes ".") (wider_passed is_token_byte is_id_byte token_byte token t.all) refl)
      (number part p)) refl) (number total n)) refl) (domain_passed domain d);
}

-- ---- different parts

pub ids_differ : (token domain : List ℕ) (part other total : ℕ) → part ≤ MOST_SEGMENTS → other ≤ MOST_SEGMENTS → part ≢ other → part_id_text token domain part total ≢ part_id_text token domain other total
unfolding part_id_text
ids_differ token domain part other total p o differ same =
    let a = append_cancel_right (token ++ codes "." ++ decimal part ++ codes "of" ++ decimal total ++ codes "@") (token ++ codes "." ++ decimal other ++ codes "of" ++ decimal total ++ codes "@") domain same in
    let b = append_cancel_right (token ++ codes "." ++ decimal part ++ codes "of" ++ decimal total) (token ++ codes "." ++ decimal other ++ codes "of" ++ decimal total) (codes "@") a in
    let c = append_cancel_right (token ++ codes "." ++ decimal part ++ codes "of") (token ++ codes "." ++ decimal other ++ codes "of") (decimal total) b in
    let d = append_cancel_right (token ++ codes "." ++ decimal part) (token ++ codes "." ++ decimal other) (codes "of") c in
    let e = append_cancel_left (token ++ codes ".") (decimal part) (decimal other) d in
    differ (decimal_injective part other (omega arith) (omega arith) e)
