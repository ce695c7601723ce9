-- What is made of a token and a domain keeps to the syntax of message-ids.
use Rattle.std.proofs.Common.{◌≡◌, ℕ, ◌<◌, ◌≤◌, ◌==◌, true, List, [], ◌∷◌, ◌++◌, refl, arith, inl, inr, append_assoc, length-append}
use Rattle.std.specs.Prelude.{codes, decimal, ◌⊎◌}
use Rattle.std.specs.Char.{digit_value, is_ascii_alphanumeric}
use Rattle.std.proofs.lemmas.Bool.{eqb-true, or_cases, or_left}
use Rattle.std.proofs.lemmas.Bool.Decides.{nat_tests}
use Rattle.std.proofs.lemmas.Fmt.{decimal_nonempty}
use Rattle.std.proofs.lemmas.List.Elements.{All-cons, All-nil, All-weaker}
use Rattle.nntp_lines.specs.Word.{IsWord}
use Rattle.article_head.specs.PartId.{IsAtom, IsDomain, IsDotAtom, IsMessageIdCore, IsToken, is_atom_byte, is_label_byte, is_token_byte, part_id_text}
use Rattle.article_head.proofs.PartIdLaws.{part_id_is_message_id}
use Rattle.article_head.proofs.TextLaws.{AllPassed, append_passed, decimal_passed, wider_passed}
use Rattle.limits.specs.declared.TheConstants.{MOST_ID_BYTES, MOST_SEGMENTS}

alphanumeric_atom : (byte : ℕ) → is_ascii_alphanumeric byte ≡ true → is_atom_byte byte ≡ true
alphanumeric_atom byte h = or_left (is_ascii_alphanumeric byte) _ h

label_atom : (byte : ℕ) → is_label_byte byte ≡ true → is_atom_byte byte ≡ true
label_atom byte h = by_kind (or_cases (is_ascii_alphanumeric byte) (byte == 45) h)
  where
    by_kind : (is_ascii_alphanumeric byte ≡ true) ⊎ ((byte == 45) ≡ true) → is_atom_byte byte ≡ true
    by_kind (inl letter) = alphanumeric_atom byte letter
    by_kind (inr hyphen) = rw (eqb-true byte 45 hyphen) refl

token_atom : (byte : ℕ) → is_token_byte byte ≡ true → is_atom_byte byte ≡ true
token_atom byte h = by_kind (or_cases (is_label_byte byte) (byte == 95) h)
  where
    by_kind : (is_label_byte byte ≡ true) ⊎ ((byte == 95) ≡ true) → is_atom_byte byte ≡ true
    by_kind (inl label) = label_atom byte label
    by_kind (inr underscore) = rw (eqb-true byte 95 underscore) refl

digit_alphanumeric : (byte : ℕ) → digit_value byte < 10 → is_ascii_alphanumeric byte ≡ true
digit_alphanumeric byte h = grind (arith, nat_tests)

number_passed : (n : ℕ) → n ≤ MOST_SEGMENTS → AllPassed is_atom_byte (decimal n)
number_passed n most = decimal_passed is_atom_byte (λ byte h. alphanumeric_atom byte (digit_alphanumeric byte h)) n (omega arith)

number_is_atom : (part total : ℕ) → part ≤ MOST_SEGMENTS → total ≤ MOST_SEGMENTS → IsAtom (decimal part ++ codes "of" ++ decimal total)
number_is_atom part total p t = (
  let some = decimal_nonempty part (omega arith) in simp length-append (omega arith),
  append_passed is_atom_byte (decimal part ++ codes "of") (decimal total) (append_passed is_atom_byte (decimal part) (codes "of") (number_passed part p) refl) (number_passed total t),
)

left_is_dot_atom : (token : List ℕ) (part total : ℕ) → IsToken token → part ≤ MOST_SEGMENTS → total ≤ MOST_SEGMENTS → IsDotAtom (token ++ codes "." ++ decimal part ++ codes "of" ++ decimal total)
left_is_dot_atom token part total t p n = record {
  atoms = token ∷ (decimal part ++ codes "of" ++ decimal total) ∷ [];
  some = omega arith;
  valid =
      All-cons IsAtom token ((decimal part ++ codes "of" ++ decimal total) ∷ []) (t.some, wider_passed is_token_byte is_atom_byte token_atom token t.all)
      (All-cons IsAtom (decimal part ++ codes "of" ++ decimal total) [] (number_is_atom part total p n) (All-nil IsAtom));
  joined = simp append_assoc;
}

domain_is_dot_atom : (domain : List ℕ) → IsDomain domain → IsDotAtom domain
domain_is_dot_atom domain d = record {
  atoms = d.labels;
  some = d.some;
  valid = All-weaker (IsWord is_label_byte MOST_ID_BYTES) IsAtom (λ label w. (w.some, wider_passed is_label_byte is_atom_byte label_atom label w.all)) d.labels d.valid;
  joined = d.joined;
}

pub part_id_is_core : (token domain : List ℕ) (part total : ℕ) → IsToken token → IsDomain domain → part ≤ MOST_SEGMENTS → total ≤ MOST_SEGMENTS → IsMessageIdCore (part_id_text token domain part total)
unfolding part_id_text
part_id_is_core token domain part total t d p n = record {
  left = token ++ codes "." ++ decimal part ++ codes "of" ++ decimal total;
  right = domain;
  whole = refl;
  left_valid = left_is_dot_atom token part total t p n;
  right_valid = domain_is_dot_atom domain d;
  short = (part_id_is_message_id token domain part total t d p n).short;
}
