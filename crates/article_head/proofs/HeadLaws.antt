-- The lines of a head are lines of fields.
use Rattle.std.proofs.Common.{◌≡◌, ℕ, ◌<◌, ◌≤◌, ◌==◌, true, List, [], ◌∷◌, ◌++◌, length, refl, arith, lit<, lit≤, append_assoc, length-append}
use Rattle.std.specs.Prelude.{codes, decimal, All, not}
use Rattle.std.specs.Char.{digit_value, is_ascii_graphic}
use Rattle.std.specs.List.{list_all, list_any, join_with_byte}
use Rattle.std.proofs.lemmas.Bool.{and_parts}
use Rattle.std.proofs.lemmas.Bool.Decides.{nat_tests}
use Rattle.std.proofs.lemmas.Fmt.{length-decimal-le}
use Rattle.std.proofs.lemmas.List.Elements.{All-cons, All-head, All-nil, All-weaker}
use Rattle.nntp_lines.specs.Command.{is_printable}
use Rattle.nntp_lines.specs.GroupName.{IsGroupName, is_group_byte}
use Rattle.nntp_lines.specs.MessageId.{IsMessageId, is_id_byte}
use Rattle.article_head.specs.Field.{IsComment, IsFileName, IsFrom, IsNewsgroups, is_trimmed}
use Rattle.article_head.specs.Head.{IsFieldLine, from_line, head_lines, message_id_line, newsgroups_line, subject_line}
use Rattle.article_head.specs.Subject.{comment_text, subject_text}
use Rattle.article_head.proofs.TextLaws.{AllPassed, append_passed, decimal_passed, joined_passed, one_passed, shown_last, wider_passed}

-- ---- appending the head

-- five lines, appended one after the other
pub five_appended : (old first second third fourth new : List (List ℕ)) (a b c d e : List ℕ) → first ≡ old ++ a ∷ [] → second ≡ first ++ b ∷ [] → third ≡ second ++ c ∷ []
    → fourth ≡ third ++ d ∷ [] → new ≡ fourth ++ e ∷ [] → new ≡ old ++ a ∷ b ∷ c ∷ d ∷ e ∷ []
five_appended old first second third fourth new a b c d e pa pb pc pd pe = simp (pe, pd, pc, pb, pa, append_assoc)

-- ---- bytes

graphic_printable : (byte : ℕ) → is_ascii_graphic byte ≡ true → is_printable byte ≡ true
graphic_printable byte h = grind (arith, nat_tests)

group_byte_graphic : (byte : ℕ) → is_group_byte byte ≡ true → is_ascii_graphic byte ≡ true
group_byte_graphic byte h = grind (arith, nat_tests)

id_byte_graphic : (byte : ℕ) → is_id_byte byte ≡ true → is_ascii_graphic byte ≡ true
id_byte_graphic byte h = grind (arith, nat_tests)

digit_printable : (byte : ℕ) → digit_value byte < 10 → is_printable byte ≡ true
digit_printable byte h = grind (arith, nat_tests)

no_space_graphic : (byte : ℕ) → is_printable byte ≡ true → not (byte == 32) ≡ true → is_ascii_graphic byte ≡ true
no_space_graphic byte h s = grind (arith, nat_tests)

printable_from_graphic : (text : List ℕ) → AllPassed is_ascii_graphic text → AllPassed is_printable text
printable_from_graphic = wider_passed is_ascii_graphic is_printable graphic_printable

-- ---- texts

-- a text with no space at its ends isn't made of spaces
text_shows : (text : List ℕ) → 1 ≤ length text → AllPassed is_printable text → is_trimmed text ≡ true → list_any is_ascii_graphic text ≡ true
text_shows [] some printable trimmed = absurd (omega arith)
text_shows (byte ∷ text) some printable trimmed =
    let visible = no_space_graphic byte ((and_parts (is_printable byte) (list_all is_printable text) printable).0) ((and_parts (not (byte == 32)) _ trimmed).0) in
    rw visible refl

newsgroups_graphic : (newsgroups : List ℕ) → IsNewsgroups newsgroups → AllPassed is_ascii_graphic newsgroups
newsgroups_graphic newsgroups h =
    rw h.joined (joined_passed is_ascii_graphic 44 refl h.names
    (All-weaker IsGroupName (AllPassed is_ascii_graphic) (λ name w. wider_passed is_group_byte is_ascii_graphic group_byte_graphic name w.all) h.names h.valid))

joined_some : (names : List (List ℕ)) → 1 ≤ length names → All IsGroupName names → 1 ≤ length (join_with_byte 44 names)
joined_some [] some valid = absurd (omega arith)
joined_some (name ∷ []) some valid = (All-head IsGroupName name [] valid).some
joined_some (name ∷ next ∷ names) some valid =
    let first = (All-head IsGroupName name (next ∷ names) valid).some in
    simp length-append (omega arith)

newsgroups_some : (newsgroups : List ℕ) → IsNewsgroups newsgroups → 1 ≤ length newsgroups
newsgroups_some newsgroups h = rw h.joined (joined_some h.names h.some h.valid)

comment_printable : (comment : List ℕ) → AllPassed is_printable comment → AllPassed is_printable (comment_text comment)
comment_printable [] printable = refl
comment_printable (c ∷ comment) printable = append_passed is_printable (c ∷ comment) (codes " ") printable refl

comment_length : (comment : List ℕ) → length comment ≤ 200 → length (comment_text comment) ≤ 201
comment_length [] short = lit≤ tt
comment_length (c ∷ comment) short = simp length-append (omega arith)

number_length : (n : ℕ) → n ≤ 4294967295 → length (decimal n) ≤ 10
number_length n most = length-decimal-le 10 n (lit< tt) (omega arith) (omega arith)

pub subject_printable : (comment name : List ℕ) (part total : ℕ) → IsComment comment → IsFileName name → part ≤ 4294967295 → total ≤ 4294967295
    → AllPassed is_printable (subject_text comment name part total)
unfolding subject_text
subject_printable comment name part total c n p t =
    let number = λ (k : ℕ) (most : k ≤ 4294967295). decimal_passed is_printable digit_printable k (omega arith) in
    append_passed is_printable (comment_text comment ++ codes "\"" ++ name ++ codes "\" yEnc (" ++ decimal part ++ codes "/" ++ decimal total) (codes ")")
    (append_passed is_printable (comment_text comment ++ codes "\"" ++ name ++ codes "\" yEnc (" ++ decimal part ++ codes "/") (decimal total)
    (append_passed is_printable (comment_text comment ++ codes "\"" ++ name ++ codes "\" yEnc (" ++ decimal part) (codes "/")
    (append_passed is_printable (comment_text comment ++ codes "\"" ++ name ++ codes "\" yEnc (") (decimal part)
    (append_passed is_printable (comment_text comment ++ codes "\"" ++ name) (codes "\" yEnc (")
    (append_passed is_printable (comment_text comment ++ codes "\"") name
    (append_passed is_printable (comment_text comment) (codes "\"") (comment_printable comment c.printable) refl)
    n.printable) refl) (number part p)) refl) (number total t)) refl

subject_length : (comment name : List ℕ) (part total : ℕ) → IsComment comment → IsFileName name → part ≤ 4294967295 → total ≤ 4294967295
    → length (subject_text comment name part total) ≤ 600
unfolding subject_text
subject_length comment name part total c n p t =
    let before = comment_length comment c.short in
    let named = n.short in
    let part_length = number_length part p in
    let total_length = number_length total t in
    simp length-append (omega arith)

subject_shows : (comment name : List ℕ) (part total : ℕ) → list_any is_ascii_graphic (subject_text comment name part total) ≡ true
unfolding subject_text
subject_shows comment name part total = shown_last is_ascii_graphic (comment_text comment ++ codes "\"" ++ name ++ codes "\" yEnc (" ++ decimal part ++ codes "/" ++ decimal total) (codes ")") refl

-- ---- lines

from_is_field : (from : List ℕ) → IsFrom from → IsFieldLine (from_line from)
from_is_field from h = record {
  name = codes "From";
  body = from;
  whole = refl;
  named = lit≤ tt;
  some = text_shows from h.some h.printable h.trimmed;
  printable = append_passed is_printable (codes "From: ") from refl h.printable;
  short = let short = h.short in simp length-append (omega arith);
}

newsgroups_is_field : (newsgroups : List ℕ) → IsNewsgroups newsgroups → IsFieldLine (newsgroups_line newsgroups)
newsgroups_is_field newsgroups h = record {
  name = codes "Newsgroups";
  body = newsgroups;
  whole = refl;
  named = lit≤ tt;
  some = one_passed is_ascii_graphic newsgroups (newsgroups_some newsgroups h) (newsgroups_graphic newsgroups h);
  printable = append_passed is_printable (codes "Newsgroups: ") newsgroups refl (printable_from_graphic newsgroups (newsgroups_graphic newsgroups h));
  short = let short = h.short in simp length-append (omega arith);
}

subject_is_field : (comment name : List ℕ) (part total : ℕ) → IsComment comment → IsFileName name → part ≤ 4294967295 → total ≤ 4294967295
    → IsFieldLine (subject_line comment name part total)
subject_is_field comment name part total c n p t = record {
  name = codes "Subject";
  body = subject_text comment name part total;
  whole = refl;
  named = lit≤ tt;
  some = subject_shows comment name part total;
  printable = append_passed is_printable (codes "Subject: ") (subject_text comment name part total) refl (subject_printable comment name part total c n p t);
  short = let short = subject_length comment name part total c n p t in simp length-append (omega arith);
}

message_id_is_field : (id : List ℕ) → IsMessageId id → IsFieldLine (message_id_line id)
message_id_is_field id h = record {
  name = codes "Message-ID";
  body = codes "<" ++ id ++ codes ">";
  whole = refl;
  named = lit≤ tt;
  some = refl;
  printable =
      append_passed is_printable (codes "Message-ID: <" ++ id) (codes ">")
      (append_passed is_printable (codes "Message-ID: <") id refl (printable_from_graphic id (wider_passed is_id_byte is_ascii_graphic id_byte_graphic id h.all))) refl;
  short = let short = h.short in simp length-append (omega arith);
}

pub head_is_fields : (from newsgroups comment name : List ℕ) (part total : ℕ) (id : List ℕ) → IsFrom from → IsNewsgroups newsgroups → IsComment comment →
    IsFileName name → part ≤ 4294967295 → total ≤ 4294967295 → IsMessageId id →
    (fields : List (List ℕ)) × (head_lines from newsgroups comment name part total id ≡ fields ++ [] ∷ []) × All IsFieldLine fields
head_is_fields from newsgroups comment name part total id f g c n p t i = (
  from_line from ∷ newsgroups_line newsgroups ∷ subject_line comment name part total ∷ message_id_line id ∷ [],
  refl,
  All-cons IsFieldLine (from_line from) (newsgroups_line newsgroups ∷ subject_line comment name part total ∷ message_id_line id ∷ []) (from_is_field from f)
      (All-cons IsFieldLine (newsgroups_line newsgroups) (subject_line comment name part total ∷ message_id_line id ∷ []) (newsgroups_is_field newsgroups g)
      (All-cons IsFieldLine (subject_line comment name part total) (message_id_line id ∷ []) (subject_is_field comment name part total c n p t)
      (All-cons IsFieldLine (message_id_line id) [] (message_id_is_field id i) (All-nil IsFieldLine)))),
)
