-- The line of an article in an overview holds no CR.
use Rattle.std.proofs.Common.{◌≡◌, ℕ, ◌≤◌, ◌<◌, ◌^◌, ◌==◌, ◌++◌, ◌∷◌, Bool, true, false, List, [], length, refl, sym, ◌∙◌, ap, arith, inl, inr}
use Rattle.std.specs.Prelude.{All, codes, decimal, not, unwrap_or}
use Rattle.std.specs.Char.{is_ascii_digit}
use Rattle.std.specs.List.{AllByRecursion, join_with_byte, list_all}
use Rattle.std.proofs.lemmas.Bool.{and_from, and_parts, cases_Bool}
use Rattle.std.proofs.lemmas.Bool.Decides.{nat_tests}
use Rattle.std.proofs.lemmas.List.Elements.{recursion_from_All}
use Rattle.std.proofs.lemmas.List.Folds.{list_all-append}
use Rattle.dot_blocks.specs.Blocks.{HoldsNoLineEnd}
use Rattle.nntp_lines.specs.MessageId.{IsMessageId, is_id_byte}
use Rattle.held_articles.specs.declared.article.Article.{Article}
use Rattle.held_articles.specs.Fields.{field_of}
use Rattle.held_articles.specs.Octets.{octets_of}
use Rattle.news_spool.specs.Overview.{bracketed, field_text, is_control, overview_of, spaced, spaced_byte}
use Rattle.news_spool.proofs.SaidNumbers.{decimal_digits}

abbrev is_other : ℕ → Bool
is_other byte = not (byte == 13)

abbrev no_return : List ℕ → Bool
no_return bytes = list_all is_other bytes

-- what holds no CR holds no line's end
no_line_end : (bytes : List ℕ) → no_return bytes ≡ true → HoldsNoLineEnd bytes
no_line_end bytes none a b is =
    let whole : list_all is_other (a ++ 13 ∷ 10 ∷ b) ≡ true = ap (list_all is_other) (sym is) ∙ none in
    let behind : list_all is_other (13 ∷ 10 ∷ b) ≡ true =
    (and_parts (list_all is_other a) (list_all is_other (13 ∷ 10 ∷ b)) (sym (list_all-append is_other a (13 ∷ 10 ∷ b)) ∙ whole)).1 in
    cc

both : (a b : List ℕ) → no_return a ≡ true → no_return b ≡ true → no_return (a ++ b) ≡ true
both a b p q = list_all-append is_other a b ∙ and_from (no_return a) (no_return b) p q

each : (test : ℕ → Bool) → ((byte : ℕ) → test byte ≡ true → is_other byte ≡ true) → (bytes : List ℕ) → list_all test bytes ≡ true → no_return bytes ≡ true
each test follows [] all = refl
each test follows (x ∷ bytes) all =
    let both_parts = and_parts (test x) (list_all test bytes) all in
    and_from (is_other x) (no_return bytes) (follows x both_parts.0) (each test follows bytes both_parts.1)

digit_is_other : (byte : ℕ) → is_ascii_digit byte ≡ true → is_other byte ≡ true
digit_is_other byte is = grind (arith, nat_tests)

id_byte_is_other : (byte : ℕ) → is_id_byte byte ≡ true → is_other byte ≡ true
id_byte_is_other byte is = grind (arith, nat_tests)

later_is_other : (byte : ℕ) → 32 ≤ byte → is_other byte ≡ true
later_is_other byte later = grind (arith, nat_tests)

plain_is_other : (byte : ℕ) → is_control byte ≡ false → is_other byte ≡ true
plain_is_other byte plain = grind (arith, nat_tests)

spaced_is_other : (byte : ℕ) → is_other (spaced_byte byte) ≡ true
spaced_is_other byte = elim (cases_Bool (is_control byte)) [ inl control ↦ rw control refl | inr plain ↦ rw plain (plain_is_other byte plain) ]

spaced_has_none : (text : List ℕ) → no_return (spaced text) ≡ true
spaced_has_none [] = refl
spaced_has_none (x ∷ text) = and_from (is_other (spaced_byte x)) (no_return (spaced text)) (spaced_is_other x) (spaced_has_none text)

date_has_none : (date : List ℕ) → AllByRecursion (λ byte. 32 ≤ byte) date → no_return date ≡ true
date_has_none [] all = refl
date_has_none (x ∷ date) all = and_from (is_other x) (no_return date) (later_is_other x all.0) (date_has_none date all.1)

id_has_none : (id : List ℕ) → IsMessageId id → no_return (bracketed id) ≡ true
id_has_none id is = both (codes "<" ++ id) (codes ">") (each is_id_byte id_byte_is_other id is.all) refl

-- fields with a TAB between two
joined : (fields : List (List ℕ)) → AllByRecursion (λ field. no_return field ≡ true) fields → no_return (join_with_byte 9 fields) ≡ true
joined [] all = refl
joined (x ∷ []) all = all.0
joined (x ∷ y ∷ fields) all = both x (9 ∷ join_with_byte 9 (y ∷ fields)) all.0 (joined (y ∷ fields) all.1)

pub one_line : (number : ℕ) (article : Article) (date : List ℕ) → number < 2 ^ 64 → octets_of article < 2 ^ 64 → length article.body < 2 ^ 64 → IsMessageId article.id
    → All (λ byte. 32 ≤ byte) date → HoldsNoLineEnd (overview_of number article date)
unfolding overview_of
one_line number article date number_fits octets_fit lines_fit id clean =
    let number_has_none : no_return (decimal number) ≡ true = each is_ascii_digit digit_is_other (decimal number) (decimal_digits number number_fits) in
    let octets_have_none : no_return (decimal (octets_of article)) ≡ true =
    each is_ascii_digit digit_is_other (decimal (octets_of article)) (decimal_digits (octets_of article) octets_fit) in
    let lines_have_none : no_return (decimal (length article.body)) ≡ true =
    each is_ascii_digit digit_is_other (decimal (length article.body)) (decimal_digits (length article.body) lines_fit) in
    let field_has_none = λ (name : List ℕ). spaced_has_none (unwrap_or (field_of name article.head) []) in
    let date_is_plain : no_return date ≡ true = date_has_none date (recursion_from_All (λ byte. 32 ≤ byte) date clean) in
    no_line_end (overview_of number article date)
    (joined
    (decimal number ∷ field_text (codes "Subject: ") article.head ∷ field_text (codes "From: ") article.head ∷ date ∷ bracketed article.id ∷ []
    ∷ decimal (octets_of article) ∷ decimal (length article.body) ∷ [])
    (number_has_none, (field_has_none (codes "Subject: "), (field_has_none (codes "From: "), (date_is_plain, (id_has_none article.id id, (refl, (octets_have_none, (lines_have_none, tt)))))))))
