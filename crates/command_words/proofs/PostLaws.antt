-- The tests of the values of `post` are what the values have to be.
use Rattle.std.proofs.Common.{◌≡◌, ℕ, ◌≤◌, ◌<◌, ◌==◌, ◌&&◌, Bool, true, List, length, arith}
use Rattle.std.specs.Prelude.{◌↔◌, IsTrue, nat_le}
use Rattle.std.specs.List.{count_by, list_all}
use Rattle.std.proofs.lemmas.Bool.{and_from, and_parts, le-leb, leb-true}
use Rattle.std.proofs.lemmas.Bool.Decides.{same_from_decides}
use Rattle.article_head.specs.Field.{IsComment, IsFrom, IsNewsgroups, IsText, is_trimmed, is_word, names_of}
use Rattle.article_head.specs.PartId.{IsDomain, IsToken, is_label_byte, is_token_byte, labels_of}
use Rattle.article_head.proofs.Pieces.{domain_from_labels, few_names, labels_from_domain, names_from_newsgroups, newsgroups_from_names}
use Rattle.nntp_lines.specs.Command.{is_printable}
use Rattle.nntp_lines.specs.GroupName.{is_group_byte}
use Rattle.server_logins.proofs.WordTests.{test_from_word, word_from_test}
use Rattle.command_words.specs.PostValues.{is_comment, is_domain, is_from, is_newsgroups, is_text, is_token}

-- ---- texts

pub text_from_test : (least most : ℕ) (text : List ℕ) → is_text least most text ≡ true → IsText least most text
text_from_test least most text passed =
    let last = and_parts (nat_le least (length text) && nat_le (length text) most && list_all is_printable text) (is_trimmed text) passed in
    let middle = and_parts (nat_le least (length text) && nat_le (length text) most) (list_all is_printable text) last.0 in
    let ends = and_parts (nat_le least (length text)) (nat_le (length text) most) middle.0 in
    record { some = leb-true least (length text) ends.0; short = leb-true (length text) most ends.1; printable = middle.1; trimmed = last.1 }

test_from_text : (least most : ℕ) (text : List ℕ) → IsText least most text → is_text least most text ≡ true
test_from_text least most text is =
    and_from (nat_le least (length text) && nat_le (length text) most && list_all is_printable text) (is_trimmed text)
    (and_from (nat_le least (length text) && nat_le (length text) most) (list_all is_printable text)
    (and_from (nat_le least (length text)) (nat_le (length text) most) (le-leb least (length text) is.some) (le-leb (length text) most is.short)) is.printable)
    is.trimmed

pub same_from : (text : List ℕ) (answer : Bool) → (IsTrue answer ↔ IsFrom text) → answer ≡ is_from text
same_from text answer decides = same_from_decides answer (is_from text) decides (text_from_test 1 200 text, test_from_text 1 200 text)

pub same_comment : (text : List ℕ) (answer : Bool) → (IsTrue answer ↔ IsComment text) → answer ≡ is_comment text
same_comment text answer decides = same_from_decides answer (is_comment text) decides (text_from_test 0 200 text, test_from_text 0 200 text)

-- ---- newsgroups

pub newsgroups_from_test : (text : List ℕ) → is_newsgroups text ≡ true → IsNewsgroups text
newsgroups_from_test text passed =
    let parts = and_parts (nat_le (length text) 600 && nat_le (count_by (λ byte. byte == 44) text) 9) (list_all (is_word is_group_byte 200) (names_of text)) passed in
    let limits = and_parts (nat_le (length text) 600) (nat_le (count_by (λ byte. byte == 44) text) 9) parts.0 in
    let few : count_by (λ byte. byte == 44) text < 10 = omega (arith, leb-true (count_by (λ byte. byte == 44) text) 9 limits.1) in
    newsgroups_from_names text (leb-true (length text) 600 limits.0) few parts.1

test_from_newsgroups : (text : List ℕ) → IsNewsgroups text → is_newsgroups text ≡ true
test_from_newsgroups text is =
    let few : count_by (λ byte. byte == 44) text ≤ 9 = omega (arith, few_names text is) in
    and_from (nat_le (length text) 600 && nat_le (count_by (λ byte. byte == 44) text) 9) (list_all (is_word is_group_byte 200) (names_of text))
    (and_from (nat_le (length text) 600) (nat_le (count_by (λ byte. byte == 44) text) 9) (le-leb (length text) 600 is.short) (le-leb (count_by (λ byte. byte == 44) text) 9 few))
    (names_from_newsgroups text is)

pub same_newsgroups : (text : List ℕ) (answer : Bool) → (IsTrue answer ↔ IsNewsgroups text) → answer ≡ is_newsgroups text
same_newsgroups text answer decides = same_from_decides answer (is_newsgroups text) decides (newsgroups_from_test text, test_from_newsgroups text)

-- ---- message-ids

pub same_token : (text : List ℕ) (answer : Bool) → (IsTrue answer ↔ IsToken text) → answer ≡ is_token text
same_token text answer decides = same_from_decides answer (is_token text) decides (word_from_test is_token_byte 64 text, test_from_word is_token_byte 64 text)

pub domain_from_test : (text : List ℕ) → is_domain text ≡ true → IsDomain text
domain_from_test text passed =
    let parts = and_parts (nat_le (length text) 64) (list_all (is_word is_label_byte 64) (labels_of text)) passed in
    domain_from_labels text (leb-true (length text) 64 parts.0) parts.1

test_from_domain : (text : List ℕ) → IsDomain text → is_domain text ≡ true
test_from_domain text is = and_from (nat_le (length text) 64) (list_all (is_word is_label_byte 64) (labels_of text)) (le-leb (length text) 64 is.short) (labels_from_domain text is)

pub same_domain : (text : List ℕ) (answer : Bool) → (IsTrue answer ↔ IsDomain text) → answer ≡ is_domain text
same_domain text answer decides = same_from_decides answer (is_domain text) decides (domain_from_test text, test_from_domain text)
