-- Texts that are pieces with a byte between two of them, and have it nowhere else.
use Rattle.std.proofs.Common.{◌≡◌, ℕ, ◌≤◌, ◌<◌, ◌==◌, ◌&&◌, Bool, true, false, List, [], ◌∷◌, length, refl, sym, ◌∙◌, ap, arith}
use Rattle.std.specs.Prelude.{All, nat_le}
use Rattle.std.specs.List.{count_by, list_all, join_with_byte, slice_split}
use Rattle.std.proofs.lemmas.Bool.{and_from, and_parts, eq-eqb, le-leb, leb-true}
use Rattle.std.proofs.lemmas.Bool.Decides.{nat_tests}
use Rattle.std.proofs.lemmas.List.Elements.{All-cons, All-head, All-nil, All-tail, All-weaker}
use Rattle.std.proofs.lemmas.List.Splits.{join_with_byte-slice_split, length-slice_split, slice_split_at, slice_split_none}
use Rattle.nntp_lines.specs.GroupName.{IsGroupName, is_group_byte}
use Rattle.nntp_lines.specs.Word.{IsWord}
use Rattle.article_head.specs.Field.{IsNewsgroups, is_word, names_of}
use Rattle.article_head.specs.PartId.{IsDomain, is_label_byte, labels_of}
use Rattle.limits.specs.declared.TheConstants.{MOST_ID_BYTES}

-- the byte stands nowhere in a piece
abbrev pub Misses : ℕ → List ℕ → Type 0
Misses byte piece = All (λ x. (x == byte) ≡ false) piece

misses : (may_stand : ℕ → Bool) (byte : ℕ) → ((x : ℕ) → may_stand x ≡ true → (x == byte) ≡ false) → (piece : List ℕ) → list_all may_stand piece ≡ true → Misses byte piece
misses may_stand byte never [] all = All-nil (λ x. (x == byte) ≡ false)
misses may_stand byte never (x ∷ piece) all =
    let parts = and_parts (may_stand x) (list_all may_stand piece) all in
    All-cons (λ x. (x == byte) ≡ false) x piece (never x parts.0) (misses may_stand byte never piece parts.1)

-- what was joined is cut into the same pieces
split_joined : (byte : ℕ) (pieces : List (List ℕ)) → 1 ≤ length pieces → All (Misses byte) pieces → slice_split (λ b. b == byte) (join_with_byte byte pieces) ≡ pieces
split_joined byte [] some none = absurd (omega arith)
split_joined byte (piece ∷ []) some none = slice_split_none (λ b. b == byte) piece (All-head (Misses byte) piece [] none)
split_joined byte (piece ∷ next ∷ pieces) some none =
    slice_split_at (λ b. b == byte) piece byte (join_with_byte byte (next ∷ pieces)) (All-head (Misses byte) piece (next ∷ pieces) none) (eq-eqb byte byte refl)
    ∙ ap (λ (rest : List (List ℕ)). piece ∷ rest) (split_joined byte (next ∷ pieces) (omega arith) (All-tail (Misses byte) piece (next ∷ pieces) none))

split_some : (byte : ℕ) (text : List ℕ) → 1 ≤ length (slice_split (λ b. b == byte) text)
split_some byte text = omega (arith, length-slice_split (λ b. b == byte) text)

-- ---- words

-- the test of a word is what a word is
word_from_test : (may_stand : ℕ → Bool) (most : ℕ) (bytes : List ℕ) → is_word may_stand most bytes ≡ true → IsWord may_stand most bytes
word_from_test may_stand most bytes passed =
    let parts = and_parts (nat_le 1 (length bytes) && nat_le (length bytes) most) (list_all may_stand bytes) passed in
    let ends = and_parts (nat_le 1 (length bytes)) (nat_le (length bytes) most) parts.0 in
    record { some = leb-true 1 (length bytes) ends.0; short = leb-true (length bytes) most ends.1; all = parts.1 }

test_from_word : (may_stand : ℕ → Bool) (most : ℕ) (bytes : List ℕ) → IsWord may_stand most bytes → is_word may_stand most bytes ≡ true
test_from_word may_stand most bytes word =
    and_from (nat_le 1 (length bytes) && nat_le (length bytes) most) (list_all may_stand bytes)
    (and_from (nat_le 1 (length bytes)) (nat_le (length bytes) most) (le-leb 1 (length bytes) word.some) (le-leb (length bytes) most word.short)) word.all

pub same_test : (may_stand : ℕ → Bool) (most : ℕ) (bytes : List ℕ) (answer : Bool) → (answer ≡ true → IsWord may_stand most bytes) → (IsWord may_stand most bytes → answer ≡ true)
    → answer ≡ is_word may_stand most bytes
same_test may_stand most bytes true to from = sym (test_from_word may_stand most bytes (to refl))
same_test may_stand most bytes false to from = by_test (is_word may_stand most bytes) refl
  where
    by_test : (test : Bool) → is_word may_stand most bytes ≡ test → false ≡ is_word may_stand most bytes
    by_test true is = let wrong = from (word_from_test may_stand most bytes is) in cc
    by_test false is = sym is

words_from_test : (may_stand : ℕ → Bool) (most : ℕ) (pieces : List (List ℕ)) → list_all (is_word may_stand most) pieces ≡ true → All (IsWord may_stand most) pieces
words_from_test may_stand most [] passed = All-nil (IsWord may_stand most)
words_from_test may_stand most (piece ∷ pieces) passed =
    let parts = and_parts (is_word may_stand most piece) (list_all (is_word may_stand most) pieces) passed in
    All-cons (IsWord may_stand most) piece pieces (word_from_test may_stand most piece parts.0) (words_from_test may_stand most pieces parts.1)

test_from_words : (may_stand : ℕ → Bool) (most : ℕ) (pieces : List (List ℕ)) → All (IsWord may_stand most) pieces → list_all (is_word may_stand most) pieces ≡ true
test_from_words may_stand most [] all = refl
test_from_words may_stand most (piece ∷ pieces) all =
    and_from (is_word may_stand most piece) (list_all (is_word may_stand most) pieces)
    (test_from_word may_stand most piece (All-head (IsWord may_stand most) piece pieces all))
    (test_from_words may_stand most pieces (All-tail (IsWord may_stand most) piece pieces all))

-- ---- newsgroups

no_comma : (x : ℕ) → is_group_byte x ≡ true → (x == 44) ≡ false
no_comma x h = grind (arith, nat_tests)

pub names_are_pieces : (text : List ℕ) (newsgroups : IsNewsgroups text) → newsgroups.names ≡ names_of text
names_are_pieces text newsgroups =
    sym (split_joined 44 newsgroups.names newsgroups.some (All-weaker IsGroupName (Misses 44) (λ name w. misses is_group_byte 44 no_comma name w.all) newsgroups.names newsgroups.valid))
    ∙ ap (slice_split (λ b. b == 44)) (sym newsgroups.joined)

pub newsgroups_from_names : (text : List ℕ) → length text ≤ 600 → count_by (λ byte. byte == 44) text < 10 → list_all (is_word is_group_byte 200) (names_of text) ≡ true
    → IsNewsgroups text
newsgroups_from_names text short few passed = record {
  names = names_of text;
  some = split_some 44 text;
  few = omega (arith, few, length-slice_split (λ byte. byte == 44) text);
  valid = words_from_test is_group_byte 200 (names_of text) passed;
  joined = sym (join_with_byte-slice_split 44 text);
  short = short;
}

pub few_names : (text : List ℕ) → IsNewsgroups text → count_by (λ byte. byte == 44) text < 10
few_names text newsgroups =
    let same = ap (λ (names : List (List ℕ)). length names) (names_are_pieces text newsgroups) in
    omega (arith, same, newsgroups.few, length-slice_split (λ byte. byte == 44) text)

pub names_from_newsgroups : (text : List ℕ) → IsNewsgroups text → list_all (is_word is_group_byte 200) (names_of text) ≡ true
names_from_newsgroups text newsgroups =
    rw (← names_are_pieces text newsgroups) (test_from_words is_group_byte 200 newsgroups.names newsgroups.valid)

-- ---- domains

no_dot : (x : ℕ) → is_label_byte x ≡ true → (x == 46) ≡ false
no_dot x h = grind (arith, nat_tests)

pub domain_from_labels : (text : List ℕ) → length text ≤ MOST_ID_BYTES → list_all (is_word is_label_byte MOST_ID_BYTES) (labels_of text) ≡ true → IsDomain text
domain_from_labels text short passed = record {
  labels = labels_of text;
  some = split_some 46 text;
  valid = words_from_test is_label_byte MOST_ID_BYTES (labels_of text) passed;
  joined = sym (join_with_byte-slice_split 46 text);
  short = short;
}

pub labels_from_domain : (text : List ℕ) → IsDomain text → list_all (is_word is_label_byte MOST_ID_BYTES) (labels_of text) ≡ true
labels_from_domain text domain =
    let same : labels_of (join_with_byte 46 domain.labels) ≡ domain.labels =
    split_joined 46 domain.labels domain.some (All-weaker (IsWord is_label_byte MOST_ID_BYTES) (Misses 46) (λ label w. misses is_label_byte 46 no_dot label w.all) domain.labels domain.valid) in
    rw (domain.joined, same) (test_from_words is_label_byte MOST_ID_BYTES domain.labels domain.valid)
