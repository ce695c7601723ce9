-- The words and numbers of a line, read as they were put.
use Rattle.std.proofs.Common.{◌≡◌, ℕ, zero, suc, ◌+◌, ◌*◌, ◌/◌, ◌%◌, ◌^◌, ◌<◌, ◌≤◌, true, false, List, [], ◌∷◌, ◌++◌, length, Option, Some, refl, ap, ◌∙◌, arith, append_assoc}
use Rattle.std.specs.Prelude.{codes, decimal}
use Rattle.std.specs.List.{list_all, list_any, position_or_len}
use Rattle.std.specs.Char.{digit_value, is_ascii_hexdigit}
use Rattle.std.specs.Str.Parse.{AllDigits, digits_value}
use Rattle.std.proofs.Math.Nat.{mod-add-div', pow-suc}
use Rattle.std.proofs.Math.Seq.{take-append_seam, drop-append-add}
use Rattle.std.proofs.lemmas.List.{length-append}
use Rattle.std.proofs.lemmas.Bool.{and_from, or_from, or_parts, le-leb}
use Rattle.std.proofs.lemmas.Bool.Decides.{nat_tests}
use Rattle.std.proofs.lemmas.Fmt.{decimal_is_IsNumeral}
use Rattle.std.proofs.lemmas.Int.Digits.{digits_value_push}
use Rattle.std.proofs.lemmas.List.Folds.{list_all-append, list_any-append}
use Rattle.numbers.specs.Numbers.{decimal_of, hex32_of, within}
use Rattle.crc_field.specs.Hex.{hex_digit, hex_digits}
use Rattle.yenc_lines.proofs.PartReads.{decimal_read, within_is}
use Rattle.run_ends.specs.Reading.{behind_word, both, crc_told, first_word, is_word_end, number_told}

-- ---- a word that no space and no line end is in

place_here : (word rest : List ℕ) (edge : ℕ) → list_any is_word_end word ≡ false → is_word_end edge ≡ true → position_or_len is_word_end (word ++ edge ∷ rest) ≡ length word
place_here [] rest edge plain ends = rw ends refl
place_here (x ∷ word) rest edge plain ends = let p = or_parts (is_word_end x) (list_any is_word_end word) plain in rw (p.0, place_here word rest edge p.1 ends) (omega arith)

first_here : (word rest : List ℕ) (edge : ℕ) → list_any is_word_end word ≡ false → is_word_end edge ≡ true → first_word (word ++ edge ∷ rest) ≡ word
unfolding first_word
first_here word rest edge plain ends = rw (place_here word rest edge plain ends) (take-append_seam word (edge ∷ rest))

behind_here : (word rest : List ℕ) (edge : ℕ) → list_any is_word_end word ≡ false → is_word_end edge ≡ true → behind_word (word ++ edge ∷ rest) ≡ rest
unfolding behind_word
behind_here word rest edge plain ends = rw (place_here word rest edge plain ends) (drop-append-add word (edge ∷ rest) 1)

-- ---- decimal numbers

digit_plain : (c : ℕ) → digit_value c < 10 → is_word_end c ≡ false
digit_plain c low = grind (arith, nat_tests)

digits_plain : (ds : List ℕ) → AllDigits 10 ds → list_any is_word_end ds ≡ false
digits_plain [] digits = refl
digits_plain (d ∷ ds) digits = or_from (is_word_end d) (list_any is_word_end ds) (digit_plain d digits.0) (digits_plain ds digits.1)

decimal_plain : (n : ℕ) → n < 2 ^ 64 → list_any is_word_end (decimal n) ≡ false
decimal_plain n fits = digits_plain (decimal n) (decimal_is_IsNumeral n fits).0.1

pub number_back : (most n edge : ℕ) (rest : List ℕ) → n ≤ most → n < 2 ^ 64 → is_word_end edge ≡ true → number_told most (decimal n ++ edge ∷ rest) ≡ Some n
number_back most n edge rest low fits ends =
    ap (λ (word : List ℕ). within 0 most (decimal_of word)) (first_here (decimal n) rest edge (decimal_plain n fits) ends)
    ∙ ap (λ (o : Option ℕ). within 0 most o) (decimal_read n fits) ∙ within_is 0 most n (omega arith) low

pub behind_number : (n edge : ℕ) (rest : List ℕ) → n < 2 ^ 64 → is_word_end edge ≡ true → behind_word (decimal n ++ edge ∷ rest) ≡ rest
behind_number n edge rest fits ends = behind_here (decimal n) rest edge (decimal_plain n fits) ends

-- two words with a space between, at the end of a line
pub spaced : (a b : List ℕ) → a ++ codes " " ++ b ++ 10 ∷ [] ≡ a ++ 32 ∷ (b ++ 10 ∷ [])
spaced a b = append_assoc (a ++ 32 ∷ []) b (10 ∷ []) ∙ append_assoc a (32 ∷ []) (b ++ 10 ∷ [])

pub two_back : {C : Type 0} (make : ℕ → ℕ → C) (most a b : ℕ) → a ≤ most → a < 2 ^ 64 → b ≤ most → b < 2 ^ 64 →
    both make (number_told most (decimal a ++ codes " " ++ decimal b ++ 10 ∷ [])) (number_told most (behind_word (decimal a ++ codes " " ++ decimal b ++ 10 ∷ []))) ≡ Some (make a b)
two_back make most a b low fits low' fits' =
    rw (spaced (decimal a) (decimal b), number_back most a 32 (decimal b ++ 10 ∷ []) low fits refl, behind_number a 32 (decimal b ++ 10 ∷ []) fits refl, number_back most b 10 [] low' fits' refl) refl

-- ---- CRCs

hex_value : (d : ℕ) → d < 16 → digit_value (hex_digit d) ≡ d
hex_value d low = grind (arith, nat_tests)

hex_is : (d : ℕ) → d < 16 → is_ascii_hexdigit (hex_digit d) ≡ true
hex_is d low = grind (arith, nat_tests)

hex_plain : (d : ℕ) → d < 16 → is_word_end (hex_digit d) ≡ false
hex_plain d low = grind (arith, nat_tests)

digits_value_of : (k n : ℕ) → n < 16 ^ k → digits_value 16 (hex_digits k n) ≡ n
unfolding hex_digits
digits_value_of zero n low = omega arith
digits_value_of (suc k) n low =
    let whole : n % 16 + n / 16 * 16 ≡ n = mod-add-div' n 16 in
    let power : 16 ^ suc k ≡ 16 ^ k * 16 = pow-suc 16 k in
    let smaller : n / 16 < 16 ^ k = omega arith in
    let digit : n % 16 < 16 = omega arith in
    digits_value_push 16 (hex_digits k (n / 16)) (hex_digit (n % 16)) ∙ rw (digits_value_of k (n / 16) smaller, hex_value (n % 16) digit) (omega arith)

digits_are_hex : (k n : ℕ) → list_all is_ascii_hexdigit (hex_digits k n) ≡ true
unfolding hex_digits
digits_are_hex zero n = refl
digits_are_hex (suc k) n =
    let digit : n % 16 < 16 = omega arith in
    list_all-append is_ascii_hexdigit (hex_digits k (n / 16)) (hex_digit (n % 16) ∷ [])
    ∙ and_from (list_all is_ascii_hexdigit (hex_digits k (n / 16))) (list_all is_ascii_hexdigit (hex_digit (n % 16) ∷ [])) (digits_are_hex k (n / 16)) (and_from (is_ascii_hexdigit (hex_digit (n % 16))) true (hex_is (n % 16) digit) refl)

crc_plain : (k n : ℕ) → list_any is_word_end (hex_digits k n) ≡ false
unfolding hex_digits
crc_plain zero n = refl
crc_plain (suc k) n =
    let digit : n % 16 < 16 = omega arith in
    list_any-append is_word_end (hex_digits k (n / 16)) (hex_digit (n % 16) ∷ [])
    ∙ or_from (list_any is_word_end (hex_digits k (n / 16))) (list_any is_word_end (hex_digit (n % 16) ∷ [])) (crc_plain k (n / 16)) (or_from (is_word_end (hex_digit (n % 16))) false (hex_plain (n % 16) digit) refl)

digits_many : (k n : ℕ) → length (hex_digits k n) ≡ k
unfolding hex_digits
digits_many zero n = refl
digits_many (suc k) n = length-append (hex_digits k (n / 16)) (hex_digit (n % 16) ∷ []) ∙ (let e = digits_many k (n / 16) in omega arith)

hex_read : (ds : List ℕ) → 0 < length ds → length ds ≤ 8 → list_all is_ascii_hexdigit ds ≡ true → hex32_of ds ≡ Some (digits_value 16 ds)
hex_read [] some most digits = absurd (omega arith)
hex_read (d ∷ ds) some most digits = rw (digits, le-leb (length (d ∷ ds)) 8 most) refl

crc_read : (n : ℕ) → n < 2 ^ 32 → hex32_of (hex_digits 8 n) ≡ Some n
crc_read n fits =
    let many : length (hex_digits 8 n) ≡ 8 = digits_many 8 n in
    hex_read (hex_digits 8 n) (omega arith) (omega arith) (digits_are_hex 8 n) ∙ ap Some (digits_value_of 8 n (omega arith))

pub crc_back : (n edge : ℕ) (rest : List ℕ) → n < 2 ^ 32 → is_word_end edge ≡ true → crc_told (hex_digits 8 n ++ edge ∷ rest) ≡ Some n
crc_back n edge rest fits ends = ap hex32_of (first_here (hex_digits 8 n) rest edge (crc_plain 8 n) ends) ∙ crc_read n fits

pub crcs_back : {C : Type 0} (make : ℕ → ℕ → C) (a b : ℕ) → a < 2 ^ 32 → b < 2 ^ 32 →
    both make (crc_told (hex_digits 8 a ++ codes " " ++ hex_digits 8 b ++ 10 ∷ [])) (crc_told (behind_word (hex_digits 8 a ++ codes " " ++ hex_digits 8 b ++ 10 ∷ []))) ≡ Some (make a b)
crcs_back make a b fits fits' =
    rw (spaced (hex_digits 8 a) (hex_digits 8 b), crc_back a 32 (hex_digits 8 b ++ 10 ∷ []) fits refl, behind_here (hex_digits 8 a) (hex_digits 8 b ++ 10 ∷ []) 32 (crc_plain 8 a) refl, crc_back b 10 [] fits' refl) refl
