-- The names that files are written under: each is a name in a folder, and two files have two.
use Rattle.std.proofs.Common.{◌≡◌, ◌≢◌, ◌<◌, ◌≤◌, ℕ, zero, suc, ◌+◌, ◌/◌, ◌%◌, ◌==◌, true, false, List, [], ◌∷◌, ◌++◌, Option, None, Some, length, take, map, refl, sym, ◌∙◌, ap, arith, length-append, lit<}
use Rattle.std.specs.Prelude.{codes, not, slice_index}
use Rattle.std.specs.Char.{is_ascii_digit}
use Rattle.std.specs.List.{list_all}
use Rattle.std.specs.Str.{IsAscii, IsUtf8}
use Rattle.std.proofs.lemmas.Bool.{and_from, and_parts, cond_both}
use Rattle.std.proofs.lemmas.Bool.Decides.{nat_tests}
use Rattle.std.proofs.lemmas.List.{length-map, length-take}
use Rattle.std.proofs.lemmas.Str.{IsUtf8-from_ascii}
use Rattle.limits.specs.declared.TheConstants.{MOST_FILES}
use Rattle.article_head.specs.OutName.{IsFilename, IsOutName, OutNamesDiffer, digit, four_digits, is_portable, name_or_file, out_name, portable}
use Rattle.article_head.specs.QuotedName.{quoted_name}
use Rattle.article_head.proofs.TextLaws.{AllPassed, append_passed, wider_passed}

-- ---- portable bytes

stays_portable : (byte : ℕ) → is_portable (portable byte) ≡ true
stays_portable byte = cond_both (is_portable byte) byte 95 (λ b. is_portable b ≡ true) (λ is. is) (λ is. refl)

all_portable : (name : List ℕ) → AllPassed is_portable (map portable name)
all_portable [] = refl
all_portable (byte ∷ name) = and_from (is_portable (portable byte)) (list_all is_portable (map portable name)) (stays_portable byte) (all_portable name)

digit_digit : (n : ℕ) → is_ascii_digit (digit n) ≡ true
digit_digit n = let small : n % 10 < 10 = omega arith in grind (arith, nat_tests, small)

digit_portable : (byte : ℕ) → is_ascii_digit byte ≡ true → is_portable byte ≡ true
digit_portable byte h = grind (arith, nat_tests)

four_portable : (n : ℕ) → AllPassed is_portable (four_digits n)
four_portable n = wider_passed is_ascii_digit is_portable digit_portable (four_digits n)
    (and_from _ _ (digit_digit (n / 1000)) (and_from _ _ (digit_digit (n / 100)) (and_from _ _ (digit_digit (n / 10)) (and_from _ _ (digit_digit n) refl))))

-- ---- names

pub some_name : (name : Option (List ℕ)) → 1 ≤ length (name_or_file name)
some_name None = omega arith
some_name (Some []) = omega arith
some_name (Some (byte ∷ name)) = omega arith

pub kept_short : (name : List ℕ) → length (take 200 name) ≤ 200
kept_short name = let e = length-take 200 name in omega (arith, e)

made_is_name : (number : ℕ) (name : List ℕ) → 1 ≤ length name → length name ≤ 200 → IsOutName (four_digits number ++ codes "-" ++ map portable name)
made_is_name number name some short = record {
  least = let e = length-map name portable in omega (arith, e);
  most = let e = length-map name portable in omega (arith, e);
  portable = append_passed is_portable (four_digits number ++ codes "-") (map portable name) (append_passed is_portable (four_digits number) (codes "-") (four_portable number) refl) (all_portable name);
  numbered = and_from _ _ (digit_digit (number / 1000)) refl;
}

kept_some : (name : List ℕ) → 1 ≤ length name → 1 ≤ length (take 200 name)
kept_some [] some = some
kept_some (byte ∷ name) some = omega arith

pub is_out_name : (file : ℕ) (subject : List ℕ) → IsOutName (out_name file subject)
is_out_name file subject =
    let name = name_or_file (quoted_name subject) in
    made_is_name (file + 1) (take 200 name) (kept_some name (some_name (quoted_name subject))) (kept_short name)

-- ---- names in a folder

no_slash : (byte : ℕ) → is_portable byte ≡ true → not (byte == 47) ≡ true
no_slash byte h = grind (arith, nat_tests)

no_zero : (byte : ℕ) → is_portable byte ≡ true → not (byte == 0) ≡ true
no_zero byte h = grind (arith, nat_tests)

not_short : (name short : List ℕ) → 6 ≤ length name → length short ≤ 5 → name ≢ short
not_short name short least most same = let e = ap (λ (l : List ℕ). length l) same in absurd (omega (arith, e))

pub is_filename : (name : List ℕ) → IsOutName name → IsFilename name
is_filename name is = record {
  some = omega (arith, is.least);
  short = omega (arith, is.most);
  no_slash = wider_passed is_portable (λ byte. not (byte == 47)) no_slash name is.portable;
  no_zero = wider_passed is_portable (λ byte. not (byte == 0)) no_zero name is.portable;
  not_dot = not_short name (codes ".") is.least (omega arith);
  not_dot_dot = not_short name (codes "..") is.least (omega arith);
}

-- ---- names as text

portable_ascii : (byte : ℕ) → is_portable byte ≡ true → byte < 128
portable_ascii byte h = grind (arith, nat_tests)

ascii_at : (name : List ℕ) → AllPassed is_portable name → (i : ℕ) → slice_index name i < 128
ascii_at [] all i = lit< tt
ascii_at (byte ∷ name) all zero = portable_ascii byte (and_parts (is_portable byte) (list_all is_portable name) all).0
ascii_at (byte ∷ name) all (suc i) = ascii_at name (and_parts (is_portable byte) (list_all is_portable name) all).1 i

pub is_text : (name : List ℕ) → IsOutName name → IsUtf8 name
is_text name is = IsUtf8-from_ascii name (ascii_at name is.portable)

-- ---- two files

same_head : {x y : ℕ} {xs ys : List ℕ} → x ∷ xs ≡ y ∷ ys → x ≡ y
same_head same = cc

same_tail : {x y : ℕ} {xs ys : List ℕ} → x ∷ xs ≡ y ∷ ys → xs ≡ ys
same_tail same = cc

same_number : (n m : ℕ) → n < 10000 → m < 10000 → digit (n / 1000) ≡ digit (m / 1000) → digit (n / 100) ≡ digit (m / 100) → digit (n / 10) ≡ digit (m / 10) → digit n ≡ digit m → n ≡ m
same_number n m n_small m_small a b c d = omega (arith, n_small, m_small, a, b, c, d)

pub out_names_differ : (file other : ℕ) (subject another : List ℕ) → file < MOST_FILES → other < MOST_FILES → file ≢ other → out_name file subject ≢ out_name other another
out_names_differ file other subject another f o differ same =
    let a = same_head same in
    let one = same_tail same in
    let b = same_head one in
    let two = same_tail one in
    let c = same_head two in
    let d = same_head (same_tail two) in
    let number : file + 1 ≡ other + 1 = same_number (file + 1) (other + 1) (omega arith) (omega arith) a b c d in
    differ (omega (arith, number))
