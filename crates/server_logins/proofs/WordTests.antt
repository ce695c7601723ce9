-- Tests of words, and what they miss.
use Rattle.std.proofs.Common.{◌≡◌, ℕ, ◌≤◌, ◌==◌, ◌&&◌, Bool, true, false, List, [], ◌∷◌, Option, None, Some, length, refl}
use Rattle.std.specs.Prelude.{All, nat_le, is_some, if◌then◌else◌}
use Rattle.std.specs.Char.{is_ascii_digit}
use Rattle.std.specs.List.{list_all}
use Rattle.std.proofs.lemmas.Bool.{and_from, and_parts, le-leb, leb-true}
use Rattle.std.proofs.lemmas.List.Elements.{All-cons, All-nil}
use Rattle.nntp_lines.specs.Word.{IsWord}
use Rattle.numbers.specs.Numbers.{decimal_of}

pub word_from_test : (may_stand : ℕ → Bool) (most : ℕ) (bytes : List ℕ) → (nat_le 1 (length bytes) && nat_le (length bytes) most && list_all may_stand bytes) ≡ true → IsWord may_stand most bytes
word_from_test may_stand most bytes passed =
    let parts = and_parts (nat_le 1 (length bytes) && nat_le (length bytes) most) (list_all may_stand bytes) passed in
    let ends = and_parts (nat_le 1 (length bytes)) (nat_le (length bytes) most) parts.0 in
    record { some = leb-true 1 (length bytes) ends.0; short = leb-true (length bytes) most ends.1; all = parts.1 }

pub test_from_word : (may_stand : ℕ → Bool) (most : ℕ) (bytes : List ℕ) → IsWord may_stand most bytes → (nat_le 1 (length bytes) && nat_le (length bytes) most && list_all may_stand bytes) ≡ true
test_from_word may_stand most bytes word =
    and_from (nat_le 1 (length bytes) && nat_le (length bytes) most) (list_all may_stand bytes)
    (and_from (nat_le 1 (length bytes)) (nat_le (length bytes) most) (le-leb 1 (length bytes) word.some) (le-leb (length bytes) most word.short)) word.all

-- a byte that may not stand in a word stands nowhere in it
pub misses : (may_stand : ℕ → Bool) (byte : ℕ) → ((x : ℕ) → may_stand x ≡ true → (x == byte) ≡ false) → (bytes : List ℕ) → list_all may_stand bytes ≡ true → All (λ x. (x == byte) ≡ false) bytes
misses may_stand byte never [] all = All-nil (λ x. (x == byte) ≡ false)
misses may_stand byte never (x ∷ bytes) all =
    let parts = and_parts (may_stand x) (list_all may_stand bytes) all in
    All-cons (λ x. (x == byte) ≡ false) x bytes (never x parts.0) (misses may_stand byte never bytes parts.1)

-- a choice is something exactly where its test passes
pub some_test : {A : Type 0} (b : Bool) (x : A) → is_some (if b then Some x else None) ≡ true → b ≡ true
some_test true x some = refl
some_test false x some = cc

-- what has a value in decimal is digits
pub digits_in : (bytes : List ℕ) (n : ℕ) → decimal_of bytes ≡ Some n → list_all is_ascii_digit bytes ≡ true
digits_in [] n is = refl
digits_in (d ∷ ds) n is = chosen (list_all is_ascii_digit (d ∷ ds)) _ n is
  where
    chosen : (b : Bool) (x y : ℕ) → (if b then Some x else None) ≡ Some y → b ≡ true
    chosen true x y same = refl
    chosen false x y same = cc
