-- Texts all of whose bytes pass a test.
use Rattle.std.proofs.Common.{◌≡◌, ℕ, ◌<◌, ◌≤◌, ◌^◌, Bool, true, List, [], ◌∷◌, ◌++◌, length, refl, ◌∙◌, arith}
use Rattle.std.specs.Prelude.{decimal, All}
use Rattle.std.specs.Char.{digit_value}
use Rattle.std.specs.List.{list_all, list_any, join_with_byte}
use Rattle.std.specs.Str.Parse.{AllDigits}
use Rattle.std.proofs.lemmas.Bool.{and_from, and_parts, or_right}
use Rattle.std.proofs.lemmas.Fmt.{decimal_is_IsNumeral}
use Rattle.std.proofs.lemmas.List.Elements.{All-head, All-tail}
use Rattle.std.proofs.lemmas.List.Folds.{list_all-append, list_any-append}

-- all bytes pass
abbrev pub AllPassed : (ℕ → Bool) → List ℕ → Type 0
AllPassed test text = list_all test text ≡ true

pub append_passed : (test : ℕ → Bool) (a b : List ℕ) → AllPassed test a → AllPassed test b → AllPassed test (a ++ b)
append_passed test a b pa pb = list_all-append test a b ∙ and_from (list_all test a) (list_all test b) pa pb

pub wider_passed : (narrow wide : ℕ → Bool) → ((byte : ℕ) → narrow byte ≡ true → wide byte ≡ true) → (text : List ℕ) → AllPassed narrow text → AllPassed wide text
wider_passed narrow wide implied [] all = refl
wider_passed narrow wide implied (byte ∷ text) all =
    let parts = and_parts (narrow byte) (list_all narrow text) all in
    and_from (wide byte) (list_all wide text) (implied byte parts.0) (wider_passed narrow wide implied text parts.1)

pub digits_passed : (test : ℕ → Bool) → ((byte : ℕ) → digit_value byte < 10 → test byte ≡ true) → (digits : List ℕ) → AllDigits 10 digits → AllPassed test digits
digits_passed test digit [] h = refl
digits_passed test digit (d ∷ ds) h = and_from (test d) (list_all test ds) (digit d h.0) (digits_passed test digit ds h.1)

pub decimal_passed : (test : ℕ → Bool) → ((byte : ℕ) → digit_value byte < 10 → test byte ≡ true) → (n : ℕ) → n < 2 ^ 64 → AllPassed test (decimal n)
decimal_passed test digit n h = digits_passed test digit (decimal n) (decimal_is_IsNumeral n h).0.1

-- pieces with a byte between two of them
pub joined_passed : (test : ℕ → Bool) (byte : ℕ) → test byte ≡ true → (pieces : List (List ℕ)) → All (AllPassed test) pieces → AllPassed test (join_with_byte byte pieces)
joined_passed test byte between [] all = refl
joined_passed test byte between (piece ∷ []) all = All-head (AllPassed test) piece [] all
joined_passed test byte between (piece ∷ next ∷ pieces) all =
    append_passed test piece (byte ∷ join_with_byte byte (next ∷ pieces)) (All-head (AllPassed test) piece (next ∷ pieces) all)
    (and_from (test byte) (list_all test (join_with_byte byte (next ∷ pieces))) between
    (joined_passed test byte between (next ∷ pieces) (All-tail (AllPassed test) piece (next ∷ pieces) all)))

-- where there is a byte and all pass, one passes
pub one_passed : (test : ℕ → Bool) (text : List ℕ) → 1 ≤ length text → AllPassed test text → list_any test text ≡ true
one_passed test [] some all = absurd (omega arith)
one_passed test (byte ∷ text) some all = rw ((and_parts (test byte) (list_all test text) all).0) refl

-- a byte that passes may stand before others
pub shown_last : (test : ℕ → Bool) (a b : List ℕ) → list_any test b ≡ true → list_any test (a ++ b) ≡ true
shown_last test a b shown = list_any-append test a b ∙ or_right (list_any test a) (list_any test b) shown
