-- What stands before the zeros at an end.
use Rattle.std.proofs.Common.{◌≡◌, ℕ, zero, suc, ◌+◌, ◌-◌, ◌<◌, ◌≤◌, List, [], ◌∷◌, ◌++◌, length, take, get_or, refl, sym, ap, ◌∙◌, arith}
use Rattle.std.proofs.lemmas.List.{take_more}
use Rattle.par2_check.specs.Bodies.{before_kept, without_zeros}

zero_behind : (bytes : List ℕ) → without_zeros (bytes ++ 0 ∷ []) ≡ without_zeros bytes
zero_behind [] = refl
zero_behind (byte ∷ bytes) = ap (before_kept byte) (zero_behind bytes)

before_some : (byte last : ℕ) (bytes : List ℕ) → before_kept byte (bytes ++ last ∷ []) ≡ byte ∷ (bytes ++ last ∷ [])
before_some zero last [] = refl
before_some zero last (next ∷ bytes) = refl
before_some (suc byte) last bytes = refl

some_behind : (bytes : List ℕ) (last : ℕ) → ¬ (last ≡ 0) → without_zeros (bytes ++ last ∷ []) ≡ bytes ++ last ∷ []
some_behind [] zero some = absurd (some refl)
some_behind [] (suc last) some = refl
some_behind (byte ∷ bytes) last some = ap (before_kept byte) (some_behind bytes last some) ∙ before_some byte last bytes

cut : (bytes : List ℕ) (end : ℕ) → 0 < end → end ≤ length bytes → take end bytes ≡ take (end - 1) bytes ++ get_or bytes (end - 1) 0 ∷ []
cut bytes end some inside =
    let e : end ≡ end - 1 + 1 = omega arith in
    ap (λ n. take n bytes) e ∙ take_more bytes (end - 1) 0 (omega arith)

-- where the last byte is a zero, it is passed
pub zero_passed : (bytes : List ℕ) (end : ℕ) → 0 < end → end ≤ length bytes → get_or bytes (end - 1) 0 ≡ 0 → without_zeros (take (end - 1) bytes) ≡ without_zeros (take end bytes)
zero_passed bytes end some inside is =
    sym (ap without_zeros (cut bytes end some inside) ∙ ap (λ (last : ℕ). without_zeros (take (end - 1) bytes ++ last ∷ [])) is ∙ zero_behind (take (end - 1) bytes))

-- where it isn't, all is kept
pub all_kept : (bytes : List ℕ) (end : ℕ) → 0 < end → end ≤ length bytes → ¬ (get_or bytes (end - 1) 0 ≡ 0) → take end bytes ≡ without_zeros (take end bytes)
all_kept bytes end some inside is =
    let e = cut bytes end some inside in
    e ∙ sym (ap without_zeros e ∙ some_behind (take (end - 1) bytes) (get_or bytes (end - 1) 0) is)
