-- Where CRLF may stand.
use Rattle.std.proofs.Common.{◌≡◌, ◌≢◌, ℕ, suc, List, [], ◌∷◌, ◌++◌, length, refl, ap, ◌∙◌, append_assoc, arith, ◌==◌, true, false}
use Rattle.std.proofs.lemmas.Bool.Decides.{nat_tests}
use Rattle.dot_blocks.specs.Blocks.{HoldsNoLineEnd}
use Rattle.dot_blocks.specs.Heard.{EndsWithReturn}

pub no_end_in_none : HoldsNoLineEnd []
no_end_in_none [] b e = absurd cc
no_end_in_none (c ∷ a) b e = absurd cc

pub no_end_in_one : (x : ℕ) → HoldsNoLineEnd (x ∷ [])
no_end_in_one x [] b e = absurd cc
no_end_in_one x (c ∷ []) b e = absurd cc
no_end_in_one x (c ∷ d ∷ a) b e = absurd cc

pub no_end_in_rest : (x : ℕ) (bytes : List ℕ) → HoldsNoLineEnd (x ∷ bytes) → HoldsNoLineEnd bytes
no_end_in_rest x bytes h a b e = h (x ∷ a) b (ap (λ (w : List ℕ). x ∷ w) e)

pub no_end_behind_dot : (bytes : List ℕ) → HoldsNoLineEnd bytes → HoldsNoLineEnd (46 ∷ bytes)
no_end_behind_dot bytes h [] b e = absurd cc
no_end_behind_dot bytes h (c ∷ a) b e = h a b (cc)

-- the first CRLF is the one that ends bytes without it
pub first_end : (u v x y : List ℕ) → HoldsNoLineEnd u → HoldsNoLineEnd v → u ++ 13 ∷ 10 ∷ x ≡ v ++ 13 ∷ 10 ∷ y → (u ≡ v) × (x ≡ y)
first_end [] [] x y p q e = (refl, cc)
first_end [] (c ∷ []) x y p q e = absurd cc
first_end [] (c ∷ d ∷ v) x y p q e = absurd (q [] v (cc))
first_end (c ∷ []) [] x y p q e = absurd cc
first_end (c ∷ d ∷ u) [] x y p q e = absurd (p [] u (cc))
first_end (a ∷ u) (b ∷ v) x y p q e =
    let r = first_end u v x y (no_end_in_rest a u p) (no_end_in_rest b v q) (cc) in (cc, r.1)

pub return_behind : (x : ℕ) (u : List ℕ) → EndsWithReturn u → EndsWithReturn (x ∷ u)
return_behind x u (front, e) = (x ∷ front, ap (λ (w : List ℕ). x ∷ w) e)

-- two pieces without CRLF hold none together where the first doesn't end with CR or the second doesn't begin with LF
pub joined : (u v : List ℕ) → HoldsNoLineEnd u → HoldsNoLineEnd v → (EndsWithReturn u → (w : List ℕ) → v ≢ 10 ∷ w) → HoldsNoLineEnd (u ++ v)
joined [] v p q n = q
joined (x ∷ u) v p q n = behind_one u
    (λ e f w g. n ([], ap (λ (t : List ℕ). x ∷ t) e ∙ ap (λ (y : ℕ). y ∷ []) f) w g)
    (λ b e. p [] b e)
    (joined u v (no_end_in_rest x u p) q (λ r w f. n (return_behind x u r) w f))
  where
    behind_one : (t : List ℕ) → (t ≡ [] → x ≡ 13 → (w : List ℕ) → v ≢ 10 ∷ w) → ((b : List ℕ) → x ∷ t ≢ 13 ∷ 10 ∷ b) → HoldsNoLineEnd (t ++ v) → HoldsNoLineEnd (x ∷ (t ++ v))
    behind_one [] m k h [] b e = m refl (cc) b (cc)
    behind_one (y ∷ t) m k h [] b e = k t (cc)
    behind_one t m k h (c ∷ a) b e = h a b (cc)

-- the front of bytes without CRLF has none
pub no_end_in_front : (u v : List ℕ) → HoldsNoLineEnd (u ++ v) → HoldsNoLineEnd u
no_end_in_front u v h a b e = h a (b ++ v) (ap (λ (t : List ℕ). t ++ v) e ∙ append_assoc a (13 ∷ 10 ∷ b) v)

-- no bytes begin with LF
pub none_begins : (bytes rest : List ℕ) → (length bytes == 0) ≡ true → bytes ≡ 10 ∷ rest → ⊥
none_begins [] rest none e = absurd cc
none_begins (x ∷ bytes) rest none e = let some : (suc (length bytes) == 0) ≡ false = grind (arith, nat_tests) in absurd cc
