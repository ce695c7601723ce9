-- Cutting the white at both ends of a text.
use Rattle.std.proofs.Common.{◌≡◌, ℕ, ◌+◌, ◌-◌, ◌<◌, ◌≤◌, true, false, List, length, get_or, take, drop, sym, ap, ◌∙◌, arith, inl, inr, ◌⊎◌}
use Rattle.std.proofs.lemmas.Bool.{cases_eq}
use Rattle.std.specs.List.{suffix_len}
use Rattle.std.proofs.lemmas.List.{length-drop, get_or-drop}
use Rattle.std.proofs.lemmas.List.Sums.{suffix_len_is}
use Rattle.nzb_writer.specs.Markup.{is_white, trimmed}
use Rattle.nzb_index.specs.MarkupReading.{behind_white}

-- behind the end only white stands
pub record StillTrimming (bytes : List ℕ) (start end : ℕ) : Type 0 where
  pub behind : start ≤ end
  pub within : end ≤ length bytes
  pub white : (k : ℕ) → end ≤ k → k < length bytes → is_white (get_or bytes k 0) ≡ true

pub trimming_starts : (bytes : List ℕ) (start : ℕ) → start ≤ length bytes → StillTrimming bytes start (length bytes)
trimming_starts bytes start l = record { behind = l; within = omega arith; white = λ k a b. absurd (omega (arith, a, b)) }

pub trimming_goes : (bytes : List ℕ) (start end : ℕ) → StillTrimming bytes start end → start < end → is_white (get_or bytes (end - 1) 0) ≡ true → StillTrimming bytes start (end - 1)
trimming_goes bytes start end s l w = record { behind = omega (arith, l); within = (let h = s.within in omega (arith, h)); white = λ k a b. at_end k a b (cases k) }
  where
    cases : (k : ℕ) → ((k ≡ end - 1) ⊎ (k ≡ end - 1 → ⊥))
    cases k = cases_eq k (end - 1)

    at_end : (k : ℕ) → end - 1 ≤ k → k < length bytes → ((k ≡ end - 1) ⊎ (k ≡ end - 1 → ⊥)) → is_white (get_or bytes k 0) ≡ true
    at_end k a b (inl e) = ap (λ (i : ℕ). is_white (get_or bytes i 0)) e ∙ w
    at_end k a b (inr n) = s.white k (omega (arith, a, n, l)) b

pub trimming_ends : (bytes : List ℕ) (start end : ℕ) → StillTrimming bytes start end → drop start bytes ≡ behind_white bytes → (start < end → is_white (get_or bytes (end - 1) 0) ≡ false) → take (end - start) (drop start bytes) ≡ trimmed bytes
trimming_ends bytes start end s e stops = rw (cut, all) (ap (λ (t : List ℕ). take (end - start) t) e)
  where
    behind : start ≤ end
    behind = s.behind

    within : end ≤ length bytes
    within = s.within

    long : length (behind_white bytes) ≡ length bytes - start
    long = ap length (sym e) ∙ length-drop start bytes

    at : (k : ℕ) → get_or (behind_white bytes) k 0 ≡ get_or bytes (start + k) 0
    at k = ap (λ (t : List ℕ). get_or t k 0) (sym e) ∙ get_or-drop start bytes k 0

    cut : suffix_len is_white (behind_white bytes) ≡ length (behind_white bytes) - (end - start)
    cut = suffix_len_is is_white (behind_white bytes) (end - start) 0 (let l = long in let b = behind in let w = within in omega (arith, l, b, w))
        (λ k a b. ap (λ (x : ℕ). is_white x) (at k) ∙ s.white (start + k) (let c = behind in omega (arith, a, c)) (let l = long in let w = within in let c = behind in omega (arith, b, l, w, c)))
        (λ some. ap (λ (x : ℕ). is_white x) (at (end - start - 1) ∙ ap (λ (k : ℕ). get_or bytes k 0) (omega (arith, some))) ∙ stops (omega (arith, some)))

    all : length (behind_white bytes) - (length (behind_white bytes) - (end - start)) ≡ end - start
    all = let l = long in let b = behind in let w = within in omega (arith, l, b, w)
