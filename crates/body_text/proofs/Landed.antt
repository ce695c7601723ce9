-- How long a run that was landed is, and that no character of it is critical.
use Rattle.std.proofs.Common.{◌≡◌, ◌≤◌, ◌<◌, ℕ, ◌+◌, ◌-◌, Bool, not, refl, false, true, List, length, drop, get_or, sym, ◌∙◌, ap, arith, length-take, length-drop}
use Rattle.std.specs.List.{prefix_len, slice_range}
use Rattle.std.proofs.lemmas.List.{get_or-take, get_or-drop}
use Rattle.std.proofs.lemmas.List.Sums.{prefix_len_passes, prefix_len-le-length}
use Rattle.landing_kernel.specs.Characters.{is_critical, is_plain}

not_true : (b : Bool) → not b ≡ true → b ≡ false
not_true false is = refl
not_true true is = sym is

pub run_is_plain : (buf : List ℕ) (at end n : ℕ) → at ≤ end → end ≤ length buf → n ≡ prefix_len is_plain (slice_range buf at end) → (at + n ≤ end) × ((k : ℕ) → k < n → is_critical (get_or buf (at + k) 0) ≡ false)
run_is_plain buf at end n order within is =
    let part : List ℕ = slice_range buf at end in
    let long : length part ≡ end - at = omega (arith, length-take (end - at) (drop at buf), length-drop at buf) in
    let short : n ≤ length part = omega (arith, prefix_len-le-length is_plain part) in (
      omega arith,
      λ k less.
          not_true (is_critical (get_or buf (at + k) 0))
          (ap is_plain (sym (get_or-take (end - at) (drop at buf) k 0 (omega arith) ∙ get_or-drop at buf k 0)) ∙ prefix_len_passes is_plain part k 0 (omega arith)),
    )
