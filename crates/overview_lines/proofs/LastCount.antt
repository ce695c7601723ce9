-- The last count of a text, place by place from its end on.
use Rattle.std.proofs.Common.{◌≡◌, ◌≤◌, ◌<◌, ℕ, suc, zero, ◌+◌, ◌-◌, List, length, drop, Option, Some, None, refl, ◌∙◌, ap, subst, arith, add-one, drop-cons}
use Rattle.std.specs.Option.{option_or}
use Rattle.overview_lines.specs.declared.count.Count.{Count}
use Rattle.overview_lines.specs.Count.{count_at, count_of, last_count}

-- the last count from a place on is the last one behind that place, or else the one that starts there
pub last_here : (at : ℕ) (subject : List ℕ) → at < length subject → last_count at (drop at subject) ≡ option_or (last_count (at + 1) (drop (at + 1) subject)) (count_at at (drop at subject))
unfolding last_count
last_here at subject inside = rw (drop-cons subject at 0, add-one) refl

-- a count that starts last in what stands behind a place is the last of all
pub last_of_all : (at : ℕ) (subject : List ℕ) (count : Count) → at ≤ length subject → last_count at (drop at subject) ≡ Some count → count_of subject ≡ Some count
unfolding count_of
last_of_all zero subject count inside is = is
last_of_all (suc at) subject count inside is =
    last_of_all at subject count (omega arith) (last_here at subject (omega arith) ∙ rw add-one (ap (λ (o : Option Count). option_or o (count_at at (drop at subject))) is))

-- behind whose place no other starts
pub found_is_last : (start : ℕ) (subject : List ℕ) (count : Count) → 0 < start → start ≤ length subject → last_count start (drop start subject) ≡ None →
    count_at (start - 1) (drop (start - 1) subject) ≡ Some count → count_of subject ≡ Some count
found_is_last zero subject count some inside none is = absurd (omega arith)
found_is_last (suc at) subject count some inside none is =
    let same : suc at - 1 ≡ at = omega arith in
    last_of_all at subject count (omega arith)
    (last_here at subject (omega arith) ∙ rw add-one (ap (λ (o : Option Count). option_or o (count_at at (drop at subject))) none ∙ subst (λ (n : ℕ). count_at n (drop n subject) ≡ Some count) same is))
