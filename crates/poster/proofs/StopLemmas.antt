-- Where a run of a post stopped, from its outcomes.
use Rattle.std.proofs.Common.{◌≡◌, ◌-◌, ◌*◌, ◌≤◌, ◌==◌, ℕ, suc, zero, true, false, List, [], ◌∷◌, refl, sym, subst, ◌∙◌, length, take, drop, arith}
use Rattle.std.specs.Prelude.{if◌then◌else◌}
use Rattle.std.specs.List.{AllByRecursion}
use Rattle.std.proofs.lemmas.List.{length-map}
use Rattle.link_dialog.specs.Replies.{Reply}
use Rattle.poster.specs.Said.{Made, blocks_of, article_end, post_length, ends_of, outcomes_of}
use Rattle.poster.specs.Session.{HasAnswer, IsAnswer, IsUnreached, StopsAt}
use Rattle.poster.specs.declared.index.PartEnd.{PartEnd}
use Rattle.poster.specs.declared.index.PartEnd.TheVariants.{Posted, Refused}
use Rattle.poster.specs.declared.index.Sent.{Sent}
use Rattle.poster.proofs.SaidLemmas.{count_of_ends, count_of_outcomes}

-- ---- behind it

none_reached : (n : ℕ) → AllByRecursion IsUnreached (outcomes_of n [] [])
none_reached zero = tt
none_reached (suc n) = ((refl, refl), none_reached n)

behind : (n : ℕ) (ends : List PartEnd) (mades : List Made) → length ends ≡ length mades → AllByRecursion IsUnreached (drop (length mades) (outcomes_of n ends mades))
behind zero ends [] same = tt
behind zero ends (made ∷ mades) same = tt
behind (suc n) [] [] same = none_reached (suc n)
behind (suc n) [] (made ∷ mades) same = absurd (omega (arith, same))
behind (suc n) (end ∷ ends) [] same = absurd (omega (arith, same))
behind (suc n) (end ∷ ends) (made ∷ mades) same = behind n ends mades (omega (arith, same))

-- ---- before it

is_answer : (code : ℕ) → IsAnswer (article_end code)
is_answer code = elim (code == 240) as (λ b. IsAnswer (if b then Posted else Refused code)) [ true ↦ tt | false ↦ tt ]

answered : (n k out : ℕ) (answers : List Reply) (mades : List Made) → 2 * k ≤ length answers → k ≤ length mades → AllByRecursion HasAnswer (take k (outcomes_of n (ends_of answers out (blocks_of mades)) mades))
answered n zero out answers mades many few = tt
answered zero (suc k) out answers mades many few = tt
answered (suc n) (suc k) out [] mades many few = absurd (omega (arith, many))
answered (suc n) (suc k) out (reply ∷ []) mades many few = absurd (omega (arith, many))
answered (suc n) (suc k) out (reply ∷ answer ∷ answers) [] many few = absurd (omega (arith, few))
answered (suc n) (suc k) out (reply ∷ answer ∷ answers) (made ∷ mades) many few =
    (is_answer answer.code, answered n k (out - post_length - length made.block) answers mades (omega (arith, many)) (omega (arith, few)))

-- ---- all of it

-- Each part before the last whose article was made has its two replies.
pub stops_at : (total out : ℕ) (answers : List Reply) (mades : List Made) (sent : List Sent) → 1 ≤ length mades → length mades ≤ total → 2 * (length mades - 1) ≤ length answers →
    sent ≡ outcomes_of total (ends_of answers out (blocks_of mades)) mades → StopsAt (length mades) sent
stops_at total out answers mades sent some few many is =
    let ends : List PartEnd = ends_of answers out (blocks_of mades) in
    let same : length ends ≡ length mades = count_of_ends answers out (blocks_of mades) ∙ length-map mades (λ (m : Made). m.block) in
    let stops : StopsAt (length mades) (outcomes_of total ends mades) = record {
      first = some;
      last = omega (arith, few, count_of_outcomes total ends mades);
      answered = answered total (length mades - 1) out answers mades many (omega arith);
      unreached = behind total ends mades same;
    } in
    subst (λ (l : List Sent). StopsAt (length mades) l) (sym is) stops
