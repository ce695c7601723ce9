-- The parts of a plan.
use Rattle.std.proofs.Common.{◌≡◌, ◌≢◌, ℕ, ◌+◌, ◌-◌, ◌*◌, ◌/◌, ◌≤◌, ◌<◌, List, [], ◌∷◌, ◌++◌, length, get_or, sym, ap, ◌∙◌, arith}
use Rattle.std.specs.Prelude.{map}
use Rattle.std.specs.Int.{div_ceil}
use Rattle.std.specs.List.{range_with_len}
use Rattle.std.proofs.lemmas.Nat.{div-add-mod', div_below, le-div, mod_below}
use Rattle.std.proofs.lemmas.Grind.{div_ceil_times}
use Rattle.std.proofs.lemmas.List.FromFn.{get_or-map-range_with_len, length-map-range_with_len, map-range_with_len_more}
use Rattle.article_head.proofs.PartIdLaws.{ids_differ}
use Rattle.yenc_body.specs.Parts.{most_parts, parts_of}
use Rattle.poster.specs.Plan.{IsOffsetOf, IsPartNumber, IsPlanOf, id_of, planned_part}
use Rattle.poster.specs.Settings.{AreSettings}
use Rattle.poster.specs.declared.parts.Plan.{Plan}
use Rattle.poster.specs.declared.parts.PlanPart.{PlanPart}
use Rattle.poster.specs.declared.settings.Settings.{Settings}

pub planned_ids_differ : (s : Settings) (size part other : ℕ) → parts_of size s.part_size ≤ most_parts →
    part ≤ parts_of size s.part_size → other ≤ parts_of size s.part_size → part ≢ other → id_of s size part ≢ id_of s size other
planned_ids_differ s size part other few p o differ = ids_differ s.token s.domain part other (parts_of size s.part_size) (omega (arith, p, few)) (omega (arith, o, few)) differ

-- how often a length goes into a number
goes_into : (n k len : ℕ) → 1 ≤ len → k * len ≤ n → n < k * len + len → n / len ≡ k
goes_into n k len some low high =
    let next : (k + 1) * len ≡ k * len + len = grind arith in
    omega (arith, le-div k n len some low, div_below n len (k + 1) some (omega (arith, next, high)))

pub each_offset : (s : Settings) (size offset : ℕ) → AreSettings s → 1 ≤ offset → offset ≤ size →
    (part : ℕ) × IsPartNumber size s.part_size part × IsOffsetOf (planned_part s size part) offset
    × ((other : ℕ) → IsPartNumber size s.part_size other → IsOffsetOf (planned_part s size other) offset → other ≡ part)
each_offset s size offset settings first last =
    let len = s.part_size in
    let some = settings.part_size_least in
    let n : ℕ = offset - 1 in
    let k : ℕ = n / len in
    let low = div-add-mod' n len in
    let high = mod_below n len some in
    let there : k < div_ceil size len = div_below n len (div_ceil size len) some (omega (arith, (div_ceil_times size len some).0)) in
    let place : (k + 1 - 1) * len ≡ k * len = ap (λ m. m * len) (omega arith) in (
      k + 1,
      (omega arith, omega (arith, there)),
      (omega (arith, place, low), omega (arith, place, low, high)),
      λ other number holds.
          let before = goes_into n (other - 1) len some (omega (arith, holds.0)) (omega (arith, holds.1)) in
          omega (arith, before, number.0),
    )

-- ---- the plan

-- how many parts a plan has
pub count_of_parts : (s : Settings) (p : Plan) → IsPlanOf s p.size p → length p.parts ≡ parts_of p.size s.part_size
count_of_parts s p plan = ap length plan.parts_are ∙ length-map-range_with_len (planned_part s p.size) 1 (parts_of p.size s.part_size)

-- the part at a place of a plan
pub part_at : (s : Settings) (p : Plan) (i : ℕ) (d : PlanPart) → IsPlanOf s p.size p → 1 ≤ i → i ≤ length p.parts → get_or p.parts (i - 1) d ≡ planned_part s p.size i
part_at s p i d plan first last =
    ap (λ parts. get_or parts (i - 1) d) plan.parts_are
    ∙ get_or-map-range_with_len (planned_part s p.size) 1 (parts_of p.size s.part_size) (i - 1) i d (omega (arith, last, count_of_parts s p plan)) (omega arith)

-- a number up to a plan's length is that of a part
pub part_number : (s : Settings) (p : Plan) (part : ℕ) → IsPlanOf s p.size p → 1 ≤ part → part ≤ length p.parts → IsPartNumber p.size s.part_size part
part_number s p part plan first last = (first, omega (arith, last, count_of_parts s p plan))

-- what is read at a place of a plan
pub part_read : (s : Settings) (p : Plan) (part : ℕ) (parts : List PlanPart) (planned : PlanPart) → IsPlanOf s p.size p → 1 ≤ part → part ≤ length p.parts → parts ≡ p.parts
    → planned ≡ get_or parts (part - 1) planned → planned ≡ planned_part s p.size part
part_read s p part parts planned plan first last same read =
    read ∙ ap (λ list. get_or list (part - 1) planned) same ∙ part_at s p part planned plan first last

-- one more part
pub parts_more : (s : Settings) (size before : ℕ) (old new : List PlanPart) (part : PlanPart) → old ≡ map (planned_part s size) (range_with_len 1 before) → new ≡ old ++ part ∷ []
    → part ≡ planned_part s size (before + 1) → new ≡ map (planned_part s size) (range_with_len 1 (before + 1))
parts_more s size before old new part so_far pushed is =
    pushed ∙ rw (so_far, is) (sym (map-range_with_len_more (planned_part s size) 1 before (before + 1) (omega arith)))
