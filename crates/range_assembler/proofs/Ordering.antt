-- What stands in an order of ranges, and what a change of one entry makes of it.
use Rattle.std.proofs.Common.{◌≡◌, ◌+◌, ◌-◌, ◌<◌, ◌≤◌, ◌⊎◌, inl, inr, zero, suc, ℕ, Bool, true, false, ◌&&◌, ◌||◌, List, [], ◌∷◌, Option, Some, None, length, refl, ap, sym, subst, ◌∙◌, arith}
use Rattle.std.specs.Prelude.{slice_get, cond, nat_lt, nat_le, ◌==◌}
use Rattle.std.proofs.lemmas.Bool.Decides.{nat_tests}
use Rattle.std.proofs.lemmas.Bool.{cases_lt, cases_eq}
use Rattle.std.proofs.lemmas.Option.{slice_get_past}
use Rattle.range_assembler.specs.declared.assembler.Entry.{Entry}
use Rattle.range_assembler.specs.declared.assembler.Clash.{Clash}
use Rattle.range_assembler.specs.declared.sequence.Range.{Range}
use Rattle.range_assembler.specs.Before.{is_before, IsPlace}
use Rattle.range_assembler.specs.Entries.{least_clash, shares, is_taken}
use Rattle.range_assembler.specs.Order.{Precedes, range_of, is_shown, IsOfEntry, IsOrder, clash_with}
use Rattle.range_assembler.proofs.Scanning.{both, no_clash}
use Rattle.range_assembler.proofs.SetLaws.{shared, shared_means, found_of}

-- what stands before an offset
pub means_before : (file offset : ℕ) (range : Range) → range.file ≡ file → range.last < offset → is_before file offset range ≡ true
means_before file offset range its low =
    let a : nat_lt range.file file ≡ false = grind (arith, nat_tests) in
    let b : (range.file == file) ≡ true = grind (arith, nat_tests) in
    let c : nat_lt range.last offset ≡ true = grind (arith, nat_tests) in
    rw (a, b, c) refl

pub earlier_before : (file offset : ℕ) (range : Range) → range.file < file → is_before file offset range ≡ true
earlier_before file offset range low = let a : nat_lt range.file file ≡ true = grind (arith, nat_tests) in rw a refl

pub reaches : (file offset : ℕ) (range : Range) → range.file ≡ file → offset ≤ range.last → is_before file offset range ≡ false
reaches file offset range its high =
    let a : nat_lt range.file file ≡ false = grind (arith, nat_tests) in
    let b : (range.file == file) ≡ true = grind (arith, nat_tests) in
    let c : nat_lt range.last offset ≡ false = grind (arith, nat_tests) in
    rw (a, b, c) refl

pub not_before : (file offset : ℕ) (range : Range) → is_before file offset range ≡ false → (file < range.file) ⊎ ((range.file ≡ file) × (offset ≤ range.last))
not_before file offset range is = elim (cases_lt range.file file) [
  | inl low ↦ (let no_way : true ≡ false = sym (earlier_before file offset range low) ∙ is in cc)
  | inr high ↦ elim (cases_lt file range.file) [
    | inl above ↦ inl above
    | inr upto ↦ (let same : range.file ≡ file = omega (arith, high, upto) in elim (cases_lt range.last offset) [
      | inl ends ↦ (let no_way : true ≡ false = sym (means_before file offset range same ends) ∙ is in cc)
      | inr reach ↦ inr (same, reach)
    ])
  ]
]

pub before_means : (file offset : ℕ) (range : Range) → is_before file offset range ≡ true → (range.file < file) ⊎ ((range.file ≡ file) × (range.last < offset))
before_means file offset range is = elim (cases_lt range.file file) [
  | inl low ↦ inl low
  | inr high ↦ (let a : nat_lt range.file file ≡ false = grind (arith, nat_tests) in
      let rest : ((range.file == file) && nat_lt range.last offset) ≡ true = subst (λ b. (b || ((range.file == file) && nat_lt range.last offset)) ≡ true) a is in
      let parts = both (range.file == file) (nat_lt range.last offset) rest in
      let one : (range.file == file) ≡ true = parts.0 in
      let two : nat_lt range.last offset ≡ true = parts.1 in
      let its : range.file ≡ file = grind (arith, nat_tests) in
      let ends : range.last < offset = grind (arith, nat_tests) in
      inr (its, ends))
]

pub shown_means : (entry : Entry) → is_shown entry ≡ true → (is_taken entry.hold ≡ true) × (entry.first ≤ entry.last)
shown_means entry is =
    let parts = both (is_taken entry.hold) (nat_le entry.first entry.last) is in
    let test : nat_le entry.first entry.last ≡ true = parts.1 in
    let some : entry.first ≤ entry.last = grind (arith, nat_tests) in
    (parts.0, some)

pub some_shown : (entry : Entry) → is_taken entry.hold ≡ true → entry.first ≤ entry.last → is_shown entry ≡ true
some_shown entry taken some = let test : nat_le entry.first entry.last ≡ true = grind (arith, nat_tests) in rw (taken, test) refl

pub record IsSome (ranges : List Range) (k : ℕ) : Type 0 where
  pub range : Range
  pub there : slice_get ranges k ≡ Some range

pub some_at : (ranges : List Range) (k : ℕ) → k < length ranges → IsSome ranges k
some_at [] k low = absurd (omega arith)
some_at (range ∷ ranges) zero low = record { range = range; there = refl }
some_at (range ∷ ranges) (suc k) low = let more = some_at ranges k (omega arith) in record { range = more.range; there = more.there }

pub within : (ranges : List Range) (k : ℕ) (range : Range) → slice_get ranges k ≡ Some range → k < length ranges
within ranges k range is = elim (cases_lt k (length ranges)) [
  | inl below ↦ below
  | inr past ↦ (let no_way : None ≡ Some range = sym (slice_get_past ranges k past) ∙ is in cc)
]

-- a range of an order isn't empty
pub has_offset : (entries : List Entry) (ranges : List Range) (k : ℕ) (range : Range) → IsOrder entries ranges → slice_get ranges k ≡ Some range → range.first ≤ range.last
has_offset entries ranges k range order is =
    let stands = order.sound k range is in
    let some = (shown_means stands.entry stands.shown).1 in
    let first : range.first ≡ stands.entry.first = ap (λ (r : Range). r.first) stands.same in
    let last : range.last ≡ stands.entry.last = ap (λ (r : Range). r.last) stands.same in
    omega (arith, some, first, last)

-- a range before one that is before an offset is before it too
before_chain : (file offset : ℕ) (one other : Range) → Precedes one other → other.first ≤ other.last → is_before file offset other ≡ true → is_before file offset one ≡ true
before_chain file offset one other precedes some is = elim (before_means file offset other is) [
  | inl low ↦ elim precedes [
    | inl less ↦ earlier_before file offset one (omega (arith, low, less))
    | inr ends ↦ earlier_before file offset one (omega (arith, low, ends.0))
  ]
  | inr low ↦ elim precedes [
    | inl less ↦ earlier_before file offset one (omega (arith, low.0, less))
    | inr ends ↦ means_before file offset one (ends.0 ∙ low.0) (omega (arith, low.1, ends.1, some))
  ]
]

-- all that stands below the place is before the offset
pub below_place : (entries : List Entry) (ranges : List Range) (file offset place k : ℕ) (range : Range) → IsOrder entries ranges → IsPlace file offset ranges place → k < place → slice_get ranges k ≡ Some range → is_before file offset range ≡ true
below_place entries ranges file offset place k range order at low is = elim (cases_eq (k + 1) place) [
  | inl next ↦ at.below k range next is
  | inr other ↦ (let inside : place - 1 < length ranges = (let w = at.within in omega (arith, w, low)) in
      let last = some_at ranges (place - 1) inside in
      let end : (place - 1) + 1 ≡ place = omega (arith, low) in
      let less : k < place - 1 = omega (arith, low, other) in
      before_chain file offset range last.range (order.rising k (place - 1) range last.range less is last.there) (has_offset entries ranges (place - 1) last.range order last.there) (at.below (place - 1) last.range end last.there))
]

-- where a range that reaches the offset stands
pub from_place : (entries : List Entry) (ranges : List Range) (file offset place k : ℕ) (range : Range) → IsOrder entries ranges → IsPlace file offset ranges place → slice_get ranges k ≡ Some range → is_before file offset range ≡ false → place ≤ k
from_place entries ranges file offset place k range order at is reach = elim (cases_lt k place) [
  | inl low ↦ (let no_way : true ≡ false = sym (below_place entries ranges file offset place k range order at low is) ∙ reach in cc)
  | inr high ↦ high
]

-- the range at the place, where a range behind it is of the file
pub record Leads (file offset : ℕ) (ranges : List Range) (place : ℕ) (behind : Range) : Type 0 where
  pub range : Range
  pub there : slice_get ranges place ≡ Some range
  pub its : range.file ≡ file
  pub reach : offset ≤ range.last
  pub ends : range.last < behind.first

pub leads : (entries : List Entry) (ranges : List Range) (file offset place k : ℕ) (behind : Range) → IsOrder entries ranges → IsPlace file offset ranges place → slice_get ranges k ≡ Some behind → behind.file ≡ file → place < k → Leads file offset ranges place behind
leads entries ranges file offset place k behind order at is its high =
    let inside : place < length ranges = (let w = within ranges k behind is in omega (arith, w, high)) in
    let here = some_at ranges place inside in
    let precedes = order.rising place k here.range behind high here.there is in
    elim (not_before file offset here.range (at.from here.range here.there)) [
      | inl above ↦ elim precedes [
        | inl less ↦ absurd (omega (arith, above, less, its))
        | inr ends ↦ absurd (omega (arith, above, ends.0, its))
      ]
      | inr same ↦ elim precedes [
        | inl less ↦ absurd (omega (arith, same.0, less, its))
        | inr ends ↦ record { range = here.range; there = here.there; its = same.0; reach = same.1; ends = ends.1 }
      ]
    ]

with_true : (file first last : ℕ) (range : Range) → range.file ≡ file → range.first ≤ last → first ≤ last → clash_with file first last (Some range) ≡ Some record { other = range.segment; first = range.first; last = range.last }
with_true file first last range its low asked =
    let a : (range.file == file) ≡ true = grind (arith, nat_tests) in
    let b : nat_le range.first last ≡ true = grind (arith, nat_tests) in
    let c : nat_le first last ≡ true = grind (arith, nat_tests) in
    rw (a, b, c) refl

-- the entry of a range at the place shares an offset
stands_shared : (entries : List Entry) (ranges : List Range) (file first last k : ℕ) (range : Range) → IsOrder entries ranges → (stands : IsOfEntry entries range) → range.file ≡ file → range.first ≤ last → first ≤ range.last → first ≤ last → shares file first last stands.entry ≡ true
stands_shared entries ranges file first last k range order stands its low reach asked =
    let means = shown_means stands.entry stands.shown in
    let some = means.1 in
    let one : range.first ≡ stands.entry.first = ap (λ (r : Range). r.first) stands.same in
    let two : range.last ≡ stands.entry.last = ap (λ (r : Range). r.last) stands.same in
    let three : range.file ≡ stands.entry.file = ap (λ (r : Range). r.file) stands.same in
    elim (cases_lt first range.first) [
      | inl above ↦ shared file first last range.first stands.entry (record { its = sym three ∙ its; taken = means.0; low = omega (arith, one); high = omega (arith, one, some) }) (omega (arith, above)) low
      | inr upto ↦ shared file first last first stands.entry (record { its = sym three ∙ its; taken = means.0; low = omega (arith, one, upto); high = omega (arith, two, reach) }) (omega arith) asked
    ]

none_range : (entries : List Entry) (ranges : List Range) (file first last place : ℕ) (range : Range) → IsOrder entries ranges → IsPlace file first ranges place → slice_get ranges place ≡ Some range → least_clash 0 file first last entries ≡ None → (b : Bool) → ((range.file == file) && nat_le range.first last && nat_le first last) ≡ b → cond {A = Option Clash} b (Some record { other = range.segment; first = range.first; last = range.last }) None ≡ None
none_range entries ranges file first last place range order at is none false test = refl
none_range entries ranges file first last place range order at is none true test =
    let two = both ((range.file == file) && nat_le range.first last) (nat_le first last) test in
    let one = both (range.file == file) (nat_le range.first last) two.0 in
    let a : (range.file == file) ≡ true = one.0 in
    let b : nat_le range.first last ≡ true = one.1 in
    let c : nat_le first last ≡ true = two.1 in
    let its : range.file ≡ file = grind (arith, nat_tests) in
    let low : range.first ≤ last = grind (arith, nat_tests) in
    let asked : first ≤ last = grind (arith, nat_tests) in
    let stands = order.sound place range is in
    elim (not_before file first range (at.from range is)) [
      | inl above ↦ absurd (omega (arith, above, its))
      | inr same ↦ (let some : shares file first last stands.entry ≡ true = stands_shared entries ranges file first last place range order stands its low same.1 asked in
          let no_way : true ≡ false = sym some ∙ no_clash 0 file first last entries range.segment stands.entry none stands.there in cc)
    ]

none_case : (entries : List Entry) (ranges : List Range) (file first last place : ℕ) (o : Option Range) → IsOrder entries ranges → IsPlace file first ranges place → slice_get ranges place ≡ o → least_clash 0 file first last entries ≡ None → clash_with file first last o ≡ None
none_case entries ranges file first last place None order at is none = refl
none_case entries ranges file first last place (Some range) order at is none = none_range entries ranges file first last place range order at is none ((range.file == file) && nat_le range.first last && nat_le first last) refl

same_clash : (segment : ℕ) (entry : Entry) (clash : Clash) → segment ≡ clash.other → entry.first ≡ clash.first → entry.last ≡ clash.last → record { other = segment; first = entry.first; last = entry.last } ≡ clash
same_clash segment entry clash a b c = rw (a, b, c) refl

some_case : (entries : List Entry) (ranges : List Range) (file first last place : ℕ) (clash : Clash) → IsOrder entries ranges → IsPlace file first ranges place → least_clash 0 file first last entries ≡ Some clash → clash_with file first last (slice_get ranges place) ≡ Some clash
some_case entries ranges file first last place clash order at is =
    let found = found_of 0 file first last entries clash is in
    let means = shared_means file first last found.entry found.its in
    let listed = order.whole found.place found.entry found.there (some_shown found.entry means.taken means.some) in
    let high = from_place entries ranges file first place listed.place (range_of found.place found.entry) order at listed.there (reaches file first (range_of found.place found.entry) means.its means.ends) in
    elim (cases_eq listed.place place) [
      | inl same ↦ (let there : slice_get ranges place ≡ Some (range_of found.place found.entry) = subst (λ k. slice_get ranges k ≡ Some (range_of found.place found.entry)) same listed.there in
          let number : found.place ≡ clash.other = (let e : 0 + found.place ≡ found.place = omega arith in sym (found.number ∙ e)) in
          let hit = with_true file first last (range_of found.place found.entry) means.its means.begins means.asked in
          let begins = found.begins in
          let ends = found.ends in
          rw (there, hit) (ap (λ (c : Clash). Some c) (same_clash found.place found.entry clash number begins ends)))
      | inr other ↦ (let behind : place < listed.place = omega (arith, high, other) in
          let lead = leads entries ranges file first place listed.place (range_of found.place found.entry) order at listed.there means.its behind in
          let stands = order.sound place lead.range lead.there in
          let some = has_offset entries ranges place lead.range order lead.there in
          let low : lead.range.first ≤ last = (let e = lead.ends in let b = means.begins in omega (arith, e, b, some)) in
          let shared_too = stands_shared entries ranges file first last place lead.range order stands lead.its low lead.reach means.asked in
          let least = found.least lead.range.segment stands.entry stands.there shared_too in
          let one : lead.range.first ≡ stands.entry.first = ap (λ (r : Range). r.first) stands.same in
          let begins = found.begins in
          let e = lead.ends in
          absurd (omega (arith, least, one, begins, e, some)))
    ]

clash_case : (entries : List Entry) (ranges : List Range) (file first last place : ℕ) (o : Option Clash) → IsOrder entries ranges → IsPlace file first ranges place → least_clash 0 file first last entries ≡ o → clash_with file first last (slice_get ranges place) ≡ o
clash_case entries ranges file first last place None order at is = none_case entries ranges file first last place (slice_get ranges place) order at refl is
clash_case entries ranges file first last place (Some clash) order at is = some_case entries ranges file first last place clash order at is

-- the range at the place tells the clash
pub clash_found : (entries : List Entry) (ranges : List Range) (file first last place : ℕ) → IsOrder entries ranges → IsPlace file first ranges place → clash_with file first last (slice_get ranges place) ≡ least_clash 0 file first last entries
clash_found entries ranges file first last place order at = clash_case entries ranges file first last place (least_clash 0 file first last entries) order at refl
