-- The gaps beside the entries: what each call keeps of them.
use Rattle.std.proofs.Common.{◌≡◌, ◌≢◌, ◌+◌, ◌-◌, ◌<◌, ◌≤◌, ◌^◌, ◌⊎◌, inl, inr, zero, suc, ℕ, Bool, true, false, List, [], ◌∷◌, Option, Some, None, length, refl, ap, sym, subst, ◌∙◌, arith, set, length-set}
use Rattle.std.specs.Prelude.{slice_get, cond, nat_lt, nat_le, insert}
use Rattle.std.proofs.lemmas.Bool.Decides.{nat_tests}
use Rattle.std.proofs.lemmas.Bool.{cases_lt, cases_eq}
use Rattle.range_assembler.specs.declared.assembler.Entry.{Entry}
use Rattle.range_assembler.specs.declared.assembler.Hold.{Hold}
use Rattle.range_assembler.specs.declared.assembler.Hold.TheVariants.{Free, Held, Accepted}
use Rattle.range_assembler.specs.declared.sequence.Range.{Range}
use Rattle.range_assembler.specs.Bare.{IsGaps, IsBare, IsAcceptedAt, IsGapped, count_accepted, trimmed, next_place, carved, gap_upto, first_gaps}
use Rattle.range_assembler.specs.Before.{IsPlace}
use Rattle.range_assembler.specs.Claims.{is_free, is_held}
use Rattle.range_assembler.specs.Entries.{is_taken, is_accepted, kept_size, entries_of}
use Rattle.range_assembler.specs.Missing.{is_covered, gaps, missing_of}
use Rattle.range_assembler.specs.Order.{with_range, IsAbsent, IsIndexed}
use Rattle.range_assembler.specs.Sound.{AreSoundRanges}
use Rattle.lists.proofs.OnePlace.{get-set_other, get-set_same}
use Rattle.range_assembler.proofs.Scanning.{covered_by, covers_means, kept_is}
use Rattle.range_assembler.proofs.SetLaws.{shared}
use Rattle.range_assembler.proofs.Holds.{free_in}
use Rattle.range_assembler.proofs.Ordering.{not_before, before_means, some_at, within}
use Rattle.range_assembler.proofs.Changes.{came, one_if}
use Rattle.range_assembler.proofs.Carving.{same_gaps}
use Rattle.range_assembler.proofs.Carved.{gaps-same, has_range, carve_gaps, bare_after, bare_still, trim_length, trim_place, trim_segments}
use Rattle.range_assembler.proofs.Walk.{walk, IsFrom}
use Rattle.limits.specs.declared.TheConstants.{MOST_FILES}

count_one : (entry : Entry) (entries : List Entry) → count_accepted (entry ∷ entries) ≡ one_if (is_accepted entry.hold) + count_accepted entries
count_one entry entries = elim (is_accepted entry.hold) as (λ b. cond b (suc (count_accepted entries)) (count_accepted entries) ≡ one_if b + count_accepted entries) [ true ↦ omega arith | false ↦ omega arith ]

accepted-set : (entries : List Entry) (i : ℕ) (old new : Entry) → slice_get entries i ≡ Some old → count_accepted (set entries i new) + one_if (is_accepted old.hold) ≡ count_accepted entries + one_if (is_accepted new.hold)
accepted-set [] i old new is = cc
accepted-set (entry ∷ entries) zero old new is =
    let same : entry ≡ old = cc in
    let a = count_one new entries in
    let b : count_accepted (entry ∷ entries) ≡ one_if (is_accepted old.hold) + count_accepted entries = count_one entry entries ∙ ap (λ (x : Entry). one_if (is_accepted x.hold) + count_accepted entries) same in
    omega (arith, a, b)
accepted-set (entry ∷ entries) (suc i) old new is =
    let a = count_one entry (set entries i new) in
    let b = count_one entry entries in
    let c = accepted-set entries i old new is in
    omega (arith, a, b, c)

upto_one : (b : Bool) → one_if b ≤ 1
upto_one true = omega arith
upto_one false = omega arith

accepted-upto : (entries : List Entry) → count_accepted entries ≤ length entries
accepted-upto [] = omega arith
accepted-upto (entry ∷ entries) =
    let a = count_one entry entries in
    let b = upto_one (is_accepted entry.hold) in
    let c = accepted-upto entries in
    omega (arith, a, b, c)

as_long : {X : Type 0} (xs : List X) (i : ℕ) (x : X) → length (set xs i x) ≡ length xs
as_long xs i x = length-set xs i x

-- there is room for one more gap
pub room : (entries : List Entry) (order after : List Range × ℕ) (sizes : List (Option ℕ)) → IsIndexed entries order sizes → IsGapped entries after (length sizes) → length after.0 + 1 < 2 ^ 32
room entries order after sizes index gapped = let files = gapped.few in let a = gapped.many in let b = accepted-upto entries in let c = index.sound.few in omega (arith, a, b, c, files)

within_entries : (entries : List Entry) (k : ℕ) (entry : Entry) → slice_get entries k ≡ Some entry → k < length entries
within_entries [] k entry is = cc
within_entries (e ∷ entries) zero entry is = omega arith
within_entries (e ∷ entries) (suc k) entry is = let low = within_entries entries k entry is in omega (arith, low)

bare_by : (b : Bool) → (b ≡ true → ⊥) → b ≡ false
bare_by true no_way = absurd (no_way refl)
bare_by false no_way = refl

accepted_taken : (hold : Hold) → is_accepted hold ≡ true → is_taken hold ≡ true
accepted_taken Free is = cc
accepted_taken Held is = cc
accepted_taken (Accepted size) is = refl

pub free_only : (hold : Hold) → is_free hold ≡ true → is_accepted hold ≡ false
free_only Free is = refl
free_only Held is = cc
free_only (Accepted size) is = cc

pub held_only : (hold : Hold) → is_held hold ≡ true → (is_taken hold ≡ true) × (is_accepted hold ≡ false)
held_only Free is = cc
held_only Held is = (refl, refl)
held_only (Accepted size) is = cc

in_length : {X : Type 0} (xs : List X) (p : ℕ) (y : X) → p ≤ length xs → length (insert xs p y) ≡ length xs + 1
in_length xs zero y low = omega arith
in_length [] (suc p) y low = absurd (omega arith)
in_length (x ∷ xs) (suc p) y low = let e = in_length xs p y (omega arith) in omega (arith, e)

id_known : (entries : List Entry) (files n : ℕ) → ((length entries ≤ n) × (n < length entries + files)) ⊎ IsAcceptedAt entries n → n < length entries + files
id_known entries files n (inl a) = a.1
id_known entries files n (inr a) = let low = within_entries entries n a.entry a.there in omega (arith, low)

-- each gap is known
pub gap_known : (entries : List Entry) (after : List Range × ℕ) (files k : ℕ) (range : Range) → IsGapped entries after files → slice_get after.0 k ≡ Some range → range.segment < after.1
gap_known entries after files k range gapped is = let a = id_known entries files range.segment (gapped.ids k range is) in let b = gapped.sides in omega (arith, a, b)

-- no gap is known by a segment that isn't accepted
pub gap_absent : (entries : List Entry) (after : List Range × ℕ) (files i : ℕ) (old : Entry) → IsGapped entries after files → slice_get entries i ≡ Some old → is_accepted old.hold ≡ false → IsAbsent i after.0
gap_absent entries after files i old gapped is none k range there same = elim (gapped.ids k range there) [
  | inl a ↦ (let low = within_entries entries i old is in let b = a.0 in absurd (omega (arith, b, low, same)))
  | inr a ↦ (let at : slice_get entries i ≡ Some a.entry = ap (λ n. slice_get entries n) (sym same) ∙ a.there in
      let one : Some old ≡ Some a.entry = sym is ∙ at in
      let e : old ≡ a.entry = cc in
      let no_way : false ≡ true = sym none ∙ ap (λ (x : Entry). is_accepted x.hold) e ∙ a.accepted in cc)
]

accepted_still : (entries : List Entry) (i n : ℕ) (old new : Entry) → slice_get entries i ≡ Some old → is_accepted old.hold ≡ false → IsAcceptedAt entries n → IsAcceptedAt (set entries i new) n
accepted_still entries i n old new is none a = record {
  entry = a.entry;
  there = get-set_other entries i n new (λ same.
      let at : slice_get entries i ≡ Some a.entry = ap (λ m. slice_get entries m) (sym same) ∙ a.there in
      let one : Some old ≡ Some a.entry = sym is ∙ at in
      let e : old ≡ a.entry = cc in
      let no_way : false ≡ true = sym none ∙ ap (λ (x : Entry). is_accepted x.hold) e ∙ a.accepted in cc) ∙ a.there;
  accepted = a.accepted;
}

ids_still : (entries : List Entry) (i files n : ℕ) (old new : Entry) → slice_get entries i ≡ Some old → is_accepted old.hold ≡ false → ((length entries ≤ n) × (n < length entries + files)) ⊎ IsAcceptedAt entries n → ((length (set entries i new) ≤ n) × (n < length (set entries i new) + files)) ⊎ IsAcceptedAt (set entries i new) n
ids_still entries i files n old new is none (inl a) =
    let e = as_long entries i new in
    let b = a.0 in let c = a.1 in
    let low : length (set entries i new) ≤ n = omega (arith, e, b) in
    let high : n < length (set entries i new) + files = omega (arith, e, c) in
    inl (low, high)
ids_still entries i files n old new is none (inr a) = inr (accepted_still entries i n old new is none a)

-- an entry that isn't accepted, before and after
pub gapped-same : (entries : List Entry) (after : List Range × ℕ) (i files : ℕ) (old new : Entry) → IsGapped entries after files → slice_get entries i ≡ Some old → is_accepted old.hold ≡ false → is_accepted new.hold ≡ false → IsGapped (set entries i new) after files
gapped-same entries after i files old new gapped is none still = record {
  few = gapped.few;
  gaps_are = gaps-same entries i files old new after.0 is none still gapped.gaps_are;
  many = (let a = gapped.many in let b = accepted-set entries i old new is in let c : one_if (is_accepted old.hold) ≡ 0 = ap one_if none in let d : one_if (is_accepted new.hold) ≡ 0 = ap one_if still in omega (arith, a, b, c, d));
  sides = (let a = gapped.sides in let b = as_long entries i new in omega (arith, a, b));
  ids = λ k range there. ids_still entries i files range.segment old new is none (gapped.ids k range there);
}

-- what the range of a segment has isn't covered by another
clear : (entries : List Entry) (i offset : ℕ) (old : Entry) → AreSoundRanges entries → slice_get entries i ≡ Some old → is_taken old.hold ≡ true → is_accepted old.hold ≡ false → old.first ≤ offset → offset ≤ old.last → IsBare entries old.file offset
clear entries i offset old sound is taken none low high = bare_by (is_covered old.file entries offset) (λ covered.
    let by = covered_by old.file entries offset covered in
    let c = covers_means old.file offset by.entry by.has in
    let other : i ≢ by.place = λ same. (let at : slice_get entries i ≡ Some by.entry = ap (λ m. slice_get entries m) same ∙ by.is in
    let one : Some old ≡ Some by.entry = sym is ∙ at in
    let e : old ≡ by.entry = cc in
    let no_way : false ≡ true = sym none ∙ ap (λ (x : Entry). is_accepted x.hold) e ∙ c.accepted in cc) in
    let no_share = sound.apart i by.place old by.entry other is by.is taken in
    let yes_share = shared old.file old.first old.last offset by.entry (record { its = c.its; taken = accepted_taken by.entry.hold c.accepted; low = c.low; high = c.high }) low high in
    let no_way : true ≡ false = sym yes_share ∙ no_share in cc)

with_length : (p : ℕ) (range : Range) (ranges : List Range) → p ≤ length ranges → length (with_range p range ranges) ≤ length ranges + 1
with_length p range ranges low = elim (nat_le range.first range.last) as (λ b. length (cond b (insert ranges p range) ranges) ≤ length ranges + 1) [ true ↦ (let e = in_length ranges p range low in omega (arith, e)) | false ↦ omega arith ]

with_segments : (P : ℕ → Type 0) (p : ℕ) (range : Range) (ranges : List Range) → p ≤ length ranges → P range.segment → ((k : ℕ) (r : Range) → slice_get ranges k ≡ Some r → P r.segment) → (b : Bool) → (k : ℕ) (r : Range) → slice_get (cond b (insert ranges p range) ranges) k ≡ Some r → P r.segment
with_segments P p range ranges low mine all true k r is = elim (came ranges p range k r low is) [
  | inl c ↦ all k r c.1
  | inr c ↦ elim c [ inl d ↦ subst (λ (x : Range). P x.segment) d.1 mine | inr d ↦ all d.before r d.there ]
]
with_segments P p range ranges low mine all false k r is = all k r is

accept_many : (entries : List Entry) (i size : ℕ) (old : Entry) → slice_get entries i ≡ Some old → is_accepted old.hold ≡ false → count_accepted (set entries i record { file = old.file; hold = Accepted size; first = old.first; last = old.last }) ≡ count_accepted entries + 1
accept_many entries i size old is none =
    let a = accepted-set entries i old (record { file = old.file; hold = Accepted size; first = old.first; last = old.last }) is in
    let b : one_if (is_accepted old.hold) ≡ 0 = ap one_if none in
    omega (arith, a, b)

-- a part with offsets
accept_some : (entries : List Entry) (gaps : List Range × ℕ) (after : List Range × ℕ) (i files size p : ℕ) (old : Entry) → AreSoundRanges entries → IsGapped entries gaps files → slice_get entries i ≡ Some old → is_taken old.hold ≡ true → is_accepted old.hold ≡ false → old.file < files → old.first ≤ old.last → IsPlace old.file old.first gaps.0 p → after.0 ≡ carved p (slice_get gaps.0 p) record { file = old.file; segment = i; first = old.first; last = old.last } gaps.0 → after.1 ≡ gaps.1 → IsGapped (set entries i record { file = old.file; hold = Accepted size; first = old.first; last = old.last }) after files
accept_some entries gaps after i files size p old sound gapped is taken none its asked at ranges sides =
    let bounds = sound.ranges i old is taken in
    let one = bounds.from_one in let small = bounds.small in
    let has = has_range (IsBare entries) files gaps.0 p (record { file = old.file; segment = i; first = old.first; last = old.last }) gapped.gaps_are at its one asked small (λ offset low high. clear entries i offset old sound is taken none low high) in
    let test : nat_le old.first old.last ≡ true = grind (arith, nat_tests) in
    let there = has.there in
    let low = within gaps.0 p has.gap there in
    let now : after.0 ≡ with_range (next_place p has.gap old.first) record { file = has.gap.file; segment = i; first = old.last + 1; last = has.gap.last } (trimmed p has.gap old.first gaps.0) =
    ranges ∙ ap (λ o. carved p o record { file = old.file; segment = i; first = old.first; last = old.last } gaps.0) there
    ∙ ap (λ b. cond b (with_range (next_place p has.gap old.first) record { file = has.gap.file; segment = i; first = old.last + 1; last = has.gap.last } (trimmed p has.gap old.first gaps.0)) gaps.0) test in
    let place = trim_place gaps.0 p old.first has.gap low (nat_lt has.gap.first old.first) refl in
    record {
      few = gapped.few;
      gaps_are = subst (λ (t : List Range). IsGaps (IsBare (set entries i record { file = old.file; hold = Accepted size; first = old.first; last = old.last })) files t) (sym now) (carve_gaps entries files i p old (record { file = old.file; hold = Accepted size; first = old.first; last = old.last }) gaps.0 has.gap is none refl gapped.gaps_are there has.its has.low asked has.high);
      many = (let a = gapped.many in let b = accept_many entries i size old is none in
          let c = trim_length gaps.0 p old.first has.gap low (nat_lt has.gap.first old.first) refl in
          let d = with_length (next_place p has.gap old.first) (record { file = has.gap.file; segment = i; first = old.last + 1; last = has.gap.last }) (trimmed p has.gap old.first gaps.0) place in
          let e = ap (λ (t : List Range). length t) now in
          omega (arith, a, b, c, d, e));
      sides = (let a = gapped.sides in let b = as_long entries i (record { file = old.file; hold = Accepted size; first = old.first; last = old.last }) in omega (arith, a, b, sides));
      ids = λ k range is_there. with_segments (λ n. ((length (set entries i record { file = old.file; hold = Accepted size; first = old.first; last = old.last }) ≤ n) × (n < length (set entries i record { file = old.file; hold = Accepted size; first = old.first; last = old.last }) + files)) ⊎ IsAcceptedAt (set entries i record { file = old.file; hold = Accepted size; first = old.first; last = old.last }) n)
          (next_place p has.gap old.first) (record { file = has.gap.file; segment = i; first = old.last + 1; last = has.gap.last }) (trimmed p has.gap old.first gaps.0) place
          (inr (record { entry = record { file = old.file; hold = Accepted size; first = old.first; last = old.last }; there = get-set_same entries i _ old is; accepted = refl }))
          (trim_segments (λ n. ((length (set entries i record { file = old.file; hold = Accepted size; first = old.first; last = old.last }) ≤ n) × (n < length (set entries i record { file = old.file; hold = Accepted size; first = old.first; last = old.last }) + files)) ⊎ IsAcceptedAt (set entries i record { file = old.file; hold = Accepted size; first = old.first; last = old.last }) n) gaps.0 p old.first has.gap there
          (λ j r a. ids_still entries i files r.segment old (record { file = old.file; hold = Accepted size; first = old.first; last = old.last }) is none (gapped.ids j r a)) (nat_lt has.gap.first old.first) refl)
          (nat_le (old.last + 1) has.gap.last) k range (ap (λ (t : List Range). slice_get t k) (sym now) ∙ is_there);
    }

carved_none : (p : ℕ) (o : Option Range) (range : Range) (ranges : List Range) → nat_le range.first range.last ≡ false → carved p o range ranges ≡ ranges
carved_none p None range ranges test = refl
carved_none p (Some gap) range ranges test = ap (λ b. cond b (with_range (next_place p gap range.first) record { file = gap.file; segment = range.segment; first = range.last + 1; last = gap.last } (trimmed p gap range.first ranges)) ranges) test

-- a part without offsets
accept_none : (entries : List Entry) (gaps : List Range × ℕ) (after : List Range × ℕ) (i files size p : ℕ) (old : Entry) → IsGapped entries gaps files → slice_get entries i ≡ Some old → is_accepted old.hold ≡ false → old.last < old.first → after.0 ≡ carved p (slice_get gaps.0 p) record { file = old.file; segment = i; first = old.first; last = old.last } gaps.0 → after.1 ≡ gaps.1 → IsGapped (set entries i record { file = old.file; hold = Accepted size; first = old.first; last = old.last }) after files
accept_none entries gaps after i files size p old gapped is none empty ranges sides =
    let test : nat_le old.first old.last ≡ false = grind (arith, nat_tests) in
    let now : after.0 ≡ gaps.0 = ranges ∙ carved_none p (slice_get gaps.0 p) (record { file = old.file; segment = i; first = old.first; last = old.last }) gaps.0 test in
    record {
      few = gapped.few;
      gaps_are = subst (λ (t : List Range). IsGaps (IsBare (set entries i record { file = old.file; hold = Accepted size; first = old.first; last = old.last })) files t) (sym now)
          (same_gaps (IsBare entries) (IsBare (set entries i record { file = old.file; hold = Accepted size; first = old.first; last = old.last })) files gaps.0 gapped.gaps_are
          (λ file offset bare. bare_still entries i file offset old (record { file = old.file; hold = Accepted size; first = old.first; last = old.last }) is none bare (λ same low high. absurd (omega (arith, empty, low, high))))
          (λ file offset bare. (bare_after entries i file offset old (record { file = old.file; hold = Accepted size; first = old.first; last = old.last }) is none refl bare).0));
      many = (let a = gapped.many in let b = accept_many entries i size old is none in let e = ap (λ (t : List Range). length t) now in omega (arith, a, b, e));
      sides = (let a = gapped.sides in let b = as_long entries i (record { file = old.file; hold = Accepted size; first = old.first; last = old.last }) in omega (arith, a, b, sides));
      ids = λ k range is_there. ids_still entries i files range.segment old (record { file = old.file; hold = Accepted size; first = old.first; last = old.last }) is none (gapped.ids k range (ap (λ (t : List Range). slice_get t k) (sym now) ∙ is_there));
    }

-- a part is accepted
pub gapped-accept : (entries : List Entry) (gaps : List Range × ℕ) (after : List Range × ℕ) (i files size p : ℕ) (old : Entry) → AreSoundRanges entries → IsGapped entries gaps files → slice_get entries i ≡ Some old → is_held old.hold ≡ true → old.file < files → IsPlace old.file old.first gaps.0 p → after.0 ≡ carved p (slice_get gaps.0 p) record { file = old.file; segment = i; first = old.first; last = old.last } gaps.0 → after.1 ≡ gaps.1 → IsGapped (set entries i record { file = old.file; hold = Accepted size; first = old.first; last = old.last }) after files
gapped-accept entries gaps after i files size p old sound gapped is held its at ranges sides =
    let holds = held_only old.hold held in
    elim (cases_lt old.last old.first) [
      | inl empty ↦ accept_none entries gaps after i files size p old gapped is holds.1 empty ranges sides
      | inr some ↦ accept_some entries gaps after i files size p old sound gapped is holds.0 holds.1 its some at ranges sides
    ]

-- where the gaps of a file begin
gaps_from : (bare : ℕ → ℕ → Type 0) (files : ℕ) (ranges : List Range) (file place : ℕ) → IsGaps bare files ranges → IsPlace file 1 ranges place → IsFrom file 1 place ranges
gaps_from bare files ranges file place are at = record {
  below = λ k range low is. elim (cases_eq (k + 1) place) [
    | inl next ↦ before_means file 1 range (at.below k range next is)
    | inr other ↦ (let w = at.within in
        let here = some_at ranges (place - 1) (omega (arith, w, low)) in
        let end : (place - 1) + 1 ≡ place = omega (arith, low) in
        let some = are.each (place - 1) here.range here.there in
        let s = some.some in let o = some.low in
        elim (before_means file 1 here.range (at.below (place - 1) here.range end here.there)) [
          | inl a ↦ elim (are.apart k (place - 1) range here.range (omega (arith, low, other)) is here.there) [
            | inl b ↦ (let c : range.file < file = omega (arith, a, b) in inl c)
            | inr b ↦ (let d = b.0 in let c : range.file < file = omega (arith, a, d) in inl c)
          ]
          | inr a ↦ (let d = a.1 in absurd (omega (arith, d, s, o)))
        ])
  ];
  behind = λ k range high is. (let one = (are.each k range is).low in elim (cases_eq k place) [
    | inl same ↦ elim (not_before file 1 range (at.from range (ap (λ n. slice_get ranges n) (sym same) ∙ is))) [
      | inl a ↦ inl a
      | inr a ↦ inr (a.0, one)
    ]
    | inr other ↦ (let up : place < k = omega (arith, high, other) in
        let w = within ranges k range is in
        let here = some_at ranges place (omega (arith, up, w)) in
        let leaves = are.apart place k here.range range up here.there is in
        elim (not_before file 1 here.range (at.from here.range here.there)) [
          | inl a ↦ elim leaves [
            | inl b ↦ (let c : file < range.file = omega (arith, a, b) in inl c)
            | inr b ↦ (let d = b.0 in let c : file < range.file = omega (arith, a, d) in inl c)
          ]
          | inr a ↦ elim leaves [
            | inl b ↦ (let d = a.0 in let c : file < range.file = omega (arith, d, b) in inl c)
            | inr b ↦ inr (sym b.0 ∙ a.0, one)
          ]
        ])
  ]);
}

-- the k-th gap of a file is its k-th missing range
pub missing_found : (entries : List Entry) (after : List Range × ℕ) (files file size place k : ℕ) → IsGapped entries after files → file < files → kept_size file entries ≡ Some size → size ≤ 18446744073709551615 → IsPlace file 1 after.0 place → gap_upto file size (slice_get after.0 (place + k)) ≡ missing_of file k entries
missing_found entries after files file size place k gapped its known small at =
    let found = walk (λ f o. is_covered f entries o) files after.0 file place 1 size k gapped.gaps_are (gaps_from (IsBare entries) files after.0 file place gapped.gaps_are at) its (omega arith) (omega arith) small (slice_get after.0 place) refl in
    let all : (size + 1) - 1 ≡ size = omega arith in
    sym found ∙ ap (λ n. slice_get (gaps (is_covered file entries) 1 n) k) all ∙ rw known refl

-- the gaps at first
pub record IsFirst (segments file files k : ℕ) (range : Range) : Type 0 where
  pub its : range.file ≡ file + k
  pub segment : range.segment ≡ segments + (file + k)
  pub first : range.first ≡ 1
  pub last : range.last ≡ 18446744073709551615
  pub low : k < files

first_at : (segments file files k : ℕ) (range : Range) → slice_get (first_gaps segments file files) k ≡ Some range → IsFirst segments file files k range
first_at segments file zero k range is = cc
first_at segments file (suc files) zero range is =
    let same : record { file = file; segment = segments + file; first = 1; last = 18446744073709551615 } ≡ range = cc in
    subst (λ r. IsFirst segments file (suc files) zero r) same (record { its = omega arith; segment = omega arith; first = refl; last = refl; low = omega arith })
first_at segments file (suc files) (suc k) range is =
    let more = first_at segments (file + 1) files k range is in
    let a = more.its in let b = more.segment in let c = more.low in
    record { its = omega (arith, a); segment = omega (arith, b); first = more.first; last = more.last; low = omega (arith, c) }

first_length : (segments file files : ℕ) → length (first_gaps segments file files) ≡ files
first_length segments file zero = refl
first_length segments file (suc files) = ap (λ n. suc n) (first_length segments (file + 1) files)

bare_start : (entries : List Entry) (file offset : ℕ) → ((k : ℕ) (entry : Entry) → slice_get entries k ≡ Some entry → entry.hold ≡ Free) → IsBare entries file offset
bare_start entries file offset free = bare_by (is_covered file entries offset) (λ covered.
    let by = covered_by file entries offset covered in
    let c = covers_means file offset by.entry by.has in
    let no_way : false ≡ true = sym (ap is_accepted (free by.place by.entry by.is)) ∙ c.accepted in cc)

pub gapped-start : (counts : List ℕ) (entries : List Entry) (after : List Range × ℕ) (files : ℕ) → entries ≡ entries_of 0 counts → after.0 ≡ first_gaps (length entries) 0 files → after.1 ≡ length entries + files → files ≤ MOST_FILES → IsGapped entries after files
gapped-start counts entries after files is ranges sides few =
    let frees : (k : ℕ) (entry : Entry) → slice_get entries k ≡ Some entry → entry.hold ≡ Free = λ k entry there. free_in 0 counts k entry (ap (λ (t : List Entry). slice_get t k) (sym is) ∙ there) in
    let at : (k : ℕ) (range : Range) → slice_get after.0 k ≡ Some range → IsFirst (length entries) 0 files k range = λ k range there. first_at (length entries) 0 files k range (ap (λ (t : List Range). slice_get t k) (sym ranges) ∙ there) in
    let wide : length after.0 ≡ files = ap (λ (t : List Range). length t) ranges ∙ first_length (length entries) 0 files in
    record {
      few = few;
      gaps_are = record {
        apart = λ j k one other less a b. (let c = (at j one a).its in let d = (at k other b).its in let e : one.file < other.file = omega (arith, c, d, less) in inl e);
        each = λ k range there. (let f = at k range there in let a = f.its in let b = f.first in let c = f.last in let d = f.low in record { its = omega (arith, a, d); low = omega (arith, b); some = omega (arith, b, c); high = omega (arith, c) });
        sound = λ k range offset there low high. bare_start entries range.file offset frees;
        whole = λ file offset low one high bare. (let here = some_at after.0 file (omega (arith, low, wide)) in
            let f = at file here.range here.there in let a = f.its in let b = f.first in let c = f.last in
            record { place = file; range = here.range; there = here.there; its = omega (arith, a); low = omega (arith, b, one); high = omega (arith, c, high) });
      };
      many = omega (arith, wide);
      sides = sides;
      ids = λ k range there. (let f = at k range there in let a = f.segment in let b = f.low in
          let low : length entries ≤ range.segment = omega (arith, a) in
          let high : range.segment < length entries + files = omega (arith, a, b) in
          inl (low, high));
    }

-- one more file
pub first_next : (segments file files : ℕ) → insert (first_gaps segments file files) files record { file = file + files; segment = segments + (file + files); first = 1; last = 18446744073709551615 } ≡ first_gaps segments file (suc files)
first_next segments file zero = let e : file + 0 ≡ file = omega arith in ap (λ n. record { file = n; segment = segments + n; first = 1; last = 18446744073709551615 } ∷ []) e
first_next segments file (suc files) =
    let e : file + suc files ≡ (file + 1) + files = omega arith in
    ap (λ t. record { file = file; segment = segments + file; first = 1; last = 18446744073709551615 } ∷ t)
    (ap (λ n. insert (first_gaps segments (file + 1) files) files record { file = n; segment = segments + n; first = 1; last = 18446744073709551615 }) e ∙ first_next segments (file + 1) files)

pub first_absent : (segments files : ℕ) → IsAbsent (segments + files) (first_gaps segments 0 files)
first_absent segments files k range there same = let f = first_at segments 0 files k range there in let a = f.segment in let b = f.low in absurd (omega (arith, a, b, same))

pub first_wide : (segments files : ℕ) → length (first_gaps segments 0 files) ≡ files
first_wide segments files = first_length segments 0 files

-- a file whose size is known is one of the files
pub file_known : (entries : List Entry) (order : List Range × ℕ) (sizes : List (Option ℕ)) (file size : ℕ) → IsIndexed entries order sizes → kept_size file entries ≡ Some size → file < length sizes
file_known entries order sizes file size index known = let r = kept_is file size entries known in let low = index.files r.place r.entry r.is in let its = r.its in omega (arith, low, its)
