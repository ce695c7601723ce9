-- The gaps of the entries, once a part is accepted.
use Rattle.std.proofs.Common.{◌≡◌, ◌+◌, ◌-◌, ◌<◌, ◌≤◌, inl, inr, zero, suc, ℕ, Bool, true, false, ◌&&◌, ◌||◌, List, [], ◌∷◌, Some, length, refl, ap, sym, subst, ◌∙◌, arith, set, length-set}
use Rattle.std.specs.Prelude.{slice_get, cond, nat_lt, nat_le, ◌==◌, insert, remove}
use Rattle.std.proofs.lemmas.Bool.Decides.{nat_tests}
use Rattle.std.proofs.lemmas.Bool.{cases_lt, cases_eq}
use Rattle.range_assembler.specs.declared.assembler.Entry.{Entry}
use Rattle.range_assembler.specs.declared.sequence.Range.{Range}
use Rattle.range_assembler.specs.Before.{is_before, IsPlace}
use Rattle.range_assembler.specs.Bare.{Leaves, HasOffset, IsGaps, IsBare, trimmed, next_place}
use Rattle.range_assembler.specs.Entries.{covers, is_accepted}
use Rattle.range_assembler.specs.Missing.{is_covered}
use Rattle.range_assembler.specs.Order.{with_range}
use Rattle.range_assembler.proofs.Scanning.{covers_means, means_covers}
use Rattle.range_assembler.proofs.Ordering.{not_before, reaches, some_at, within}
use Rattle.range_assembler.proofs.Changes.{left_over}
use Rattle.range_assembler.proofs.Carving.{Less, set_came, trim_set, trim_remove, add_gap, same_gaps}
use Rattle.limits.specs.declared.TheConstants.{MOST_FILE_BYTES}

mix : (a b c : Bool) → (a || (b || c)) ≡ (b || (a || c))
mix true true c = refl
mix true false c = refl
mix false true c = refl
mix false false c = refl

not_covers : (file offset : ℕ) (entry : Entry) → is_accepted entry.hold ≡ false → covers file offset entry ≡ false
not_covers file offset entry none = elim (entry.file == file) as (λ b. (b && is_accepted entry.hold && nat_le entry.first offset && nat_le offset entry.last) ≡ false) [ true ↦ rw none refl | false ↦ refl ]

-- an entry that wasn't accepted, and what is written over it
pub covered-set : (entries : List Entry) (i file offset : ℕ) (old new : Entry) → slice_get entries i ≡ Some old → is_accepted old.hold ≡ false → is_covered file (set entries i new) offset ≡ (covers file offset new || is_covered file entries offset)
covered-set [] i file offset old new is none = cc
covered-set (entry ∷ entries) zero file offset old new is none =
    let same : entry ≡ old = cc in
    let off : covers file offset entry ≡ false = not_covers file offset entry (ap (λ (e : Entry). is_accepted e.hold) same ∙ none) in
    rw off refl
covered-set (entry ∷ entries) (suc i) file offset old new is none =
    ap (λ b. covers file offset entry || b) (covered-set entries i file offset old new is none) ∙ mix (covers file offset entry) (covers file offset new) (is_covered file entries offset)

or_false : (a b : Bool) → (a || b) ≡ false → (a ≡ false) × (b ≡ false)
or_false true b is = cc
or_false false b is = (refl, is)

-- what is bare once a part is accepted
pub bare_after : (entries : List Entry) (i file offset : ℕ) (old new : Entry) → slice_get entries i ≡ Some old → is_accepted old.hold ≡ false → is_accepted new.hold ≡ true → IsBare (set entries i new) file offset → IsBare entries file offset × (file ≡ new.file → new.first ≤ offset → offset ≤ new.last → ⊥)
bare_after entries i file offset old new is none some bare =
    let parts = or_false (covers file offset new) (is_covered file entries offset) (sym (covered-set entries i file offset old new is none) ∙ bare) in
    (parts.1, λ same low high. let yes_way : covers file offset new ≡ true = means_covers file offset new record { its = sym same; accepted = some; low = low; high = high } in let no_way : true ≡ false = sym yes_way ∙ parts.0 in cc)

not_true : (b : Bool) → (b ≡ true → ⊥) → b ≡ false
not_true true no_way = absurd (no_way refl)
not_true false no_way = refl

pub bare_still : (entries : List Entry) (i file offset : ℕ) (old new : Entry) → slice_get entries i ≡ Some old → is_accepted old.hold ≡ false → IsBare entries file offset → (file ≡ new.file → new.first ≤ offset → offset ≤ new.last → ⊥) → IsBare (set entries i new) file offset
bare_still entries i file offset old new is none bare apart =
    let off : covers file offset new ≡ false = not_true (covers file offset new) (λ t. let c = covers_means file offset new t in apart (sym c.its) c.low c.high) in
    covered-set entries i file offset old new is none ∙ rw (off, bare) refl

-- an entry that isn't accepted, before and after
pub gaps-same : (entries : List Entry) (i files : ℕ) (old new : Entry) (ranges : List Range) → slice_get entries i ≡ Some old → is_accepted old.hold ≡ false → is_accepted new.hold ≡ false → IsGaps (IsBare entries) files ranges → IsGaps (IsBare (set entries i new)) files ranges
gaps-same entries i files old new ranges is none still are = same_gaps (IsBare entries) (IsBare (set entries i new)) files ranges are
    (λ file offset bare. covered-set entries i file offset old new is none ∙ rw (not_covers file offset new still) bare)
    (λ file offset bare. (or_false (covers file offset new) (is_covered file entries offset) (sym (covered-set entries i file offset old new is none) ∙ bare)).1)

-- the gap that has a bare range
pub record HasRange (range : Range) (ranges : List Range) (place : ℕ) : Type 0 where
  pub gap : Range
  pub there : slice_get ranges place ≡ Some gap
  pub its : gap.file ≡ range.file
  pub low : gap.first ≤ range.first
  pub high : range.last ≤ gap.last

reach_at : (file offset : ℕ) (range : Range) → range.file ≡ file → offset ≤ range.last → is_before file offset range ≡ false
reach_at file offset range its high = reaches file offset range its high

later_at : (file offset : ℕ) (range : Range) → file < range.file → is_before file offset range ≡ false
later_at file offset range later =
    let a : nat_lt range.file file ≡ false = grind (arith, nat_tests) in
    let b : (range.file == file) ≡ false = grind (arith, nat_tests) in
    rw (a, b) refl

-- no gap begins just behind another
two_gaps : (bare : ℕ → ℕ → Type 0) (files : ℕ) (ranges : List Range) (j k : ℕ) (one other : Range) → IsGaps bare files ranges → slice_get ranges j ≡ Some one → slice_get ranges k ≡ Some other → one.file ≡ other.file → one.first ≤ one.last → other.first ≤ one.last + 1 → one.last + 1 ≤ other.last → ⊥
two_gaps bare files ranges j k one other are first second its some low high = elim (cases_eq k j) [
  | inl same ↦ (let e : Some one ≡ Some other = sym first ∙ ap (λ n. slice_get ranges n) (sym same) ∙ second in
      let f : one ≡ other = cc in
      let g : one.last ≡ other.last = ap (λ (r : Range). r.last) f in absurd (omega (arith, g, high)))
  | inr differ ↦ elim (cases_lt j k) [
    | inl less ↦ elim (are.apart j k one other less first second) [
      | inl e ↦ absurd (omega (arith, e, its))
      | inr e ↦ (let f = e.1 in absurd (omega (arith, f, low)))
    ]
    | inr more ↦ elim (are.apart k j other one (omega (arith, more, differ)) second first) [
      | inl e ↦ absurd (omega (arith, e, its))
      | inr e ↦ (let f = e.1 in absurd (omega (arith, f, high, some)))
    ]
  ]
]

offset_place : (bare : ℕ → ℕ → Type 0) (files : ℕ) (ranges : List Range) (file offset place : ℕ) → IsGaps bare files ranges → IsPlace file offset ranges place → (found : HasOffset file offset ranges) → found.place ≡ place
offset_place bare files ranges file offset place are at found =
    let a = found.low in let b = found.high in let c = found.its in
    elim (cases_eq found.place place) [
      | inl same ↦ same
      | inr other ↦ elim (cases_lt found.place place) [
        | inl less ↦ elim (cases_eq (found.place + 1) place) [
          | inl next ↦ (let no_way : true ≡ false = sym (at.below found.place found.range next found.there) ∙ (reach_at file offset found.range c b) in cc)
          | inr far ↦ (let w = at.within in
              let before : place - 1 < length ranges = omega (arith, w, less) in
              let end : (place - 1) + 1 ≡ place = omega (arith, less) in
              let here = some_at ranges (place - 1) before in
              let test = at.below (place - 1) here.range end here.there in
              let gap_is = (are.each (place - 1) here.range here.there).some in
              elim (are.apart found.place (place - 1) found.range here.range (omega (arith, less, far)) found.there here.there) [
                | inl d ↦ (let no_way : true ≡ false = sym test ∙ later_at file offset here.range (omega (arith, d, c)) in cc)
                | inr d ↦ (let e = d.1 in let no_way : true ≡ false = sym test ∙ reach_at file offset here.range (sym d.0 ∙ c) (omega (arith, e, gap_is, b)) in cc)
              ])
        ]
        | inr more ↦ (let up : place < found.place = omega (arith, more, other) in
            let w = within ranges found.place found.range found.there in
            let here = some_at ranges place (omega (arith, up, w)) in
            elim (not_before file offset here.range (at.from here.range here.there)) [
              | inl d ↦ elim (are.apart place found.place here.range found.range up here.there found.there) [
                | inl e ↦ absurd (omega (arith, d, e, c))
                | inr e ↦ (let f = e.0 in absurd (omega (arith, d, f, c)))
              ]
              | inr d ↦ elim (are.apart place found.place here.range found.range up here.there found.there) [
                | inl e ↦ (let f = d.0 in absurd (omega (arith, f, e, c)))
                | inr e ↦ (let f = e.1 in let g = d.1 in absurd (omega (arith, f, g, a)))
              ]
            ])
      ]
    ]

pub has_range : (bare : ℕ → ℕ → Type 0) (files : ℕ) (ranges : List Range) (place : ℕ) (range : Range) → IsGaps bare files ranges → IsPlace range.file range.first ranges place → range.file < files → 1 ≤ range.first → range.first ≤ range.last → range.last ≤ MOST_FILE_BYTES → ((offset : ℕ) → range.first ≤ offset → offset ≤ range.last → bare range.file offset) → HasRange range ranges place
has_range bare files ranges place range are at its one some small clear =
    let found = are.whole range.file range.first its one (omega (arith, some, small)) (clear range.first (omega arith) some) in
    let same = offset_place bare files ranges range.file range.first place are at found in
    let there : slice_get ranges place ≡ Some found.range = ap (λ n. slice_get ranges n) (sym same) ∙ found.there in
    let a = found.low in let b = found.high in let c = found.its in
    record {
      gap = found.range;
      there = there;
      its = c;
      low = a;
      high = elim (cases_lt found.range.last range.last) [
        | inl less ↦ (let next = are.whole range.file (found.range.last + 1) its (omega arith) (omega (arith, less, small)) (clear (found.range.last + 1) (omega (arith, b)) (omega (arith, less))) in
            let d = next.low in let e = next.high in let f = next.its in
            absurd (two_gaps bare files ranges found.place next.place found.range next.range are found.there next.there (c ∙ sym f) (omega (arith, a, b)) d e))
        | inr more ↦ more
      ];
    }

-- the order of a trimmed list about what is left behind
trim_below : (ranges : List Range) (p first : ℕ) (gap rest : Range) (bare : ℕ → ℕ → Type 0) (files : ℕ) → IsGaps bare files ranges → slice_get ranges p ≡ Some gap → rest.file ≡ gap.file → first < rest.first → first ≤ gap.last → gap.first ≤ rest.first → (b : Bool) → nat_lt gap.first first ≡ b → (j : ℕ) (one : Range) → j < cond b (p + 1) p → slice_get (cond b (set ranges p record { file = gap.file; segment = gap.segment; first = gap.first; last = first - 1 }) (remove ranges p)) j ≡ Some one → Leaves one rest
trim_below ranges p first gap rest bare files are there its gone high more true test j one less a =
    let low : gap.first < first = grind (arith, nat_tests) in
    elim (set_came ranges p _ j one a) [
      | inl c ↦ subst (λ r. Leaves r rest) c.1 (let e : (first - 1) + 1 < rest.first = omega (arith, gone, low) in inr (sym its, e))
      | inr c ↦ (let up : j < p = (let d = c.0 in omega (arith, less, d)) in elim (are.apart j p one gap up c.1 there) [
        | inl d ↦ (let e : one.file < rest.file = omega (arith, d, its) in inl e)
        | inr d ↦ (let f = d.1 in let e : one.last + 1 < rest.first = omega (arith, f, more) in inr (d.0 ∙ sym its, e))
      ])
    ]
trim_below ranges p first gap rest bare files are there its gone high more false test j one less a = elim (left_over ranges p j one a) [
  | inl c ↦ elim (are.apart j p one gap c.0 c.1 there) [
    | inl d ↦ (let e : one.file < rest.file = omega (arith, d, its) in inl e)
    | inr d ↦ (let f = d.1 in let e : one.last + 1 < rest.first = omega (arith, f, more) in inr (d.0 ∙ sym its, e))
  ]
  | inr c ↦ (let d = c.0 in absurd (omega (arith, d, less)))
]

trim_above : (ranges : List Range) (p first : ℕ) (gap rest : Range) (bare : ℕ → ℕ → Type 0) (files : ℕ) → IsGaps bare files ranges → slice_get ranges p ≡ Some gap → rest.file ≡ gap.file → rest.last ≡ gap.last → (b : Bool) → (k : ℕ) (other : Range) → cond b (p + 1) p ≤ k → slice_get (cond b (set ranges p record { file = gap.file; segment = gap.segment; first = gap.first; last = first - 1 }) (remove ranges p)) k ≡ Some other → Leaves rest other
trim_above ranges p first gap rest bare files are there its ends true k other more a = elim (set_came ranges p _ k other a) [
  | inl c ↦ (let d = c.0 in absurd (omega (arith, more, d)))
  | inr c ↦ elim (are.apart p k gap other (omega (arith, more)) there c.1) [
    | inl d ↦ (let e : rest.file < other.file = omega (arith, d, its) in inl e)
    | inr d ↦ (let f = d.1 in let e : rest.last + 1 < other.first = omega (arith, f, ends) in inr (its ∙ d.0, e))
  ]
]
trim_above ranges p first gap rest bare files are there its ends false k other more a = elim (left_over ranges p k other a) [
  | inl c ↦ (let d = c.0 in absurd (omega (arith, more, d)))
  | inr c ↦ (let up : p < suc k = omega (arith, more) in elim (are.apart p (suc k) gap other up there c.1) [
    | inl d ↦ (let e : rest.file < other.file = omega (arith, d, its) in inl e)
    | inr d ↦ (let f = d.1 in let e : rest.last + 1 < other.first = omega (arith, f, ends) in inr (its ∙ d.0, e))
  ])
]

set_length : {X : Type 0} (xs : List X) (i : ℕ) (x : X) → length (set xs i x) ≡ length xs
set_length xs i x = length-set xs i x

out_length : {X : Type 0} (xs : List X) (p : ℕ) → p < length xs → length (remove xs p) + 1 ≡ length xs
out_length [] p low = absurd (omega arith)
out_length (x ∷ xs) zero low = omega arith
out_length (x ∷ xs) (suc p) low = let e = out_length xs p (omega arith) in omega (arith, e)

-- where the rest goes
pub trim_place : (ranges : List Range) (p first : ℕ) (gap : Range) → p < length ranges → (b : Bool) → nat_lt gap.first first ≡ b → next_place p gap first ≤ length (trimmed p gap first ranges)
trim_place ranges p first gap low true test =
    let e = set_length ranges p (record { file = gap.file; segment = gap.segment; first = gap.first; last = first - 1 }) in
    rw test (omega (arith, e, low))
trim_place ranges p first gap low false test = let e = out_length ranges p low in rw test (omega (arith, e, low))

pub trim_length : (ranges : List Range) (p first : ℕ) (gap : Range) → p < length ranges → (b : Bool) → nat_lt gap.first first ≡ b → length (trimmed p gap first ranges) ≤ length ranges
trim_length ranges p first gap low true test =
    let e = set_length ranges p (record { file = gap.file; segment = gap.segment; first = gap.first; last = first - 1 }) in
    rw test (omega (arith, e))
trim_length ranges p first gap low false test = let e = out_length ranges p low in rw test (omega (arith, e))

-- what is true of each gap's segment stays
pub trim_segments : (P : ℕ → Type 0) (ranges : List Range) (p first : ℕ) (gap : Range) → slice_get ranges p ≡ Some gap → ((k : ℕ) (range : Range) → slice_get ranges k ≡ Some range → P range.segment) → (b : Bool) → nat_lt gap.first first ≡ b → (k : ℕ) (range : Range) → slice_get (trimmed p gap first ranges) k ≡ Some range → P range.segment
trim_segments P ranges p first gap there all true test k range a =
    let a_set : slice_get (set ranges p record { file = gap.file; segment = gap.segment; first = gap.first; last = first - 1 }) k ≡ Some range = subst (λ b. slice_get (cond b (set ranges p record { file = gap.file; segment = gap.segment; first = gap.first; last = first - 1 }) (remove ranges p)) k ≡ Some range) test a in
    elim (set_came ranges p _ k range a_set) [
      | inl c ↦ subst (λ (r : Range). P r.segment) c.1 (all p gap there)
      | inr c ↦ all k range c.1
    ]
trim_segments P ranges p first gap there all false test k range a =
    let a_out : slice_get (remove ranges p) k ≡ Some range = subst (λ b. slice_get (cond b (set ranges p record { file = gap.file; segment = gap.segment; first = gap.first; last = first - 1 }) (remove ranges p)) k ≡ Some range) test a in
    elim (left_over ranges p k range a_out) [ inl c ↦ all k range c.1 | inr c ↦ all (suc k) range c.1 ]

trim_gaps : (bare : ℕ → ℕ → Type 0) (files : ℕ) (ranges : List Range) (p first : ℕ) (gap : Range) → IsGaps bare files ranges → slice_get ranges p ≡ Some gap → gap.first ≤ first → first ≤ gap.last → (b : Bool) → nat_lt gap.first first ≡ b → IsGaps (Less bare gap.file first gap.last) files (cond b (set ranges p record { file = gap.file; segment = gap.segment; first = gap.first; last = first - 1 }) (remove ranges p))
trim_gaps bare files ranges p first gap are there low high true test = trim_set bare files ranges p first gap are there (grind (arith, nat_tests)) high
trim_gaps bare files ranges p first gap are there low high false test = let same : first ≡ gap.first = grind (arith, nat_tests) in trim_remove bare files ranges p first gap are there same

place_case : (ranges : List Range) (p : ℕ) → p < length ranges → (b : Bool) (cut : Range) → cond b (p + 1) p ≤ length (cond b (set ranges p cut) (remove ranges p))
place_case ranges p low true cut = let e = set_length ranges p cut in omega (arith, e, low)
place_case ranges p low false cut = let e = out_length ranges p low in omega (arith, e, low)

-- a part is accepted whose offsets the gap at the place has
carve_case : (entries : List Entry) (files i p : ℕ) (old new : Entry) (ranges : List Range) (gap : Range) → slice_get entries i ≡ Some old → is_accepted old.hold ≡ false → is_accepted new.hold ≡ true → IsGaps (IsBare entries) files ranges → slice_get ranges p ≡ Some gap → gap.file ≡ new.file → gap.first ≤ new.first → new.first ≤ new.last → new.last ≤ gap.last → (b : Bool) → nat_lt gap.first new.first ≡ b → (rest : Bool) → nat_le (new.last + 1) gap.last ≡ rest →
    IsGaps (IsBare (set entries i new)) files (cond rest (insert (cond b (set ranges p record { file = gap.file; segment = gap.segment; first = gap.first; last = new.first - 1 }) (remove ranges p)) (cond b (p + 1) p) record { file = gap.file; segment = i; first = new.last + 1; last = gap.last }) (cond b (set ranges p record { file = gap.file; segment = gap.segment; first = gap.first; last = new.first - 1 }) (remove ranges p)))
carve_case entries files i p old new ranges gap is none some are there its low asked high b test true left =
    let more : new.last + 1 ≤ gap.last = grind (arith, nat_tests) in
    let trim = trim_gaps (IsBare entries) files ranges p new.first gap are there low (omega (arith, asked, high)) b test in
    let gap_is = are.each p gap there in
    let room : cond b (p + 1) p ≤ length (cond b (set ranges p record { file = gap.file; segment = gap.segment; first = gap.first; last = new.first - 1 }) (remove ranges p)) = place_case ranges p (within ranges p gap there) b (record { file = gap.file; segment = gap.segment; first = gap.first; last = new.first - 1 }) in
    add_gap (Less (IsBare entries) gap.file new.first gap.last) (IsBare (set entries i new)) files (cond b (set ranges p record { file = gap.file; segment = gap.segment; first = gap.first; last = new.first - 1 }) (remove ranges p)) (cond b (p + 1) p) (record { file = gap.file; segment = i; first = new.last + 1; last = gap.last }) trim room
    (record { its = gap_is.its; low = omega arith; some = more; high = gap_is.high })
    (trim_below ranges p new.first gap (record { file = gap.file; segment = i; first = new.last + 1; last = gap.last }) (IsBare entries) files are there refl (omega (arith, asked)) (omega (arith, asked, high)) (omega (arith, low, asked)) b test)
    (trim_above ranges p new.first gap (record { file = gap.file; segment = i; first = new.last + 1; last = gap.last }) (IsBare entries) files are there refl refl b)
    (λ file offset bare. bare_still entries i file offset old new is none bare.0 (λ same from upto. bare.1 (same ∙ sym its) from (omega (arith, upto, high))))
    (λ offset from upto. bare_still entries i gap.file offset old new is none (are.sound p gap offset there (omega (arith, from, low, asked)) upto) (λ same begin end. absurd (omega (arith, end, from))))
    (λ file offset bare. let parts = bare_after entries i file offset old new is none some bare in elim (cases_eq file gap.file) [
      | inl same ↦ elim (cases_lt offset new.first) [
        | inl before ↦ inl (parts.0, λ e from upto. absurd (omega (arith, before, from)))
        | inr after ↦ elim (cases_lt new.last offset) [
          | inl behind ↦ elim (cases_lt gap.last offset) [
            | inl past ↦ inl (parts.0, λ e from upto. absurd (omega (arith, past, upto)))
            | inr inside ↦ (let from : new.last + 1 ≤ offset = omega (arith, behind) in inr (same, from, inside))
          ]
          | inr within_it ↦ absurd (parts.1 (same ∙ its) after within_it)
        ]
      ]
      | inr differ ↦ inl (parts.0, λ e from upto. absurd (differ e))
    ])
carve_case entries files i p old new ranges gap is none some are there its low asked high b test false left =
    let end : gap.last ≤ new.last = grind (arith, nat_tests) in
    same_gaps (Less (IsBare entries) gap.file new.first gap.last) (IsBare (set entries i new)) files (cond b (set ranges p record { file = gap.file; segment = gap.segment; first = gap.first; last = new.first - 1 }) (remove ranges p)) (trim_gaps (IsBare entries) files ranges p new.first gap are there low (omega (arith, asked, high)) b test)
    (λ file offset bare. bare_still entries i file offset old new is none bare.0 (λ same from upto. bare.1 (same ∙ sym its) from (omega (arith, upto, high))))
    (λ file offset bare. let parts = bare_after entries i file offset old new is none some bare in (parts.0, λ same from upto. parts.1 (same ∙ its) from (omega (arith, upto, end))))

pub carve_gaps : (entries : List Entry) (files i p : ℕ) (old new : Entry) (ranges : List Range) (gap : Range) → slice_get entries i ≡ Some old → is_accepted old.hold ≡ false → is_accepted new.hold ≡ true → IsGaps (IsBare entries) files ranges → slice_get ranges p ≡ Some gap → gap.file ≡ new.file → gap.first ≤ new.first → new.first ≤ new.last → new.last ≤ gap.last → IsGaps (IsBare (set entries i new)) files (with_range (next_place p gap new.first) record { file = gap.file; segment = i; first = new.last + 1; last = gap.last } (trimmed p gap new.first ranges))
carve_gaps entries files i p old new ranges gap is none some are there its low asked high = carve_case entries files i p old new ranges gap is none some are there its low asked high (nat_lt gap.first new.first) refl (nat_le (new.last + 1) gap.last) refl
