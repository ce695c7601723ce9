-- The gaps of a file from one place on are its missing ranges.
use Rattle.std.proofs.Common.{◌≡◌, ◌+◌, ◌-◌, ◌<◌, ◌≤◌, ◌⊎◌, inl, inr, zero, suc, ℕ, Bool, true, false, ◌&&◌, List, [], Option, Some, None, refl, ap, sym, subst, ◌∙◌, arith}
use Rattle.std.specs.Prelude.{slice_get, cond, nat_le, ◌==◌}
use Rattle.std.proofs.lemmas.Bool.Decides.{nat_tests}
use Rattle.std.proofs.lemmas.Bool.{cases_lt, cases_eq}
use Rattle.range_assembler.specs.declared.sequence.Range.{Range}
use Rattle.range_assembler.specs.Bare.{IsGaps, gap_upto}
use Rattle.range_assembler.specs.Missing.{gaps}
use Rattle.range_assembler.proofs.Gaps.{gaps_run, step_run, step_bare, step_tail}
use Rattle.range_assembler.proofs.Ordering.{some_at, within}

-- what is bare, told by a test
abbrev pub Tells : (ℕ → ℕ → Bool) → ℕ → ℕ → Type 0
Tells covered file offset = covered file offset ≡ false

true_or_not : (b : Bool) → (b ≡ true) ⊎ (b ≡ false)
true_or_not true = inl refl
true_or_not false = inr refl

-- the gaps at a place and behind it are those of later offsets
pub record IsFrom (file offset place : ℕ) (ranges : List Range) : Type 0 where
  pub below : (k : ℕ) (range : Range) → k < place → slice_get ranges k ≡ Some range → (range.file < file) ⊎ ((range.file ≡ file) × (range.last < offset))
  pub behind : (k : ℕ) (range : Range) → place ≤ k → slice_get ranges k ≡ Some range → (file < range.file) ⊎ ((range.file ≡ file) × (offset ≤ range.first))

none_here : (file size : ℕ) (o : Option Range) → ((range : Range) → o ≡ Some range → (file < range.file) ⊎ (size < range.first)) → gap_upto file size o ≡ None
none_here file size None far = refl
none_here file size (Some range) far = elim (far range refl) [
  | inl later ↦ (let a : (range.file == file) ≡ false = grind (arith, nat_tests) in rw a refl)
  | inr past ↦ (let a : nat_le range.first size ≡ false = grind (arith, nat_tests) in elim (range.file == file) as (λ b. cond {A = Option (ℕ × ℕ)} (b && nat_le range.first size) (Some (range.first, cond (nat_le range.last size) range.last size)) None ≡ None) [ true ↦ rw a refl | false ↦ refl ])
]

nothing_at : (k : ℕ) → slice_get {X = ℕ × ℕ} [] k ≡ None
nothing_at zero = refl
nothing_at (suc k) = refl

-- each offset that no gap of the file has is covered
covered_else : (covered : ℕ → ℕ → Bool) (files : ℕ) (ranges : List Range) (file place offset k : ℕ) → IsGaps (Tells covered) files ranges → IsFrom file offset place ranges → file < files → 1 ≤ offset → offset ≤ k → k ≤ 18446744073709551615 → ((range : Range) → slice_get ranges place ≡ Some range → range.file ≡ file → k < range.first) → covered file k ≡ true
covered_else covered files ranges file place offset k are from its one low high before = elim (true_or_not (covered file k)) [
  | inl is ↦ is
  | inr bare ↦ (let found = are.whole file k its (omega (arith, one, low)) high bare in
      let a = found.low in let b = found.high in let c = found.its in
      elim (cases_lt found.place place) [
        | inl less ↦ elim (from.below found.place found.range less found.there) [
          | inl d ↦ absurd (omega (arith, c, d))
          | inr d ↦ absurd (omega (arith, b, d.1, low))
        ]
        | inr more ↦ elim (cases_eq found.place place) [
          | inl same ↦ (let e = before found.range (ap (λ n. slice_get ranges n) (sym same) ∙ found.there) c in absurd (omega (arith, a, e)))
          | inr other ↦ (let up : place < found.place = omega (arith, more, other) in
              let w = within ranges found.place found.range found.there in
              let here = some_at ranges place (omega (arith, up, w)) in
              let leaves = are.apart place found.place here.range found.range up here.there found.there in
              elim (from.behind place here.range (omega arith) here.there) [
                | inl f ↦ elim leaves [
                  | inl g ↦ absurd (omega (arith, f, g, c))
                  | inr g ↦ absurd (let h = g.0 in omega (arith, f, h, c))
                ]
                | inr f ↦ elim leaves [
                  | inl g ↦ absurd (let h = f.0 in omega (arith, h, g, c))
                  | inr g ↦ (let e = before here.range here.there f.0 in let s = (are.each place here.range here.there).some in let h = g.1 in absurd (omega (arith, e, h, s, a)))
                ]
              ])
        ]
      ])
]

-- behind the gap of a file at a place
from_next : (covered : ℕ → ℕ → Bool) (files : ℕ) (ranges : List Range) (file place offset : ℕ) (gap : Range) → IsGaps (Tells covered) files ranges → IsFrom file offset place ranges → slice_get ranges place ≡ Some gap → gap.file ≡ file → offset ≤ gap.first → IsFrom file (gap.last + 1) (place + 1) ranges
from_next covered files ranges file place offset gap are from there its low = record {
  below = λ k range less is. elim (cases_eq k place) [
    | inl same ↦ (let one : Some gap ≡ Some range = sym there ∙ ap (λ n. slice_get ranges n) (sym same) ∙ is in
        let e : gap ≡ range = cc in
        let f : range.file ≡ file = ap (λ (r : Range). r.file) (sym e) ∙ its in
        let g : range.last < gap.last + 1 = (let h : gap.last ≡ range.last = ap (λ (r : Range). r.last) e in omega (arith, h)) in
        inr (f, g))
    | inr other ↦ (let up : k < place = omega (arith, less, other) in elim (from.below k range up is) [
      | inl a ↦ inl a
      | inr a ↦ (let s = (are.each place gap there).some in let h = a.1 in let g : range.last < gap.last + 1 = omega (arith, h, low, s) in inr (a.0, g))
    ])
  ];
  behind = λ k range more is. (let up : place < k = omega (arith, more) in elim (are.apart place k gap range up there is) [
    | inl a ↦ (let g : file < range.file = omega (arith, a, its) in inl g)
    | inr a ↦ (let h = a.1 in let g : gap.last + 1 ≤ range.first = omega (arith, h) in inr (sym a.0 ∙ its, g))
  ]);
}

-- the offset behind a gap is covered
ends_covered : (covered : ℕ → ℕ → Bool) (files : ℕ) (ranges : List Range) (file place : ℕ) (gap : Range) → IsGaps (Tells covered) files ranges → slice_get ranges place ≡ Some gap → gap.file ≡ file → gap.last + 1 ≤ 18446744073709551615 → covered file (gap.last + 1) ≡ true
ends_covered covered files ranges file place gap are there its high = elim (true_or_not (covered file (gap.last + 1))) [
  | inl is ↦ is
  | inr bare ↦ (let gap_is = are.each place gap there in
      let s = gap_is.some in
      let found = are.whole file (gap.last + 1) (let h = gap_is.its in omega (arith, h, its)) (omega arith) high bare in
      let a = found.low in let b = found.high in let c = found.its in
      elim (cases_lt found.place place) [
        | inl less ↦ elim (are.apart found.place place found.range gap less found.there there) [
          | inl d ↦ absurd (omega (arith, c, d, its))
          | inr d ↦ (let h = d.1 in absurd (omega (arith, h, b, s)))
        ]
        | inr more ↦ elim (cases_eq found.place place) [
          | inl same ↦ (let one : Some gap ≡ Some found.range = sym there ∙ ap (λ n. slice_get ranges n) (sym same) ∙ found.there in
              let e : gap ≡ found.range = cc in
              let h : gap.last ≡ found.range.last = ap (λ (r : Range). r.last) e in absurd (omega (arith, h, b)))
          | inr other ↦ (let up : place < found.place = omega (arith, more, other) in elim (are.apart place found.place gap found.range up there found.there) [
            | inl d ↦ absurd (omega (arith, c, d, its))
            | inr d ↦ (let h = d.1 in absurd (omega (arith, h, a)))
          ])
        ]
      ])
]

-- behind a place without a gap up to the size there is none
later_far : (covered : ℕ → ℕ → Bool) (files : ℕ) (ranges : List Range) (file place offset size k : ℕ) (range : Range) → IsGaps (Tells covered) files ranges → IsFrom file offset place ranges → ((range : Range) → slice_get ranges place ≡ Some range → (file < range.file) ⊎ (size < range.first)) → slice_get ranges (place + k) ≡ Some range → (file < range.file) ⊎ (size < range.first)
later_far covered files ranges file place offset size zero range are from far there = far range (ap (λ n. slice_get ranges n) (let e : place ≡ place + 0 = omega arith in e) ∙ there)
later_far covered files ranges file place offset size (suc k) range are from far there =
    let w = within ranges (place + suc k) range there in
    let here = some_at ranges place (omega (arith, w)) in
    let up : place < place + suc k = omega arith in
    elim (are.apart place (place + suc k) here.range range up here.there there) [
      | inl a ↦ elim (far here.range here.there) [
        | inl b ↦ (let c : file < range.file = omega (arith, a, b) in inl c)
        | inr b ↦ elim (from.behind place here.range (omega arith) here.there) [
          | inl d ↦ (let c : file < range.file = omega (arith, a, d) in inl c)
          | inr d ↦ (let e = d.0 in let c : file < range.file = omega (arith, a, e) in inl c)
        ]
      ]
      | inr a ↦ elim (far here.range here.there) [
        | inl b ↦ (let e = a.0 in let c : file < range.file = omega (arith, e, b) in inl c)
        | inr b ↦ (let e = a.1 in let s = (are.each place here.range here.there).some in let c : size < range.first = omega (arith, e, s, b) in inr c)
      ]
    ]

-- with no gap up to the size, nothing is missing
none_from : (covered : ℕ → ℕ → Bool) (files : ℕ) (ranges : List Range) (file place offset size k : ℕ) → IsGaps (Tells covered) files ranges → IsFrom file offset place ranges → file < files → 1 ≤ offset → offset ≤ size + 1 → size ≤ 18446744073709551615 → ((range : Range) → slice_get ranges place ≡ Some range → (file < range.file) ⊎ (size < range.first)) → slice_get (gaps (covered file) offset ((size + 1) - offset)) k ≡ gap_upto file size (slice_get ranges (place + k))
none_from covered files ranges file place offset size k are from its one upto small far =
    let all : (o : ℕ) → offset ≤ o → o < offset + ((size + 1) - offset) → covered file o ≡ true = λ o low high. covered_else covered files ranges file place offset o are from its one low (omega (arith, high, upto, small)) (λ range there same. elim (far range there) [ inl later ↦ absurd (omega (arith, later, same)) | inr past ↦ omega (arith, past, high, upto) ]) in
    let run = gaps_run (covered file) offset ((size + 1) - offset) 0 all in
    let none : gaps (covered file) offset ((size + 1) - offset) ≡ [] = ap (λ n. gaps (covered file) offset n) (let e : (size + 1) - offset ≡ ((size + 1) - offset) + 0 = omega arith in e) ∙ run in
    let last : gap_upto file size (slice_get ranges (place + k)) ≡ None = none_here file size (slice_get ranges (place + k)) (λ range there. later_far covered files ranges file place offset size k range are from far there) in
    ap (λ t. slice_get t k) none ∙ nothing_at k ∙ sym last

end_of : (last size : ℕ) → size ≤ last → (b : Bool) → nat_le last size ≡ b → size ≡ cond b last size
end_of last size more true test = grind (arith, nat_tests)
end_of last size more false test = refl

hit : (file size : ℕ) (gap : Range) → gap.file ≡ file → gap.first ≤ size → gap_upto file size (Some gap) ≡ Some (gap.first, cond (nat_le gap.last size) gap.last size)
hit file size gap its low =
    let a : (gap.file == file) ≡ true = grind (arith, nat_tests) in
    let b : nat_le gap.first size ≡ true = grind (arith, nat_tests) in
    rw (a, b) refl

plus_suc : (place k : ℕ) → (place + 1) + k ≡ place + suc k
plus_suc place k = omega arith

-- up to the gap at the place
to_gap_case : (covered : ℕ → ℕ → Bool) (files : ℕ) (ranges : List Range) (file place offset size : ℕ) (gap : Range) → IsGaps (Tells covered) files ranges → IsFrom file offset place ranges → slice_get ranges place ≡ Some gap → gap.file ≡ file → file < files → 1 ≤ offset → offset ≤ gap.first → gap.first ≤ size → size ≤ 18446744073709551615 → (offset ≡ gap.first) ⊎ (offset < gap.first) → gaps (covered file) offset ((size + 1) - offset) ≡ gaps (covered file) gap.first ((size + 1) - gap.first)
to_gap_case covered files ranges file place offset size gap are from there same its one low high small (inl equal) = ap (λ n. gaps (covered file) n ((size + 1) - n)) equal
to_gap_case covered files ranges file place offset size gap are from there same its one low high small (inr less) =
    let upto : offset ≤ gap.first - 1 = omega (arith, less) in
    let within_size : gap.first - 1 ≤ size = omega (arith, high) in
    let back : (gap.first - 1) + 1 ≡ gap.first = omega (arith, less) in
    step_run (covered file) offset (gap.first - 1) size upto within_size (λ o from_offset to_gap. covered_else covered files ranges file place offset o are from its one from_offset (omega (arith, to_gap, high, small, less)) (λ range is of_file.
    let two : Some gap ≡ Some range = sym there ∙ is in
    let e : gap ≡ range = cc in
    let f : gap.first ≡ range.first = ap (λ (r : Range). r.first) e in omega (arith, f, to_gap, less)))
    ∙ ap (λ n. gaps (covered file) n ((size + 1) - n)) back

equal_or_less : (m n : ℕ) → m ≤ n → (m ≡ n) ⊎ (m < n)
equal_or_less m n low = elim (cases_eq m n) [ inl same ↦ inl same | inr other ↦ (let less : m < n = omega (arith, low, other) in inr less) ]

-- the gap at the place, and what follows
at_gap : (covered : ℕ → ℕ → Bool) (files : ℕ) (ranges : List Range) (file place offset size k : ℕ) (gap : Range) → IsGaps (Tells covered) files ranges → IsFrom file offset place ranges → slice_get ranges place ≡ Some gap → gap.file ≡ file → file < files → offset ≤ gap.first → gap.first ≤ size → size ≤ 18446744073709551615 → ((j : ℕ) → k ≡ suc j → gap.last < size → slice_get (gaps (covered file) (gap.last + 1) ((size + 1) - (gap.last + 1))) j ≡ gap_upto file size (slice_get ranges ((place + 1) + j))) → (gap.last < size) ⊎ (size ≤ gap.last) → slice_get (gaps (covered file) gap.first ((size + 1) - gap.first)) k ≡ gap_upto file size (slice_get ranges (place + k))
at_gap covered files ranges file place offset size zero gap are from there same its low high small next (inl less) =
    let some = (are.each place gap there).some in
    let bare : (o : ℕ) → gap.first ≤ o → o < gap.last + 1 → covered file o ≡ false = λ o a b. ap (λ n. covered n o) (sym same) ∙ are.sound place gap o there a (omega (arith, b)) in
    let step = step_bare (covered file) gap.first (gap.last + 1) size (omega (arith, some)) (omega (arith, less)) bare (ends_covered covered files ranges file place gap are there same (omega (arith, less, small))) in
    let test : nat_le gap.last size ≡ true = grind (arith, nat_tests) in
    let last : (gap.last + 1) - 1 ≡ gap.last = omega arith in
    ap (λ t. slice_get t 0) step ∙ ap (λ n. Some (gap.first, n)) last
    ∙ sym (ap (λ n. gap_upto file size (slice_get ranges n)) (let e : place + 0 ≡ place = omega arith in e) ∙ ap (λ o. gap_upto file size o) there ∙ hit file size gap same high ∙ ap (λ b. Some (gap.first, cond b gap.last size)) test)
at_gap covered files ranges file place offset size (suc k) gap are from there same its low high small next (inl less) =
    let some = (are.each place gap there).some in
    let bare : (o : ℕ) → gap.first ≤ o → o < gap.last + 1 → covered file o ≡ false = λ o a b. ap (λ n. covered n o) (sym same) ∙ are.sound place gap o there a (omega (arith, b)) in
    let step = step_bare (covered file) gap.first (gap.last + 1) size (omega (arith, some)) (omega (arith, less)) bare (ends_covered covered files ranges file place gap are there same (omega (arith, less, small))) in
    ap (λ t. slice_get t (suc k)) step ∙ next k refl less ∙ ap (λ n. gap_upto file size (slice_get ranges n)) (plus_suc place k)
at_gap covered files ranges file place offset size zero gap are from there same its low high small next (inr more) =
    let bare : (o : ℕ) → gap.first ≤ o → o ≤ size → covered file o ≡ false = λ o a b. ap (λ n. covered n o) (sym same) ∙ are.sound place gap o there a (omega (arith, b, more)) in
    ap (λ t. slice_get t 0) (step_tail (covered file) gap.first size high bare) ∙ ap (λ n. Some (gap.first, n)) (end_of gap.last size more (nat_le gap.last size) refl)
    ∙ sym (ap (λ n. gap_upto file size (slice_get ranges n)) (let e : place + 0 ≡ place = omega arith in e) ∙ ap (λ o. gap_upto file size o) there ∙ hit file size gap same high)
at_gap covered files ranges file place offset size (suc k) gap are from there same its low high small next (inr more) =
    let bare : (o : ℕ) → gap.first ≤ o → o ≤ size → covered file o ≡ false = λ o a b. ap (λ n. covered n o) (sym same) ∙ are.sound place gap o there a (omega (arith, b, more)) in
    ap (λ t. slice_get t (suc k)) (step_tail (covered file) gap.first size high bare) ∙ nothing_at k
    ∙ sym (none_here file size (slice_get ranges (place + suc k)) (λ range is. let up : place < place + suc k = omega arith in elim (are.apart place (place + suc k) gap range up there is) [
      | inl a ↦ (let b : file < range.file = omega (arith, a, same) in inl b)
      | inr a ↦ (let e = a.1 in let b : size < range.first = omega (arith, e, more) in inr b)
    ]))

-- the k-th missing range from an offset on is the k-th gap from a place on
pub walk : (covered : ℕ → ℕ → Bool) (files : ℕ) (ranges : List Range) (file place offset size k : ℕ) → IsGaps (Tells covered) files ranges → IsFrom file offset place ranges → file < files → 1 ≤ offset → offset ≤ size + 1 → size ≤ 18446744073709551615 → (o : Option Range) → slice_get ranges place ≡ o → slice_get (gaps (covered file) offset ((size + 1) - offset)) k ≡ gap_upto file size (slice_get ranges (place + k))
walk covered files ranges file place offset size zero are from its one upto small None there = none_from covered files ranges file place offset size zero are from its one upto small (λ range is. let no_way : None ≡ Some range = sym there ∙ is in cc)
walk covered files ranges file place offset size zero are from its one upto small (Some gap) there = elim (from.behind place gap (omega arith) there) [
  | inl later ↦ none_from covered files ranges file place offset size zero are from its one upto small (λ range is. let two : Some gap ≡ Some range = sym there ∙ is in let e : gap ≡ range = cc in let f : gap.file ≡ range.file = ap (λ (r : Range). r.file) e in let g : file < range.file = omega (arith, later, f) in inl g)
  | inr same ↦ elim (cases_lt size gap.first) [
    | inl past ↦ none_from covered files ranges file place offset size zero are from its one upto small (λ range is. let two : Some gap ≡ Some range = sym there ∙ is in let e : gap ≡ range = cc in let f : gap.first ≡ range.first = ap (λ (r : Range). r.first) e in let g : size < range.first = omega (arith, past, f) in inr g)
    | inr high ↦ ap (λ t. slice_get t zero) (to_gap_case covered files ranges file place offset size gap are from there same.0 its one same.1 high small (equal_or_less offset gap.first same.1))
        ∙ at_gap covered files ranges file place offset size zero gap are from there same.0 its same.1 high small (λ j is less. let no_way : 0 ≡ suc j = is in absurd (omega (arith, no_way))) (cases_lt gap.last size)
  ]
]
walk covered files ranges file place offset size (suc k) are from its one upto small None there = none_from covered files ranges file place offset size (suc k) are from its one upto small (λ range is. let no_way : None ≡ Some range = sym there ∙ is in cc)
walk covered files ranges file place offset size (suc k) are from its one upto small (Some gap) there = elim (from.behind place gap (omega arith) there) [
  | inl later ↦ none_from covered files ranges file place offset size (suc k) are from its one upto small (λ range is. let two : Some gap ≡ Some range = sym there ∙ is in let e : gap ≡ range = cc in let f : gap.file ≡ range.file = ap (λ (r : Range). r.file) e in let g : file < range.file = omega (arith, later, f) in inl g)
  | inr same ↦ elim (cases_lt size gap.first) [
    | inl past ↦ none_from covered files ranges file place offset size (suc k) are from its one upto small (λ range is. let two : Some gap ≡ Some range = sym there ∙ is in let e : gap ≡ range = cc in let f : gap.first ≡ range.first = ap (λ (r : Range). r.first) e in let g : size < range.first = omega (arith, past, f) in inr g)
    | inr high ↦ ap (λ t. slice_get t (suc k)) (to_gap_case covered files ranges file place offset size gap are from there same.0 its one same.1 high small (equal_or_less offset gap.first same.1))
        ∙ at_gap covered files ranges file place offset size (suc k) gap are from there same.0 its same.1 high small (λ j is less. let one : k ≡ j = omega (arith, is) in subst (λ n. slice_get (gaps (covered file) (gap.last + 1) ((size + 1) - (gap.last + 1))) n ≡ gap_upto file size (slice_get ranges ((place + 1) + n))) one (walk covered files ranges file (place + 1) (gap.last + 1) size k are (from_next covered files ranges file place offset gap are from there same.0 same.1) its (omega arith) (omega (arith, less)) small (slice_get ranges (place + 1)) refl)) (cases_lt gap.last size)
  ]
]
