-- What is left of the gaps, once the offsets of a range are taken out of one.
use Rattle.std.proofs.Common.{◌≡◌, ◌≢◌, ◌+◌, ◌-◌, ◌<◌, ◌≤◌, ◌⊎◌, inl, inr, zero, suc, ℕ, List, [], ◌∷◌, Some, length, refl, ap, sym, subst, ◌∙◌, arith, set}
use Rattle.std.specs.Prelude.{slice_get, insert, remove}
use Rattle.std.proofs.lemmas.Bool.{cases_lt, cases_eq}
use Rattle.range_assembler.specs.declared.sequence.Range.{Range}
use Rattle.range_assembler.specs.Bare.{Leaves, IsGap, IsGaps}
use Rattle.lists.proofs.OnePlace.{get-set_other, get-set_same}
use Rattle.range_assembler.proofs.Changes.{came, left_over, stays, is_new, remains, more_in_order}

-- bare, but for these offsets
abbrev pub Less : (ℕ → ℕ → Type 0) → ℕ → ℕ → ℕ → ℕ → ℕ → Type 0
Less bare its first last file offset = bare file offset × (file ≡ its → first ≤ offset → offset ≤ last → ⊥)

pub set_came : {X : Type 0} (xs : List X) (p : ℕ) (y : X) (k : ℕ) (x : X) → slice_get (set xs p y) k ≡ Some x → ((k ≡ p) × (y ≡ x)) ⊎ ((k ≢ p) × (slice_get xs k ≡ Some x))
set_came [] p y k x is = cc
set_came (z ∷ xs) zero y zero x is = let same : y ≡ x = cc in inl (refl, same)
set_came (z ∷ xs) zero y (suc k) x is = inr (λ e. absurd (omega (arith, e)), is)
set_came (z ∷ xs) (suc p) y zero x is = inr (λ e. absurd (omega (arith, e)), is)
set_came (z ∷ xs) (suc p) y (suc k) x is = elim (set_came xs p y k x is) [
  | inl a ↦ inl (ap (λ n. suc n) a.0, a.1)
  | inr a ↦ inr ((λ e. a.0 (omega (arith, e))), a.1)
]

-- no offset is in two gaps
one_gap : (bare : ℕ → ℕ → Type 0) (files : ℕ) (ranges : List Range) (j k offset : ℕ) (one other : Range) → IsGaps bare files ranges → slice_get ranges j ≡ Some one → slice_get ranges k ≡ Some other → one.file ≡ other.file → one.first ≤ offset → offset ≤ one.last → other.first ≤ offset → offset ≤ other.last → j ≢ k → ⊥
one_gap bare files ranges j k offset one other are first second its a b c d differ = elim (cases_lt j k) [
  | inl less ↦ elim (are.apart j k one other less first second) [
    | inl e ↦ absurd (omega (arith, e, its))
    | inr e ↦ (let f = e.1 in absurd (omega (arith, f, b, c)))
  ]
  | inr more ↦ (let up : k < j = omega (arith, more, differ) in elim (are.apart k j other one up second first) [
    | inl e ↦ absurd (omega (arith, e, its))
    | inr e ↦ (let f = e.1 in absurd (omega (arith, f, d, a)))
  ])
]

same_at : (ranges : List Range) (j k : ℕ) (one other : Range) → slice_get ranges j ≡ Some one → slice_get ranges k ≡ Some other → k ≡ j → one ≡ other
same_at ranges j k one other first second same = let e : Some one ≡ Some other = sym first ∙ ap (λ n. slice_get ranges n) (sym same) ∙ second in cc

-- a gap that loses its end
pub trim_set : (bare : ℕ → ℕ → Type 0) (files : ℕ) (ranges : List Range) (p first : ℕ) (gap : Range) → IsGaps bare files ranges → slice_get ranges p ≡ Some gap → gap.first < first → first ≤ gap.last → IsGaps (Less bare gap.file first gap.last) files (set ranges p record { file = gap.file; segment = gap.segment; first = gap.first; last = first - 1 })
trim_set bare files ranges p first gap are there low high =
    let is = are.each p gap there in
    record {
      apart = λ j k one other less a b. elim (set_came ranges p _ j one a) [
        | inl c ↦ elim (set_came ranges p _ k other b) [
          | inl d ↦ (let e = c.0 in let f = d.0 in absurd (omega (arith, less, e, f)))
          | inr d ↦ subst (λ r. Leaves r other) c.1 (elim (are.apart p k gap other (let e = c.0 in omega (arith, less, e)) there d.1) [
            | inl e ↦ inl e
            | inr e ↦ (let f = e.1 in let g : (first - 1) + 1 < other.first = omega (arith, f, high, low) in inr (e.0, g))
          ])
        ]
        | inr c ↦ elim (set_came ranges p _ k other b) [
          | inl d ↦ subst (λ r. Leaves one r) d.1 (elim (are.apart j p one gap (let e = d.0 in omega (arith, less, e)) c.1 there) [
            | inl e ↦ inl e
            | inr e ↦ inr e
          ])
          | inr d ↦ are.apart j k one other less c.1 d.1
        ]
      ];
      each = λ k range a. elim (set_came ranges p _ k range a) [
        | inl c ↦ subst (λ r. IsGap files r) c.1 (record { its = is.its; low = is.low; some = omega (arith, low); high = (let h = is.high in omega (arith, h, high)) })
        | inr c ↦ are.each k range c.1
      ];
      sound = λ k range offset a from upto. elim (set_came ranges p _ k range a) [
        | inl c ↦ (let e : gap.file ≡ range.file = ap (λ (r : Range). r.file) c.1 in
            let f : gap.first ≡ range.first = ap (λ (r : Range). r.first) c.1 in
            let g : first - 1 ≡ range.last = ap (λ (r : Range). r.last) c.1 in
            (subst (λ n. bare n offset) e (are.sound p gap offset there (omega (arith, f, from)) (omega (arith, g, upto, high))), λ same d h. absurd (omega (arith, g, upto, d, low))))
        | inr c ↦ (are.sound k range offset c.1 from upto, λ same d h. one_gap bare files ranges k p offset range gap are c.1 there same from upto (omega (arith, low, d)) h c.0)
      ];
      whole = λ file offset of one up is_bare. let found = are.whole file offset of one up is_bare.0 in elim (cases_eq found.place p) [
        | inl same ↦ (let e : gap ≡ found.range = same_at ranges p found.place gap found.range there found.there same in
            let f : gap.file ≡ found.range.file = ap (λ (r : Range). r.file) e in
            let g : gap.first ≡ found.range.first = ap (λ (r : Range). r.first) e in
            let h : gap.last ≡ found.range.last = ap (λ (r : Range). r.last) e in
            let a = found.low in let b = found.high in
            elim (cases_lt offset first) [
              | inl less ↦ record { place = p; range = record { file = gap.file; segment = gap.segment; first = gap.first; last = first - 1 }; there = get-set_same ranges p _ gap there; its = f ∙ found.its; low = omega (arith, g, a); high = omega (arith, less) }
              | inr more ↦ absurd (is_bare.1 (sym found.its ∙ sym f) more (omega (arith, h, b)))
            ])
        | inr other ↦ record { place = found.place; range = found.range; there = get-set_other ranges p found.place _ other ∙ found.there; its = found.its; low = found.low; high = found.high }
      ];
    }

-- a gap that is taken out, from its first offset on
pub trim_remove : (bare : ℕ → ℕ → Type 0) (files : ℕ) (ranges : List Range) (p first : ℕ) (gap : Range) → IsGaps bare files ranges → slice_get ranges p ≡ Some gap → first ≡ gap.first → IsGaps (Less bare gap.file first gap.last) files (remove ranges p)
trim_remove bare files ranges p first gap are there low = record {
  apart = λ j k one other less a b. elim (left_over ranges p j one a) [
    | inl c ↦ elim (left_over ranges p k other b) [
      | inl d ↦ are.apart j k one other less c.1 d.1
      | inr d ↦ (let up : j < suc k = omega (arith, less) in are.apart j (suc k) one other up c.1 d.1)
    ]
    | inr c ↦ elim (left_over ranges p k other b) [
      | inl d ↦ (let e = c.0 in let f = d.0 in absurd (omega (arith, less, e, f)))
      | inr d ↦ (let up : suc j < suc k = omega (arith, less) in are.apart (suc j) (suc k) one other up c.1 d.1)
    ]
  ];
  each = λ k range a. elim (left_over ranges p k range a) [ inl c ↦ are.each k range c.1 | inr c ↦ are.each (suc k) range c.1 ];
  sound = λ k range offset a from upto. elim (left_over ranges p k range a) [
    | inl c ↦ (are.sound k range offset c.1 from upto, λ same d h. (let few = c.0 in one_gap bare files ranges k p offset range gap are c.1 there same from upto (omega (arith, low, d)) h (λ e. absurd (omega (arith, e, few)))))
    | inr c ↦ (are.sound (suc k) range offset c.1 from upto, λ same d h. (let few = c.0 in one_gap bare files ranges (suc k) p offset range gap are c.1 there same from upto (omega (arith, low, d)) h (λ e. absurd (omega (arith, e, few)))))
  ];
  whole = λ file offset of one up is_bare. let found = are.whole file offset of one up is_bare.0 in elim (cases_eq found.place p) [
    | inl same ↦ (let e : gap ≡ found.range = same_at ranges p found.place gap found.range there found.there same in
        let f : gap.file ≡ found.range.file = ap (λ (r : Range). r.file) e in
        let g : gap.first ≡ found.range.first = ap (λ (r : Range). r.first) e in
        let h : gap.last ≡ found.range.last = ap (λ (r : Range). r.last) e in
        let a = found.low in let b = found.high in
        absurd (is_bare.1 (sym found.its ∙ sym f) (omega (arith, low, g, a)) (omega (arith, h, b))))
    | inr other ↦ (let listed = remains ranges p found.place found.range found.there other in record { place = listed.place; range = found.range; there = listed.there; its = found.its; low = found.low; high = found.high })
  ];
}

-- one more gap at its place
pub add_gap : (bare more : ℕ → ℕ → Type 0) (files : ℕ) (ranges : List Range) (p : ℕ) (gap : Range) → IsGaps bare files ranges → p ≤ length ranges → IsGap files gap → ((j : ℕ) (one : Range) → j < p → slice_get ranges j ≡ Some one → Leaves one gap) → ((k : ℕ) (other : Range) → p ≤ k → slice_get ranges k ≡ Some other → Leaves gap other) → ((file offset : ℕ) → bare file offset → more file offset) → ((offset : ℕ) → gap.first ≤ offset → offset ≤ gap.last → more gap.file offset) → ((file offset : ℕ) → more file offset → (bare file offset) ⊎ ((file ≡ gap.file) × (gap.first ≤ offset) × (offset ≤ gap.last))) → IsGaps more files (insert ranges p gap)
add_gap bare more files ranges p gap are low is below above grows new back = record {
  apart = more_in_order Leaves ranges p gap low are.apart below above;
  each = λ k range a. elim (came ranges p gap k range low a) [
    | inl c ↦ are.each k range c.1
    | inr c ↦ elim c [ inl d ↦ subst (λ r. IsGap files r) d.1 is | inr d ↦ are.each d.before range d.there ]
  ];
  sound = λ k range offset a from upto. elim (came ranges p gap k range low a) [
    | inl c ↦ grows range.file offset (are.sound k range offset c.1 from upto)
    | inr c ↦ elim c [
      | inl d ↦ (let e : gap.first ≡ range.first = ap (λ (r : Range). r.first) d.1 in let f : gap.last ≡ range.last = ap (λ (r : Range). r.last) d.1 in
          subst (λ n. more n offset) (ap (λ (r : Range). r.file) d.1) (new offset (omega (arith, e, from)) (omega (arith, f, upto))))
      | inr d ↦ grows range.file offset (are.sound d.before range offset d.there from upto)
    ]
  ];
  whole = λ file offset of one up is_bare. elim (back file offset is_bare) [
    | inl c ↦ (let found = are.whole file offset of one up c in let listed = stays ranges p gap found.place found.range found.there in record { place = listed.place; range = found.range; there = listed.there; its = found.its; low = found.low; high = found.high })
    | inr c ↦ (let listed = is_new ranges p gap low in record { place = listed.place; range = gap; there = listed.there; its = sym c.0; low = c.1; high = c.2 })
  ];
}

-- the same gaps, said in other words
pub same_gaps : (bare more : ℕ → ℕ → Type 0) (files : ℕ) (ranges : List Range) → IsGaps bare files ranges → ((file offset : ℕ) → bare file offset → more file offset) → ((file offset : ℕ) → more file offset → bare file offset) → IsGaps more files ranges
same_gaps bare more files ranges are grows back = record {
  apart = are.apart;
  each = are.each;
  sound = λ k range offset a from upto. grows range.file offset (are.sound k range offset a from upto);
  whole = λ file offset of one up is_bare. are.whole file offset of one up (back file offset is_bare);
}
